use Rattle.std.proofs.Common.{take}
use Rattle.ec_outside.specs.Streams.{Appended}
use Rattle.ec_soak.specs.Tally.{stands_for_tally}
use Rattle.ec_soak.proofs.tally_sink.TallySinkSink.write.Given as goal

-- the bytes so far were appended
abbrev pub invariant-loop-byte : goal.invariant-loop-byte
invariant-loop-byte l = Appended stands_for_tally l.initial.self l.self (take l.byte-index l.from)
