-- The bytes are appended one after another.
use Rattle.std.proofs.Common.{◌≡◌, take, length, arith}
use Rattle.std.proofs.lemmas.List.{take_more, take_all}
use Rattle.ec_outside.proofs.Streams.{Appended-then, Appended-nil, NothingAppended-refl}
use Rattle.ec_soak.proofs.tally_sink.TallySinkSink.write.Goals as goal

pub loop-byte-init : goal.loop-byte-init
loop-byte-init c = Appended-nil (NothingAppended-refl c.args.self.now)

pub loop-byte-preserved : goal.loop-byte-preserved
loop-byte-preserved c =
    rw (take_more c.args.from.now c.loop-byte.byte-index 0 c.loop-byte-test.true) (Appended-then c.loop-byte.invariant c.take.ensures)

pub returns-clause-appended : goal.returns-clause-appended
returns-clause-appended c =
    let all : take c.loop-byte.byte-index c.args.from.now ≡ c.args.from.now = take_all c.loop-byte.byte-index c.args.from.now c.loop-byte-test.false in
    rw (take_all (length c.args.from.now) c.args.from.now (omega arith)) (rw all at c.loop-byte.invariant)
