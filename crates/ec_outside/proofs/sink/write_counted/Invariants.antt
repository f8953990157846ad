use Rattle.std.proofs.Common.{◌-◌, length}
use Rattle.ec_outside.proofs.Streams.{WrittenSoFar}
use Rattle.ec_outside.proofs.sink.write_counted.Given as goal

abbrev pub invariant-loop-written : goal.invariant-loop-written
invariant-loop-written g l = WrittenSoFar g.K.Sink.stands g.K.Sink.faults l.initial.out l.out l.bytes l.written

abbrev pub decreases-loop-written : goal.decreases-loop-written
decreases-loop-written g l = length l.bytes - l.written
