-- What follows from the calls and the tests before it.
use Rattle.std.proofs.Common.{arith}
use Rattle.std.proofs.lemmas.Grind.{common_steps}
use Rattle.ec_outside.proofs.mem_sink.MemSinkSink.write.Goals as goal

pub returns-clause-quiet : goal.returns-clause-quiet
returns-clause-quiet c = grind (arith, common_steps)

pub returns-then-next_fails-clause-faults : goal.returns-then-next_fails-clause-faults
returns-then-next_fails-clause-faults c = grind (arith, common_steps)
