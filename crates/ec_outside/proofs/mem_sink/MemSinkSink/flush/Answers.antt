-- What follows from the calls and the tests before it.
use Rattle.std.proofs.Common.{arith}
use Rattle.std.proofs.lemmas.Grind.{common_steps}
use Rattle.ec_outside.proofs.mem_sink.MemSinkSink.flush.Goals as goal

pub returns-then-next_fails-clause-failed : goal.returns-then-next_fails-clause-failed
returns-then-next_fails-clause-failed c = grind (arith, common_steps)

pub returns-then-next_fails-clause-counted : goal.returns-then-next_fails-clause-counted
returns-then-next_fails-clause-counted c = grind (arith, common_steps)
