-- What follows from the calls and the tests before it.
use Rattle.std.proofs.Common.{arith}
use Rattle.std.proofs.lemmas.Grind.{common_steps}
use Rattle.ec_query.proofs.held_list.list_run.Goals as goal

pub returns-clause-listed : goal.returns-clause-listed
returns-clause-listed c = grind (arith, common_steps)

pub loop-p-preserved : goal.loop-p-preserved
loop-p-preserved c = grind (arith, common_steps)
