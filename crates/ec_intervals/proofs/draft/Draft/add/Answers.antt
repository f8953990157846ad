-- What follows from the calls and the tests before it.
use Rattle.std.proofs.Common.{arith}
use Rattle.std.proofs.lemmas.Grind.{common_steps}
use Rattle.ec_intervals.proofs.draft.Draft.add.Goals as goal

pub returns-in-Initial-clause-intervals : goal.returns-in-Initial-clause-intervals
returns-in-Initial-clause-intervals c = grind (arith, common_steps)

pub returns-in-At-clause-intervals : goal.returns-in-At-clause-intervals
returns-in-At-clause-intervals c = grind (arith, common_steps)
