-- What follows from the calls and the tests before it.
use Rattle.std.proofs.Common.{arith}
use Rattle.std.proofs.lemmas.Grind.{common_steps}
use Rattle.ec_intervals.proofs.draft.Draft.close.Goals as goal

pub returns-in-Some-clause-intervals : goal.returns-in-Some-clause-intervals
returns-in-Some-clause-intervals c = grind (arith, common_steps)
