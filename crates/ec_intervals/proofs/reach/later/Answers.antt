-- What follows from the calls and the tests before it.
use Rattle.std.proofs.Common.{arith}
use Rattle.std.proofs.lemmas.Grind.{common_steps}
use Rattle.ec_intervals.proofs.reach.later.Goals as goal

pub returns-then-is_le-clause-one : goal.returns-then-is_le-clause-one
returns-then-is_le-clause-one c = grind (arith, common_steps)

pub returns-else-is_le-clause-other : goal.returns-else-is_le-clause-other
returns-else-is_le-clause-other c = grind (arith, common_steps)
