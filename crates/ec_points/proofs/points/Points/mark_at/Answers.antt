-- What follows from the calls and the tests before it.
use Rattle.std.proofs.Common.{arith}
use Rattle.std.proofs.lemmas.Grind.{common_steps}
use Rattle.ec_points.proofs.points.Points.mark_at.Goals as goal

pub returns-in_err-row : goal.returns-in_err-row
returns-in_err-row c = grind (arith, common_steps)

pub returns : goal.returns
returns c = grind (arith, common_steps)
