-- What follows from the calls and the tests before it.
use Rattle.std.proofs.Common.{arith}
use Rattle.std.proofs.lemmas.Grind.{common_steps}
use Rattle.ec_points.proofs.row.clear_row.Goals as goal

pub loop-preserved : goal.loop-preserved
loop-preserved c = grind (arith, common_steps)

pub returns-clause-marks : goal.returns-clause-marks
returns-clause-marks c = grind (arith, common_steps)
