-- What follows from the calls and the tests before it.
use Rattle.std.proofs.Common.{arith}
use Rattle.std.proofs.lemmas.Grind.{common_steps}
use Rattle.ec_points.proofs.row.change_row.Goals as goal

pub returns-else-counts-clause-marks : goal.returns-else-counts-clause-marks
returns-else-counts-clause-marks c = grind (arith, common_steps)

pub returns-then-counts-clause-spare : goal.returns-then-counts-clause-spare
returns-then-counts-clause-spare c = grind (arith, common_steps)

pub put-requires-clause-room : goal.put-requires-clause-room
put-requires-clause-room c = grind (arith, common_steps)

pub returns-then-counts-clause-marks : goal.returns-then-counts-clause-marks
returns-then-counts-clause-marks c = grind (arith, common_steps)
