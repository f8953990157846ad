-- What follows from the calls and the tests before it.
use Rattle.std.proofs.Common.{arith}
use Rattle.std.proofs.lemmas.Grind.{common_steps}
use Rattle.ec_block_rows.proofs.block_marks.BlockMarksMarkRow.put.Goals as goal

pub returns-clause-marks : goal.returns-clause-marks
returns-clause-marks c = grind (arith, common_steps)
