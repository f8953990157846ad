-- The row's marks are those of the `Vec`.
use Rattle.std.proofs.Common.{arith}
use Rattle.std.proofs.lemmas.Grind.{common_steps}
use Rattle.ec_rows.proofs.vec_marks.VecMarksMarkRow.put.Goals as goal

pub returns-clause-marks : goal.returns-clause-marks
returns-clause-marks g c = rw (← c.self.view_is) c.put_mark.ensures.marks

pub put_mark-requires-clause-room : goal.put_mark-requires-clause-room
put_mark-requires-clause-room g c = grind (arith, common_steps)

pub returns-clause-spare : goal.returns-clause-spare
returns-clause-spare g c = grind (arith, common_steps)
