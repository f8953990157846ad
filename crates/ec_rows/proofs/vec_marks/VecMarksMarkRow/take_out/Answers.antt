-- The row's marks are those of the `Vec`.
use Rattle.std.proofs.Common.{arith}
use Rattle.std.proofs.lemmas.Grind.{common_steps}
use Rattle.ec_rows.proofs.vec_marks.VecMarksMarkRow.take_out.Goals as goal

pub returns-clause-mark : goal.returns-clause-mark
returns-clause-mark g c = rw (← c.self.view_is) c.take_out_mark.ensures.mark

pub returns-clause-marks : goal.returns-clause-marks
returns-clause-marks g c = rw (← c.self.view_is) c.take_out_mark.ensures.marks

pub returns-clause-spare : goal.returns-clause-spare
returns-clause-spare g c = grind (arith, common_steps)

pub take_out_mark-requires-clause-within : goal.take_out_mark-requires-clause-within
take_out_mark-requires-clause-within g c = grind (arith, common_steps)
