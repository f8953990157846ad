-- The count of the marks before the time.
use Rattle.std.proofs.Common.{arith}
use Rattle.std.proofs.lemmas.Grind.{common_steps}
use Rattle.ec_rows.proofs.vec_marks.count_marks_before.Goals as goal

pub returns : goal.returns
returns g c = grind (arith, common_steps)
