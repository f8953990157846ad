-- Each entry mentions its head.
use Rattle.ec_changes.proofs.LiveMarks.{MarksAreSmall-law}
use Rattle.ec_changes.proofs.laws_live.marks_are_small_law.Goals as goal

pub returns : goal.returns
returns c = MarksAreSmall-law
