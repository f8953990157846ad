-- Each count follows what was gained and lost.
use Rattle.ec_revise.proofs.TurnedMarks.{MarksAreAfterTurns-law}
use Rattle.ec_revise.proofs.laws.marks_are_after_turns_law.Goals as goal

pub returns : goal.returns
returns c = MarksAreAfterTurns-law
