-- Each count of a mark counts the effects that pass one test.
use Rattle.ec_changes.proofs.TurnAccounts.{MarksFollowTurns-law}
use Rattle.ec_changes.proofs.laws_turns.marks_follow_turns_law.Goals as goal

pub returns : goal.returns
returns c = MarksFollowTurns-law
