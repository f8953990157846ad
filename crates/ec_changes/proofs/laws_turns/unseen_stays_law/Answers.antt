-- Each literal of the entry agrees alike in both lists.
use Rattle.ec_changes.proofs.TurnAccounts.{UnseenStays-law}
use Rattle.ec_changes.proofs.laws_turns.unseen_stays_law.Goals as goal

pub returns : goal.returns
returns c = UnseenStays-law
