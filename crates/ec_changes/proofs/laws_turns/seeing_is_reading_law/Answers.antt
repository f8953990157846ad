-- A literal on what differs is what makes an entry see a change.
use Rattle.ec_changes.proofs.TurnAccounts.{SeeingIsReading-law}
use Rattle.ec_changes.proofs.laws_turns.seeing_is_reading_law.Goals as goal

pub returns : goal.returns
returns c = SeeingIsReading-law
