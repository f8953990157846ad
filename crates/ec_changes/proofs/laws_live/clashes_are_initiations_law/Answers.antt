-- Each entry that clashes initiates one neighbour.
use Rattle.ec_changes.proofs.LiveMarks.{ClashesAreInitiations-law}
use Rattle.ec_changes.proofs.laws_live.clashes_are_initiations_law.Goals as goal

pub returns : goal.returns
returns c = ClashesAreInitiations-law
