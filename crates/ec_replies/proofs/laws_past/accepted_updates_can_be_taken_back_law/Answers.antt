-- What came is retracted, and what went is asserted: there is room for it.
use Rattle.ec_replies.proofs.TakenBack.{AcceptedUpdatesCanBeTakenBack-law}
use Rattle.ec_replies.proofs.laws_past.accepted_updates_can_be_taken_back_law.Goals as goal

pub returns : goal.returns
returns c = AcceptedUpdatesCanBeTakenBack-law
