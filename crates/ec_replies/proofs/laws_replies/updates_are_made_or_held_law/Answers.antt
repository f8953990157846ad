-- By cases on the draft, and on what the update gives.
use Rattle.ec_replies.proofs.DraftLaws.{UpdatesAreMadeOrHeld-law}
use Rattle.ec_replies.proofs.laws_replies.updates_are_made_or_held_law.Goals as goal

pub returns : goal.returns
returns c = UpdatesAreMadeOrHeld-law
