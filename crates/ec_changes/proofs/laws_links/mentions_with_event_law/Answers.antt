-- The event's mentions move behind those of the events before it.
use Rattle.ec_changes.proofs.EventMentions.{MentionsWithEvent-law}
use Rattle.ec_changes.proofs.laws_links.mentions_with_event_law.Goals as goal

pub returns : goal.returns
returns c = MentionsWithEvent-law
