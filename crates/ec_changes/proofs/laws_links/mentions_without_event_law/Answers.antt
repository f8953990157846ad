-- No other event of a history has its identity.
use Rattle.ec_changes.proofs.EventMentions.{MentionsWithoutEvent-law}
use Rattle.ec_changes.proofs.laws_links.mentions_without_event_law.Goals as goal

pub returns : goal.returns
returns c = MentionsWithoutEvent-law
