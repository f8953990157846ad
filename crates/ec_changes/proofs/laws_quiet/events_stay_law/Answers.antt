-- Each event there stands in both lists.
use Rattle.ec_changes.proofs.Past.{EventsStay-law}
use Rattle.ec_changes.proofs.laws_quiet.events_stay_law.Goals as goal

pub returns : goal.returns
returns c = EventsStay-law
