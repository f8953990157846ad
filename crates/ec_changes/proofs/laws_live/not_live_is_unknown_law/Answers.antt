-- No entry has the property for its head, and it is not initial.
use Rattle.ec_changes.proofs.LiveMarks.{NotLiveIsUnknown-law}
use Rattle.ec_changes.proofs.laws_live.not_live_is_unknown_law.Goals as goal

pub returns : goal.returns
returns c = NotLiveIsUnknown-law
