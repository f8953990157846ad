-- Two counts are zero, and the third is the neighbours'.
use Rattle.ec_changes.proofs.LiveMarks.{NotLiveIsGathered-law}
use Rattle.ec_changes.proofs.laws_live.not_live_is_gathered_law.Goals as goal

pub returns : goal.returns
returns c = NotLiveIsGathered-law
