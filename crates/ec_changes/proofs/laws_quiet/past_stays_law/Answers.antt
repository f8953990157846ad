-- Both lists have the same events before that time.
use Rattle.ec_changes.proofs.Past.{PastStays-law}
use Rattle.ec_changes.proofs.laws_quiet.past_stays_law.Goals as goal

pub returns : goal.returns
returns c = PastStays-law
