-- An event before the next whole number is before this one or at it.
use Rattle.ec_changes.proofs.KeptCounts.{KeptCountsGoOn-law}
use Rattle.ec_changes.proofs.laws_counts.kept_counts_go_on_law.Goals as goal

pub returns : goal.returns
returns c = KeptCountsGoOn-law
