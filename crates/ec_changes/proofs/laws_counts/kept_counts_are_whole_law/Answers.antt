-- None is earlier, or each is.
use Rattle.ec_changes.proofs.KeptCounts.{KeptCountsAreWhole-law}
use Rattle.ec_changes.proofs.laws_counts.kept_counts_are_whole_law.Goals as goal

pub returns : goal.returns
returns c = KeptCountsAreWhole-law
