-- Each kept entry is at one of the instants.
use Rattle.ec_changes.proofs.KeptCounts.{CountsAreSums-law}
use Rattle.ec_changes.proofs.laws_counts.counts_are_sums_law.Goals as goal

pub returns : goal.returns
returns c = CountsAreSums-law
