-- No entry of a quiet instant reads what differs.
use Rattle.ec_changes.proofs.KeptCounts.{QuietCountsNothing-law}
use Rattle.ec_changes.proofs.laws_counts.quiet_counts_nothing_law.Goals as goal

pub returns : goal.returns
returns c = QuietCountsNothing-law
