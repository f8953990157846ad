-- The test of intervals passes the same intervals alone.
use Rattle.ec_changes.proofs.OtherIntervals.{OtherIntervalsDiffer-law}
use Rattle.ec_changes.proofs.laws_counts.other_intervals_differ_law.Goals as goal

pub returns : goal.returns
returns c = OtherIntervalsDiffer-law
