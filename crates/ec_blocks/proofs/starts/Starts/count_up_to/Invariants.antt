-- All numbers in front of `low` are up to `i`, and none from `low + size` on is.
use Rattle.ec_blocks.proofs.HalvingLemmas.{Bracketed}
use Rattle.ec_blocks.proofs.starts.Starts.count_up_to.Given as goal

abbrev pub invariant-loop-size : goal.invariant-loop-size
invariant-loop-size l = Bracketed l.self.items l.i l.low l.size

abbrev pub decreases-loop-size : goal.decreases-loop-size
decreases-loop-size l = l.size
