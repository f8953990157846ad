-- What passes ends in what is left, or at one of its ends.
use Rattle.std.proofs.Common.{◌+◌, ◌≤◌, Bool, length}
use Rattle.std.specs.Fn.{ComputesKey}
use Rattle.std.specs.List.Sorted.{IsPartitionedBy}
use Rattle.ec_blocks.proofs.SearchLemmas.{Halving}
use Rattle.ec_blocks.proofs.tiers.Tiers.partition_turned.Given as goal

abbrev pub invariant-loop-size : goal.invariant-loop-size
invariant-loop-size g l = record {
  some : 1 ≤ l.size;
  within : l.low + l.size ≤ length l.self.items;
  halving : (p : g.row.T.Denot → Bool) → ComputesKey g.F.Fn p l.pred → IsPartitionedBy p l.self.items → Halving p l.self.items l.low l.size;
}

abbrev pub decreases-loop-size : goal.decreases-loop-size
decreases-loop-size g l = l.size
