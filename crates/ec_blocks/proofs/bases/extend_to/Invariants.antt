-- The numbers so far stay.
use Rattle.std.proofs.Common.{◌≡◌, ℕ, ◌-◌, ◌<◌, ◌≤◌, get_or, vec_len}
use Rattle.ec_blocks.proofs.bases.extend_to.Given as goal

abbrev pub invariant-loop-kept : goal.invariant-loop-kept
invariant-loop-kept l = record {
  same : (k : ℕ) → k < vec_len l.fn.kept → get_or l.kept.items k 0 ≡ get_or l.fn.kept.items k 0;
  more : vec_len l.fn.kept ≤ vec_len l.kept;
}

abbrev pub decreases-loop-kept : goal.decreases-loop-kept
decreases-loop-kept l = l.count - vec_len l.kept
