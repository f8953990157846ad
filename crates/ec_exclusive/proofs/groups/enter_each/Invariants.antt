-- The property stands in the groups of the keys so far, and else all groups are what they were.
use Rattle.std.proofs.Common.{◌≡◌, ℕ, ◌&&◌, ◌||◌, List, take}
use Rattle.std.specs.Prelude.{◌==◌}
use Rattle.ec_exclusive.specs.Groups.{in_group, is_among}
use Rattle.ec_exclusive.proofs.groups.enter_each.Given as goal

abbrev pub invariant-loop-key : goal.invariant-loop-key
invariant-loop-key l = (k : List ℕ) (n : ℕ) → in_group l.groups k n ≡ (((l.p.0 == n) && is_among (take l.key-index l.keys) k) || in_group l.initial.groups k n)
