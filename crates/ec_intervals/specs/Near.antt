-- Which properties may hold at a time, told for groups of their numbers, and the reaches of groups.
use Rattle.std.specs.Prelude.{◌≡◌, ◌/◌, Bool, true, false, ℕ, ℤ, List, Option}
use Rattle.std.specs.List.{slice_index_or}
use Rattle.ec_axioms.specs.Timeline.{is_held_at}
use Rattle.ec_numbered.specs.ByNumber.{kept_at}
use Rattle.ec_intervals.specs.declared.near.TheConstants.{GROUP}
use Rattle.ec_intervals.specs.declared.reach.Reach.{Reach}
use Rattle.ec_intervals.specs.Reach.{HasReach}
use Rattle.ec_intervals.specs.Table.{IntervalTable, members_at, plain_intervals}

-- the property of a number may hold: its group is not left out
abbrev pub may_hold : ℕ → List Bool → Bool
may_hold n near = slice_index_or near (n / GROUP) true

-- what is left out does not hold at t
abbrev pub IsNear : {T : Type 0} → (T → ℤ) → ℤ → IntervalTable T → List Bool → Type 0
IsNear rank t table near = (n : ℕ) → may_hold n near ≡ false → is_held_at (plain_intervals rank (members_at n table)) t ≡ false

-- the reach of each group has those of its numbers
abbrev pub AreGrouped : {T : Type 0} → (T → ℤ) → List (Option (Reach T)) → List (Option (Reach T)) → Type 0
AreGrouped rank groups rows = (n : ℕ) → HasReach rank (kept_at (n / GROUP) groups) (kept_at n rows)
