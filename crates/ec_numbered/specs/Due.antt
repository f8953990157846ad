-- Properties that are due at times: their order, and a list of them with one more.
use Rattle.std.specs.Prelude.{◌==◌, ◌&&◌, ◌||◌, ℕ, ℤ, Bool, int_lt, nat_lt, List}
use Rattle.std.specs.List.{list_any}
use Rattle.std.specs.Ordering.{int_eq}
use Rattle.ec_terms.specs.declared.ids.PropId.{PropId}
use Rattle.ec_rows.specs.Ordered.{is_ascending, with_member}

-- a property that is due at a time
abbrev pub Due : Type 0 → Type 0
Due T = T × PropId

-- a due property comes before another where its time is earlier, or the same and its number less
abbrev pub comes_before : {T : Type 0} → (T → ℤ) → Due T → Due T → Bool
comes_before rank x y = int_lt (rank x.0) (rank y.0) || (int_eq (rank x.0) (rank y.0) && nat_lt x.1.0 y.1.0)

-- a due property has a time and a number
abbrev pub is_due : {T : Type 0} → (T → ℤ) → ℤ → ℕ → Due T → Bool
is_due rank t n x = int_eq (rank x.0) t && (x.1.0 == n)

-- they are in order, by time and then by number, and none stands there twice
abbrev pub are_in_order : {T : Type 0} → (T → ℤ) → List (Due T) → Bool
are_in_order rank dues = is_ascending (comes_before rank) dues

-- the property of a number is due at a time
abbrev pub has_due : {T : Type 0} → (T → ℤ) → ℤ → ℕ → List (Due T) → Bool
has_due rank t n dues = list_any (is_due rank t n) dues

-- the list with a due property in its place
abbrev pub with_due : {T : Type 0} → (T → ℤ) → Due T → List (Due T) → List (Due T)
with_due rank x dues = with_member (comes_before rank) x dues
