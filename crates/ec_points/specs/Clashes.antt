-- Clashes: the marks that both initiate and clash, the times at which some property has one, and how many a change adds.
use Rattle.std.specs.Prelude.{◌≡◌, IsTrue, ℕ, ℤ, Bool, true, false, not, nat_lt, int_lt, ◌&&◌, ◌==◌, List, filter, length, Option, Some, None}
use Rattle.std.specs.List.{list_any}
use Rattle.std.specs.Ordering.{int_cmp, int_eq, nat_cmp, is_lt, ordering_then}
use Rattle.std.specs.declared.cmp.Ordering.{Ordering}
use Rattle.ec_rows.specs.declared.mark.Mark.{Mark}
use Rattle.ec_rows.specs.Marks.{mark_at}
use Rattle.ec_rows.specs.Ordered.{is_ascending}
use Rattle.ec_points.specs.declared.clashes.Clash.{Clash}
use Rattle.ec_points.specs.Changes.{Change}
use Rattle.ec_points.specs.SeenRows.{seen_at}
use Rattle.ec_points.specs.Table.{PointTable, marks_in, marks_at}

-- a mark both initiates and clashes
abbrev pub is_clash : {T : Type 0} → Mark T → Bool
is_clash mark = nat_lt 0 mark.inits && nat_lt 0 mark.clashes

-- there is a mark, and it both initiates and clashes
abbrev pub is_some_clash : {T : Type 0} → Option (Mark T) → Bool
is_some_clash None = false
is_some_clash (Some mark) = is_clash mark

-- the mark at t both initiates and clashes
abbrev pub clashes_in : {T : Type 0} → (T → ℤ) → ℤ → List (Mark T) → Bool
clashes_in rank t marks = is_some_clash (mark_at rank t marks)

-- the property of a number has a mark at t that both initiates and clashes
abbrev pub clashes_at : {T : Type 0} → (T → ℤ) → ℕ → ℤ → PointTable T → Bool
clashes_at rank n t points = clashes_in rank t (marks_at n points)

-- some property has one there
abbrev pub some_clash_at : {T : Type 0} → (T → ℤ) → ℤ → PointTable T → Bool
some_clash_at rank t points = list_any (λ row. clashes_in rank t (marks_in row)) points.rows

-- t is behind a time, if one is given
abbrev pub is_behind : {T : Type 0} → (T → ℤ) → Option T → ℤ → Bool
is_behind rank None t = true
is_behind rank (Some after) t = int_lt (rank after) t

-- how many of the changes are clashes where there was none, where `clash n t` tells what there was
abbrev pub new_clashes : {T : Type 0} → (T → ℤ) → (ℕ → ℤ → Bool) → List (Change T) → ℕ
new_clashes rank clash changes = length (filter (λ change. is_clash change.1 && not (clash change.0.0 (rank change.1.at))) changes)

-- ---- the list of clashes

-- clashes go by time, then by number
abbrev pub clash_cmp : {T : Type 0} → (T → ℤ) → Clash T → Clash T → Ordering
clash_cmp rank a b = ordering_then (int_cmp (rank a.at) (rank b.at)) (nat_cmp a.p.0 b.p.0)

-- they are in that order, and none stands there twice
abbrev pub are_clashes : {T : Type 0} → (T → ℤ) → List (Clash T) → Bool
are_clashes rank clashes = is_ascending (λ a b. is_lt (clash_cmp rank a b)) clashes

-- a clash is of a property at t
abbrev pub is_clash_of : {T : Type 0} → (T → ℤ) → ℕ → ℤ → Clash T → Bool
is_clash_of rank n t clash = (clash.p.0 == n) && int_eq (rank clash.at) t

-- the list has the clash of a property at t
abbrev pub has_clash : {T : Type 0} → (T → ℤ) → ℕ → ℤ → List (Clash T) → Bool
has_clash rank n t clashes = list_any (is_clash_of rank n t) clashes

-- what becomes of a clash at a time: a change decides, where there is one
abbrev pub clash_made : {T : Type 0} → Option (Change T) → Bool → Bool
clash_made None old = old
clash_made (Some change) old = is_clash change.1

-- if a time is given that is said to be calm, no property clashes there
abbrev pub IsKnown : {T : Type 0} → (T → ℤ) → Option (T × Bool) → List (Clash T) → Type 0
IsKnown rank None clashes = Unit {0}
IsKnown rank (Some known) clashes = IsTrue known.1 → (n : ℕ) → has_clash rank n (rank known.0) clashes ≡ false

-- the list has the clashes of all rows, and no others
abbrev pub AreClashesOf : {T M : Type 0} → (T → ℤ) → (M → List (Mark T)) → (M → ℕ) → List (Option M) → List (Clash T) → Type 0
AreClashesOf rank marks spare rows clashes = (n : ℕ) (t : ℤ) → has_clash rank n t clashes ≡ clashes_in rank t (marks_in (seen_at marks spare n rows))
