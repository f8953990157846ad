-- Lists in order: what it is for a list to be in order, and the parts that a time or a member cuts out of it.
use Rattle.std.specs.Prelude.{Bool, true, ◌&&◌, List, [], ◌∷◌, ◌++◌, filter, ℤ, int_lt, int_le}
use Rattle.std.specs.List.{list_all, list_any}
use Rattle.std.specs.Ordering.{int_eq}

-- each member stands before all that follow it, by the test
unfoldable pub is_ascending : {X : Type 0} → (X → X → Bool) → List X → Bool
is_ascending stands_before [] = true
is_ascending stands_before (x ∷ xs) = list_all (stands_before x) xs && is_ascending stands_before xs

-- the list with a member in its place, in place of any that stands neither before it nor behind it
abbrev pub with_member : {X : Type 0} → (X → X → Bool) → X → List X → List X
with_member stands_before x xs = filter (λ y. stands_before y x) xs ++ x ∷ filter (λ y. stands_before x y) xs

-- ---- by time

-- a member stands before another where its time is earlier
abbrev pub by_time : {T X : Type 0} → (T → ℤ) → (X → T) → X → X → Bool
by_time rank time x y = int_lt (rank (time x)) (rank (time y))

-- the members whose time is before t
abbrev pub members_before : {T X : Type 0} → (T → ℤ) → (X → T) → ℤ → List X → List X
members_before rank time t xs = filter (λ x. int_lt (rank (time x)) t) xs

-- the members from t on
abbrev pub members_from : {T X : Type 0} → (T → ℤ) → (X → T) → ℤ → List X → List X
members_from rank time t xs = filter (λ x. int_le t (rank (time x))) xs

-- the members up to t and at it
abbrev pub members_up_to : {T X : Type 0} → (T → ℤ) → (X → T) → ℤ → List X → List X
members_up_to rank time t xs = filter (λ x. int_le (rank (time x)) t) xs

-- the members whose time is after t
abbrev pub members_after : {T X : Type 0} → (T → ℤ) → (X → T) → ℤ → List X → List X
members_after rank time t xs = filter (λ x. int_lt t (rank (time x))) xs

-- some member is at t
abbrev pub has_member : {T X : Type 0} → (T → ℤ) → (X → T) → ℤ → List X → Bool
has_member rank time t xs = list_any (λ x. int_eq (rank (time x)) t) xs
