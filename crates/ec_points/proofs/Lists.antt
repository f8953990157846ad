-- Facts on lists that rows and changes rest on.
use Rattle.std.proofs.Common.{◌≡◌, ℕ, ◌+◌, ◌-◌, ◌≤◌, ◌<◌, zero, suc, Bool, true, false, List, [], ◌∷◌, length, map, filter, take, drop, get_or, Option, Some, refl, sym, ap, ◌∙◌, ⊎_elim, arith}
use Rattle.std.specs.Prelude.{slice_get}
use Rattle.std.specs.List.{list_all, last_or}
use Rattle.std.specs.List.Sorted.{IsPartitionPoint}
use Rattle.std.proofs.lemmas.Bool.{cases_Bool, and_parts}
use Rattle.std.proofs.lemmas.Option.{slice_get-get_or, slice_get_within, get_or_from_slice_get}
use Rattle.std.proofs.lemmas.List.Elements.{filter_passes}
use Rattle.std.proofs.lemmas.List.Sums.{list_all-from_AllPass}
use Rattle.ec_lists.proofs.Places.{slice_get-take}
use Rattle.ec_rows.specs.Ordered.{is_ascending}
use Rattle.ec_rows.proofs.OrderedLemmas.{ascending-rest}

-- ---- lists in order

pub is_ascending-nil : {X : Type 0} (stands_before : X → X → Bool) (xs : List X) → xs ≡ [] → is_ascending stands_before xs ≡ true
unfolding is_ascending
is_ascending-nil stands_before xs empty = ap (is_ascending stands_before) empty

pub is_ascending-drop : {X : Type 0} (stands_before : X → X → Bool) (i : ℕ) (xs : List X) → is_ascending stands_before xs ≡ true →
    is_ascending stands_before (drop i xs) ≡ true
is_ascending-drop stands_before zero xs ascending = ascending
is_ascending-drop stands_before (suc i) [] ascending = ascending
is_ascending-drop stands_before (suc i) (x ∷ xs) ascending = is_ascending-drop stands_before i xs (ascending-rest stands_before x xs ascending)

-- ---- parts of lists

-- the last of the members up to a place
pub last_or-take : {X Y : Type 0} (f : X → Y) (o : Option Y) (xs : List X) (i : ℕ) (x : X) → slice_get xs i ≡ Some x →
    last_or o (map f (take (suc i) xs)) ≡ Some (f x)
last_or-take f o [] i x is = absurd (let within = slice_get_within [] i x is in omega (arith, within))
last_or-take f o (y ∷ xs) zero x is = ap (λ z. Some (f z)) (get_or_from_slice_get (y ∷ xs) zero x x is)
last_or-take f o (y ∷ xs) (suc i) x is = last_or-take f (Some (f y)) xs i x is

-- the members in front of a place are those that pass a test: the test ends there
pub IsPartitionPoint-from_take : {X : Type 0} (p : X → Bool) (xs : List X) (i : ℕ) → i ≤ length xs → take i xs ≡ filter p xs →
    IsPartitionPoint (λ y. p y ≡ true) (λ y. p y ≡ false) xs i
IsPartitionPoint-from_take p [] zero within is = (λ k d low high. absurd (omega arith), λ k d low high. absurd (omega arith))
IsPartitionPoint-from_take p [] (suc i) within is = absurd (omega arith)
IsPartitionPoint-from_take {X} p (x ∷ xs) zero within is =
    let here : p x ≡ false = ⊎_elim (λ passes. absurd (not_empty passes)) (λ fails. fails) (cases_Bool (p x)) in
    let rest : take zero xs ≡ filter p xs = grind arith in
    let ih = IsPartitionPoint-from_take p xs zero (omega arith) rest in
    (λ k d low high. absurd (omega arith), fails here ih)
  where
    not_empty : p x ≡ true → ⊥
    not_empty passes = let here : [] ≡ x ∷ filter p xs = is ∙ rw passes in cc

    fails : p x ≡ false → IsPartitionPoint (λ y. p y ≡ true) (λ y. p y ≡ false) xs zero → (k : ℕ) (d : X) → 0 ≤ k → k < length (x ∷ xs) → p (get_or (x ∷ xs) k d) ≡ false
    fails here ih zero d low high = here
    fails here ih (suc k) d low high = ih.1 k d (omega arith) (omega arith)
IsPartitionPoint-from_take {X} p (x ∷ xs) (suc i) within is =
    let here : p x ≡ true = (and_parts (p x) (list_all p (take i xs)) (ap (list_all p) is ∙ list_all-from_AllPass p _ (filter_passes p (x ∷ xs)))).0 in
    let rest : take i xs ≡ filter p xs = grind arith in
    let ih = IsPartitionPoint-from_take p xs i (omega arith) rest in
    (passes here ih, fails ih)
  where
    passes : p x ≡ true → IsPartitionPoint (λ y. p y ≡ true) (λ y. p y ≡ false) xs i → (k : ℕ) (d : X) → 0 ≤ k → k < suc i → p (get_or (x ∷ xs) k d) ≡ true
    passes here ih zero d low high = here
    passes here ih (suc k) d low high = ih.0 k d (omega arith) (omega arith)

    fails : IsPartitionPoint (λ y. p y ≡ true) (λ y. p y ≡ false) xs i → (k : ℕ) (d : X) → suc i ≤ k → k < length (x ∷ xs) → p (get_or (x ∷ xs) k d) ≡ false
    fails ih zero d low high = absurd (omega arith)
    fails ih (suc k) d low high = ih.1 k d (omega arith) (omega arith)

-- ---- members of a run

-- the members behind a place
pub slice_get-dropped : {X : Type 0} (xs : List X) (j k : ℕ) → slice_get (drop j xs) k ≡ slice_get xs (j + k)
slice_get-dropped xs zero k = ap (slice_get xs) (let e : k ≡ zero + k = omega arith in e)
slice_get-dropped [] (suc j) k = refl
slice_get-dropped (x ∷ xs) (suc j) k = slice_get-dropped xs j k ∙ ap (slice_get (x ∷ xs)) (let e : suc (j + k) ≡ suc j + k = omega arith in e)

-- a member of a run is the one at its place
pub slice_get-in_run : {X : Type 0} (xs run : List X) (from i : ℕ) (x : X) → run ≡ take (length run) (drop from xs) → from ≤ i → i - from < length run
    → x ≡ get_or run (i - from) x → slice_get xs i ≡ Some x
slice_get-in_run xs run from i x is behind within at =
    ap (slice_get xs) (let e : i ≡ from + (i - from) = omega arith in e)
    ∙ sym (slice_get-dropped xs from (i - from))
    ∙ sym (slice_get-take (drop from xs) (length run) (i - from) within)
    ∙ sym (ap (λ ys. slice_get ys (i - from)) is)
    ∙ slice_get-get_or run (i - from) x within
    ∙ ap Some (sym at)
