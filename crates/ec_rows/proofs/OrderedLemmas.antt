-- Lists in order. A test that keeps to one side cuts an ascending list in two; what a place cuts out is what
-- the tests of before and after keep; and edits at a place keep the order.
use Rattle.std.proofs.Common.{◌≡◌, ℕ, ◌<◌, ◌≤◌, zero, suc, Bool, true, false, not, cond, ◌&&◌, List, [], ◌∷◌, ◌++◌, length, filter, find, Some, get_or, take, drop, set, refl, sym, ap, ap₂, ◌∙◌, ⊎_elim, true≢false, arith}
use Rattle.std.specs.Cmp.{IsTotalOrder}
use Rattle.std.specs.declared.cmp.Ordering.{Ordering}
use Rattle.std.specs.declared.cmp.Ordering.TheVariants.{Less, Equal, Greater}
use Rattle.std.specs.Ordering.{is_lt, is_eq, ordering_reverse}
use Rattle.std.specs.List.{list_all, list_any, insert, remove}
use Rattle.std.specs.List.Sorted.{IsPartitionedBy, IsPartitionPoint}
use Rattle.std.proofs.lemmas.Bool.{cases_Bool}
use Rattle.std.proofs.lemmas.List.{set_split, length-take-le}
use Rattle.std.proofs.lemmas.List.Elements.{filter_passes}
use Rattle.std.proofs.lemmas.List.Sums.{AllPass-from_list_all, list_all-from_AllPass}
use Rattle.std.proofs.lemmas.List.Folds.{list_all-append}
use Rattle.ec_rows.specs.Ordered.{is_ascending, with_member}
use Rattle.ec_lists.proofs.Booleans.{and-left, and-right}
use Rattle.ec_lists.proofs.Filters.{filter-all}
use Rattle.ec_lists.proofs.Orderings.{Less-from_is_lt}
use Rattle.ec_lists.proofs.Tests.{list_any-none, list_any-none_at, list_all-weaker, list_all-filter, list_all-remove}

-- ---- tests of all members

-- the first member of an ascending list stands before all others
pub ascending-first : {X : Type 0} (stands_before : X → X → Bool) (x : X) (xs : List X) → is_ascending stands_before (x ∷ xs) ≡ true →
    list_all (stands_before x) xs ≡ true
unfolding is_ascending
ascending-first stands_before x xs ascending = and-left (list_all (stands_before x) xs) (is_ascending stands_before xs) ascending

-- and the others ascend
pub ascending-rest : {X : Type 0} (stands_before : X → X → Bool) (x : X) (xs : List X) → is_ascending stands_before (x ∷ xs) ≡ true →
    is_ascending stands_before xs ≡ true
unfolding is_ascending
ascending-rest stands_before x xs ascending = and-right (list_all (stands_before x) xs) (is_ascending stands_before xs) ascending

-- ---- the cut that a search finds

-- What stands before a member that passes, passes: the test cuts an ascending list in two.
pub IsPartitionedBy-ascending : {X : Type 0} (stands_before : X → X → Bool) (p : X → Bool) →
    ((x y : X) → stands_before x y ≡ true → p y ≡ true → p x ≡ true) →
    (xs : List X) → is_ascending stands_before xs ≡ true → IsPartitionedBy p xs
unfolding is_ascending
IsPartitionedBy-ascending stands_before p keeps [] ascending i j d le within passes = absurd (omega arith)
IsPartitionedBy-ascending stands_before p keeps (x ∷ xs) ascending zero zero d le within passes = passes
IsPartitionedBy-ascending stands_before p keeps (x ∷ xs) ascending zero (suc j) d le within passes =
    keeps x (get_or xs j d) (AllPass-from_list_all (stands_before x) xs (ascending-first stands_before x xs ascending) j d (omega arith)) passes
IsPartitionedBy-ascending stands_before p keeps (x ∷ xs) ascending (suc i) zero d le within passes = absurd (omega arith)
IsPartitionedBy-ascending stands_before p keeps (x ∷ xs) ascending (suc i) (suc j) d le within passes =
    IsPartitionedBy-ascending stands_before p keeps xs (ascending-rest stands_before x xs ascending) i j d (omega arith) (omega arith) passes

-- the cut of the rest of a list
IsPartitionPoint-rest : {X : Type 0} (p : X → Bool) (x : X) (xs : List X) (i : ℕ) →
    IsPartitionPoint (λ y. p y ≡ true) (λ y. p y ≡ false) (x ∷ xs) (suc i) → IsPartitionPoint (λ y. p y ≡ true) (λ y. p y ≡ false) xs i
IsPartitionPoint-rest p x xs i cut =
    (λ k d low high. cut.0 (suc k) d (omega arith) (omega arith), λ k d low high. cut.1 (suc k) d (omega arith) (omega arith))

-- where nothing passes, nothing of the rest does
IsPartitionPoint-none : {X : Type 0} (p : X → Bool) (x : X) (xs : List X) →
    IsPartitionPoint (λ y. p y ≡ true) (λ y. p y ≡ false) (x ∷ xs) zero → IsPartitionPoint (λ y. p y ≡ true) (λ y. p y ≡ false) xs zero
IsPartitionPoint-none p x xs cut = (λ k d low high. absurd (omega arith), λ k d low high. cut.1 (suc k) d (omega arith) (omega arith))

-- the part in front of the cut is what passes
pub take-partition : {X : Type 0} (p : X → Bool) (xs : List X) (i : ℕ) → IsPartitionPoint (λ y. p y ≡ true) (λ y. p y ≡ false) xs i →
    take i xs ≡ filter p xs
take-partition p [] zero cut = refl
take-partition p [] (suc i) cut = refl
take-partition p (x ∷ xs) zero cut =
    let here : p x ≡ false = cut.1 zero x (omega arith) (omega arith) in
    let ih = take-partition p xs zero (IsPartitionPoint-none p x xs cut) in grind arith
take-partition p (x ∷ xs) (suc i) cut =
    let here : p x ≡ true = cut.0 zero x (omega arith) (omega arith) in
    let ih = take-partition p xs i (IsPartitionPoint-rest p x xs i cut) in grind arith

-- and the part behind it is what does not
pub drop-partition : {X : Type 0} (p q : X → Bool) → ((x : X) → q x ≡ not (p x)) → (xs : List X) (i : ℕ) →
    IsPartitionPoint (λ y. p y ≡ true) (λ y. p y ≡ false) xs i → drop i xs ≡ filter q xs
drop-partition p q other [] zero cut = refl
drop-partition p q other [] (suc i) cut = refl
drop-partition p q other (x ∷ xs) zero cut =
    let here : p x ≡ false = cut.1 zero x (omega arith) (omega arith) in
    let there = other x in
    let ih = drop-partition p q other xs zero (IsPartitionPoint-none p x xs cut) in grind arith
drop-partition p q other (x ∷ xs) (suc i) cut =
    let here : p x ≡ true = cut.0 zero x (omega arith) (omega arith) in
    let there = other x in
    let ih = drop-partition p q other xs i (IsPartitionPoint-rest p x xs i cut) in grind arith

-- what passes, counted
pub length-partition : {X : Type 0} (p : X → Bool) (xs : List X) (i : ℕ) → i ≤ length xs → IsPartitionPoint (λ y. p y ≡ true) (λ y. p y ≡ false) xs i →
    i ≡ length (filter p xs)
length-partition p xs i within cut = sym (length-take-le i xs within) ∙ ap length (take-partition p xs i cut)

-- what is found at the cut, by a test that no member in front of it passes
pub find-at_cut : {X : Type 0} (p q : X → Bool) → ((x : X) → p x ≡ true → q x ≡ false) → (xs : List X) (i : ℕ) (x : X) →
    IsPartitionPoint (λ y. p y ≡ true) (λ y. p y ≡ false) xs i → i < length xs → x ≡ get_or xs i x → q x ≡ true → find q xs ≡ Some x
find-at_cut p q apart [] i x cut within is passes = absurd (omega arith)
find-at_cut p q apart (y ∷ xs) zero x cut within is passes = rw (← is) (ap (λ b. cond b (Some x) (find q xs)) passes)
find-at_cut p q apart (y ∷ xs) (suc i) x cut within is passes =
    let here : q y ≡ false = apart y (cut.0 zero y (omega arith) (omega arith)) in
    ap (λ b. cond b (Some y) (find q xs)) here ∙ find-at_cut p q apart xs i x (IsPartitionPoint-rest p y xs i cut) (omega arith) is passes

-- ---- the place of a key

-- A place in an order: p holds of what stands before it, q of what stands behind it. What stands before a member
-- before the place is before it; what stands behind a member that is not before the place is behind it.
pub record IsPlace {X : Type 0} (stands_before : X → X → Bool) (p q : X → Bool) : Type 0 where
  pub keeps : (x y : X) → stands_before x y ≡ true → p y ≡ true → p x ≡ true
  pub rises : (x y : X) → stands_before x y ≡ true → p x ≡ false → q y ≡ true
  pub apart : (x : X) → p x ≡ true → q x ≡ false

-- a member is at the place
abbrev pub is_at : {X : Type 0} → (X → Bool) → (X → Bool) → X → Bool
is_at p q x = not (p x) && not (q x)

-- behind a member that is not before the place all is behind the place
rises-all : {X : Type 0} (stands_before : X → X → Bool) (p q : X → Bool) → IsPlace stands_before p q → (x : X) → p x ≡ false →
    (xs : List X) → list_all (stands_before x) xs ≡ true → list_all q xs ≡ true
rises-all stands_before p q place x here xs all = list_all-weaker (stands_before x) q (λ y e. place.rises x y e here) xs all

-- what is behind the place is not at it
behind-not_at : {X : Type 0} (p q : X → Bool) (xs : List X) → list_all q xs ≡ true → list_all (λ x. not (is_at p q x)) xs ≡ true
behind-not_at p q xs all = list_all-weaker q (λ x. not (is_at p q x)) (λ x e. grind arith) xs all

-- a member stands at the place that the search finds: what is behind the place is what follows it
pub filter-behind_at : {X : Type 0} (stands_before : X → X → Bool) (p q : X → Bool) → IsPlace stands_before p q → (xs : List X) (i : ℕ) (d : X) →
    is_ascending stands_before xs ≡ true → IsPartitionPoint (λ y. p y ≡ true) (λ y. p y ≡ false) xs i → i < length xs → q (get_or xs i d) ≡ false →
    filter q xs ≡ drop (suc i) xs
unfolding is_ascending
filter-behind_at stands_before p q place [] i d ascending cut within here = absurd (omega arith)
filter-behind_at stands_before p q place (x ∷ xs) zero d ascending cut within here =
    let all = filter-all q xs (rises-all stands_before p q place x (cut.1 zero x (omega arith) (omega arith)) xs (ascending-first stands_before x xs ascending)) in grind arith
filter-behind_at stands_before p q place (x ∷ xs) (suc i) d ascending cut within here =
    let before : q x ≡ false = place.apart x (cut.0 zero x (omega arith) (omega arith)) in
    let ih : filter q xs ≡ drop (suc i) xs =
    filter-behind_at stands_before p q place xs i d (ascending-rest stands_before x xs ascending) (IsPartitionPoint-rest p x xs i cut) (omega arith) here in grind arith

-- some member is at the place
pub list_any-at : {X : Type 0} (stands_before : X → X → Bool) (p q : X → Bool) → IsPlace stands_before p q → (xs : List X) (i : ℕ) (d : X) →
    IsPartitionPoint (λ y. p y ≡ true) (λ y. p y ≡ false) xs i → i < length xs → q (get_or xs i d) ≡ false → list_any (is_at p q) xs ≡ true
list_any-at stands_before p q place [] i d cut within here = absurd (omega arith)
list_any-at stands_before p q place (x ∷ xs) zero d cut within here =
    let there : p x ≡ false = cut.1 zero x (omega arith) (omega arith) in grind arith
list_any-at stands_before p q place (x ∷ xs) (suc i) d cut within here =
    let ih = list_any-at stands_before p q place xs i d (IsPartitionPoint-rest p x xs i cut) (omega arith) here in grind arith

-- and it is the only one
pub filter-not_at : {X : Type 0} (stands_before : X → X → Bool) (p q : X → Bool) → IsPlace stands_before p q → (xs : List X) (i : ℕ) (d : X) →
    is_ascending stands_before xs ≡ true → IsPartitionPoint (λ y. p y ≡ true) (λ y. p y ≡ false) xs i → i < length xs → q (get_or xs i d) ≡ false →
    filter (λ x. not (is_at p q x)) xs ≡ remove xs i
unfolding is_ascending
filter-not_at stands_before p q place [] i d ascending cut within here = absurd (omega arith)
filter-not_at stands_before p q place (x ∷ xs) zero d ascending cut within here =
    let there : p x ≡ false = cut.1 zero x (omega arith) (omega arith) in
    let behind = rises-all stands_before p q place x there xs (ascending-first stands_before x xs ascending) in
    let all = filter-all (λ y. not (is_at p q y)) xs (behind-not_at p q xs behind) in grind arith
filter-not_at stands_before p q place (x ∷ xs) (suc i) d ascending cut within here =
    let there : p x ≡ true = cut.0 zero x (omega arith) (omega arith) in
    let ih : filter (λ y. not (is_at p q y)) xs ≡ remove xs i =
    filter-not_at stands_before p q place xs i d (ascending-rest stands_before x xs ascending) (IsPartitionPoint-rest p x xs i cut) (omega arith) here in grind arith

-- no member is at the place: what is behind it is all from there on
pub filter-behind_free : {X : Type 0} (stands_before : X → X → Bool) (p q : X → Bool) → IsPlace stands_before p q → (xs : List X) (i : ℕ) →
    is_ascending stands_before xs ≡ true → IsPartitionPoint (λ y. p y ≡ true) (λ y. p y ≡ false) xs i → ((d : X) → i < length xs → q (get_or xs i d) ≡ true) →
    filter q xs ≡ drop i xs
unfolding is_ascending
filter-behind_free stands_before p q place [] zero ascending cut free = refl
filter-behind_free stands_before p q place [] (suc i) ascending cut free = refl
filter-behind_free stands_before p q place (x ∷ xs) zero ascending cut free =
    let here : q x ≡ true = free x (omega arith) in
    let all = filter-all q xs (rises-all stands_before p q place x (cut.1 zero x (omega arith) (omega arith)) xs (ascending-first stands_before x xs ascending)) in grind arith
filter-behind_free stands_before p q place (x ∷ xs) (suc i) ascending cut free =
    let before : q x ≡ false = place.apart x (cut.0 zero x (omega arith) (omega arith)) in
    let ih : filter q xs ≡ drop i xs =
    filter-behind_free stands_before p q place xs i (ascending-rest stands_before x xs ascending) (IsPartitionPoint-rest p x xs i cut) (λ d lt. free d (omega arith)) in grind arith

-- and none is
pub list_any-free : {X : Type 0} (stands_before : X → X → Bool) (p q : X → Bool) → IsPlace stands_before p q → (xs : List X) (i : ℕ) →
    is_ascending stands_before xs ≡ true → IsPartitionPoint (λ y. p y ≡ true) (λ y. p y ≡ false) xs i → ((d : X) → i < length xs → q (get_or xs i d) ≡ true) →
    list_any (is_at p q) xs ≡ false
unfolding is_ascending
list_any-free stands_before p q place [] i ascending cut free = refl
list_any-free stands_before p q place (x ∷ xs) zero ascending cut free =
    let here : q x ≡ true = free x (omega arith) in
    let behind = rises-all stands_before p q place x (cut.1 zero x (omega arith) (omega arith)) xs (ascending-first stands_before x xs ascending) in
    let none = list_any-none (is_at p q) xs (behind-not_at p q xs behind) in grind arith
list_any-free stands_before p q place (x ∷ xs) (suc i) ascending cut free =
    let before : p x ≡ true = cut.0 zero x (omega arith) (omega arith) in
    let ih : list_any (is_at p q) xs ≡ false =
    list_any-free stands_before p q place xs i (ascending-rest stands_before x xs ascending) (IsPartitionPoint-rest p x xs i cut) (λ d lt. free d (omega arith)) in grind arith

-- where no member is at the place, the one at the cut is behind it
pub free-from_none : {X : Type 0} (p q : X → Bool) (xs : List X) (i : ℕ) → IsPartitionPoint (λ y. p y ≡ true) (λ y. p y ≡ false) xs i →
    list_any (is_at p q) xs ≡ false → (d : X) → i < length xs → q (get_or xs i d) ≡ true
free-from_none p q xs i cut none d within =
    let not_before : p (get_or xs i d) ≡ false = cut.1 i d (omega arith) within in
    let not_at : is_at p q (get_or xs i d) ≡ false = list_any-none_at (is_at p q) xs i d none within in
    from_both (p (get_or xs i d)) (q (get_or xs i d)) not_before not_at
  where
    from_both : (a b : Bool) → a ≡ false → (not a && not b) ≡ false → b ≡ true
    from_both a b = grind arith

-- where some member is at the place, the search finds it
pub at-from_any : {X : Type 0} (stands_before : X → X → Bool) (p q : X → Bool) → IsPlace stands_before p q → (xs : List X) (i : ℕ) →
    is_ascending stands_before xs ≡ true → IsPartitionPoint (λ y. p y ≡ true) (λ y. p y ≡ false) xs i → list_any (is_at p q) xs ≡ true →
    (i < length xs) × ((d : X) → q (get_or xs i d) ≡ false)
at-from_any stands_before p q place [] i ascending cut any = cc
at-from_any stands_before p q place (x ∷ xs) zero ascending cut any =
    ⊎_elim (λ behind. absurd (true≢false (sym any ∙ list_any-free stands_before p q place (x ∷ xs) zero ascending cut (λ d lt. behind))))
    (λ here. (omega arith, λ d. here)) (cases_Bool (q x))
at-from_any stands_before p q place (x ∷ xs) (suc i) ascending cut any =
    let before : p x ≡ true = cut.0 zero x (omega arith) (omega arith) in
    let rest : list_any (is_at p q) xs ≡ true = grind arith in
    let ih = at-from_any stands_before p q place xs i (ascending-rest stands_before x xs ascending) (IsPartitionPoint-rest p x xs i cut) rest in
    (omega arith, ih.1)

-- ---- edits that keep the order

-- members left out
pub is_ascending-filter : {X : Type 0} (stands_before : X → X → Bool) (p : X → Bool) (xs : List X) → is_ascending stands_before xs ≡ true →
    is_ascending stands_before (filter p xs) ≡ true
unfolding is_ascending
is_ascending-filter stands_before p [] ascending = refl
is_ascending-filter stands_before p (x ∷ xs) ascending =
    let ih : is_ascending stands_before (filter p xs) ≡ true = is_ascending-filter stands_before p xs (ascending-rest stands_before x xs ascending) in
    let rest = list_all-filter (stands_before x) p xs (ascending-first stands_before x xs ascending) in grind arith

-- one taken out
pub is_ascending-remove : {X : Type 0} (stands_before : X → X → Bool) (xs : List X) (i : ℕ) → is_ascending stands_before xs ≡ true →
    is_ascending stands_before (remove xs i) ≡ true
unfolding is_ascending
is_ascending-remove stands_before [] zero ascending = refl
is_ascending-remove stands_before [] (suc i) ascending = refl
is_ascending-remove stands_before (x ∷ xs) zero ascending = ascending-rest stands_before x xs ascending
is_ascending-remove stands_before (x ∷ xs) (suc i) ascending =
    let ih : is_ascending stands_before (remove xs i) ≡ true = is_ascending-remove stands_before xs i (ascending-rest stands_before x xs ascending) in
    let rest : list_all (stands_before x) (remove xs i) ≡ true = list_all-remove (stands_before x) xs i (ascending-first stands_before x xs ascending) in
    ap (λ b. b && is_ascending stands_before (remove xs i)) rest ∙ ih

-- nothing behind a member that is not before x stands before x
filter-before_none : {X : Type 0} (stands_before : X → X → Bool) →
    ((x y z : X) → stands_before x y ≡ true → stands_before y z ≡ true → stands_before x z ≡ true) →
    (x y : X) (xs : List X) → list_all (stands_before y) xs ≡ true → stands_before y x ≡ false → filter (λ z. stands_before z x) xs ≡ []
filter-before_none stands_before trans x y [] all not_before = refl
filter-before_none stands_before trans x y (z ∷ xs) all not_before =
    let ih = filter-before_none stands_before trans x y xs in let step = trans y z x in grind arith

-- a list with x in front of what stands behind x
is_ascending-behind : {X : Type 0} (stands_before : X → X → Bool) (x : X) (xs : List X) → is_ascending stands_before xs ≡ true →
    is_ascending stands_before (x ∷ filter (λ y. stands_before x y) xs) ≡ true
unfolding is_ascending
is_ascending-behind stands_before x xs ascending =
    let rest : is_ascending stands_before (filter (λ y. stands_before x y) xs) ≡ true = is_ascending-filter stands_before (λ y. stands_before x y) xs ascending in
    let front : list_all (stands_before x) (filter (λ y. stands_before x y) xs) ≡ true =
    list_all-from_AllPass (stands_before x) _ (filter_passes (λ y. stands_before x y) xs) in
    ap (λ b. b && is_ascending stands_before (filter (λ y. stands_before x y) xs)) front ∙ rest

-- an order: it goes on through a third, and does not hold both ways round
pub record IsOrder {X : Type 0} (stands_before : X → X → Bool) : Type 0 where
  pub transitive : (x y z : X) → stands_before x y ≡ true → stands_before y z ≡ true → stands_before x z ≡ true
  pub one_way : (x y : X) → stands_before x y ≡ true → stands_before y x ≡ false

-- what holds of a member and of a list holds of the list with that member
pub list_all-with_member : {X : Type 0} (stands_before : X → X → Bool) (p : X → Bool) (x : X) (xs : List X) → p x ≡ true → list_all p xs ≡ true →
    list_all p (with_member stands_before x xs) ≡ true
list_all-with_member stands_before p x xs here all =
    let front : list_all p (filter (λ y. stands_before y x) xs) ≡ true = list_all-filter p (λ y. stands_before y x) xs all in
    let rest : list_all p (filter (λ y. stands_before x y) xs) ≡ true = list_all-filter p (λ y. stands_before x y) xs all in
    list_all-append p (filter (λ y. stands_before y x) xs) (x ∷ filter (λ y. stands_before x y) xs) ∙ grind arith

-- in front of a member that stands before x
with_member-behind_first : {X : Type 0} (stands_before : X → X → Bool) → IsOrder stands_before → (x y : X) (xs : List X) →
    stands_before y x ≡ true → list_all (stands_before y) xs ≡ true → is_ascending stands_before (with_member stands_before x xs) ≡ true →
    is_ascending stands_before (with_member stands_before x (y ∷ xs)) ≡ true
unfolding is_ascending
with_member-behind_first stands_before order x y xs here all ascending =
    let back : stands_before x y ≡ false = order.one_way y x here in
    let front : list_all (stands_before y) (with_member stands_before x xs) ≡ true = list_all-with_member stands_before (stands_before y) x xs here all in
    rw (here, back) (ap (λ b. b && is_ascending stands_before (with_member stands_before x xs)) front ∙ ascending)

-- in front of all, where the first member does not stand before x
with_member-first : {X : Type 0} (stands_before : X → X → Bool) → IsOrder stands_before → (x y : X) (xs : List X) →
    stands_before y x ≡ false → is_ascending stands_before (y ∷ xs) ≡ true → is_ascending stands_before (with_member stands_before x (y ∷ xs)) ≡ true
with_member-first stands_before order x y xs here ascending =
    let none : filter (λ z. stands_before z x) xs ≡ [] =
    filter-before_none stands_before order.transitive x y xs (ascending-first stands_before y xs ascending) here in
    let rest : is_ascending stands_before (x ∷ filter (λ z. stands_before x z) (y ∷ xs)) ≡ true = is_ascending-behind stands_before x (y ∷ xs) ascending in
    let empty : filter (λ z. stands_before z x) (y ∷ xs) ≡ [] =
    ap (λ b. cond b (y ∷ filter (λ z. stands_before z x) xs) (filter (λ z. stands_before z x) xs)) here ∙ none in
    ap (λ zs. is_ascending stands_before (zs ++ x ∷ filter (λ z. stands_before x z) (y ∷ xs))) empty ∙ rest

-- one put in its place
pub is_ascending-with_member : {X : Type 0} (stands_before : X → X → Bool) → IsOrder stands_before →
    (x : X) (xs : List X) → is_ascending stands_before xs ≡ true → is_ascending stands_before (with_member stands_before x xs) ≡ true
unfolding is_ascending
is_ascending-with_member stands_before order x [] ascending = refl
is_ascending-with_member stands_before order x (y ∷ xs) ascending =
    let ih : is_ascending stands_before (with_member stands_before x xs) ≡ true =
    is_ascending-with_member stands_before order x xs (ascending-rest stands_before y xs ascending) in
    ⊎_elim (λ here. with_member-behind_first stands_before order x y xs here (ascending-first stands_before y xs ascending) ih)
    (λ here. with_member-first stands_before order x y xs here ascending) (cases_Bool (stands_before y x))

-- a member goes in front of the first that it stands before
pub with_member-front : {X : Type 0} (stands_before : X → X → Bool) → IsOrder stands_before → (x y : X) (xs : List X) →
    stands_before x y ≡ true → is_ascending stands_before (y ∷ xs) ≡ true → with_member stands_before x (y ∷ xs) ≡ x ∷ y ∷ xs
with_member-front stands_before order x y xs here ascending =
    let back : stands_before y x ≡ false = order.one_way x y here in
    let none : filter (λ z. stands_before z x) xs ≡ [] =
    filter-before_none stands_before order.transitive x y xs (ascending-first stands_before y xs ascending) back in
    let behind : list_all (stands_before x) xs ≡ true =
    list_all-weaker (stands_before y) (stands_before x) (λ z e. order.transitive x y z here e) xs (ascending-first stands_before y xs ascending) in
    let rest : filter (λ z. stands_before x z) xs ≡ xs = filter-all (stands_before x) xs behind in grind arith

-- and behind a first that stands before it
pub with_member-later : {X : Type 0} (stands_before : X → X → Bool) → IsOrder stands_before → (x y : X) (xs : List X) →
    stands_before y x ≡ true → with_member stands_before x (y ∷ xs) ≡ y ∷ with_member stands_before x xs
with_member-later stands_before order x y xs here = let back : stands_before x y ≡ false = order.one_way y x here in grind arith

-- ---- the list with a member, at the place that a search finds

-- a member at the place is replaced
pub with_member-at : {X : Type 0} (stands_before : X → X → Bool) (x : X) → let p : X → Bool = λ y. stands_before y x in let q : X → Bool = λ y. stands_before x y in
    (xs : List X) (i : ℕ) → i < length xs → take i xs ≡ filter p xs → drop (suc i) xs ≡ filter q xs → set xs i x ≡ with_member stands_before x xs
with_member-at stands_before x xs i within before behind = set_split xs i x within ∙ ap₂ (λ ys zs. ys ++ x ∷ zs) before behind

-- where none is, it is inserted
pub with_member-free : {X : Type 0} (stands_before : X → X → Bool) (x : X) → let p : X → Bool = λ y. stands_before y x in let q : X → Bool = λ y. stands_before x y in
    (xs : List X) (i : ℕ) → take i xs ≡ filter p xs → drop i xs ≡ filter q xs → insert xs i x ≡ with_member stands_before x xs
with_member-free stands_before x xs i before behind = ap₂ (λ ys zs. ys ++ x ∷ zs) before behind

-- one more at the end, behind all
pub is_ascending-append_one : {X : Type 0} (stands_before : X → X → Bool) (xs : List X) (x : X) → is_ascending stands_before xs ≡ true →
    list_all (λ y. stands_before y x) xs ≡ true → is_ascending stands_before (xs ++ x ∷ []) ≡ true
unfolding is_ascending
is_ascending-append_one stands_before [] x ascending all = refl
is_ascending-append_one stands_before (y ∷ xs) x ascending all =
    let here : stands_before y x ≡ true = and-left _ _ all in
    let ih : is_ascending stands_before (xs ++ x ∷ []) ≡ true =
    is_ascending-append_one stands_before xs x (ascending-rest stands_before y xs ascending) (and-right _ _ all) in
    let first : list_all (stands_before y) xs ≡ true = ascending-first stands_before y xs ascending in
    let front : list_all (stands_before y) (xs ++ x ∷ []) ≡ true = list_all-append (stands_before y) xs (x ∷ []) ∙ rw (first, here) in
    ap (λ b. b && is_ascending stands_before (xs ++ x ∷ [])) front ∙ ih

-- ---- orders by a key

module _ {K X : Type 0} (compare : K → K → Ordering) (total : IsTotalOrder compare) (key : X → K) where
  -- a member stands before another where its key is less
  abbrev pub by_key : X → X → Bool
  by_key x y = is_lt (compare (key x) (key y))

  keeps-by_key : (k : K) (x y : X) → by_key x y ≡ true → is_lt (compare (key y) k) ≡ true → is_lt (compare (key x) k) ≡ true
  keeps-by_key k x y first second =
      ap is_lt (total.trans (key x) (key y) k (Less-from_is_lt (compare (key x) (key y)) first) (Less-from_is_lt (compare (key y) k) second))

  -- what is not less is the same or greater
  rises-by_key : (k : K) (x y : X) (r : Ordering) → compare (key x) k ≡ r → is_lt r ≡ false → compare (key x) (key y) ≡ Less → is_lt (compare k (key y)) ≡ true
  rises-by_key k x y Less is not_less less = cc
  rises-by_key k x y Equal is not_less less = ap is_lt (sym (total.congr (key x) k (key y) is) ∙ less)
  rises-by_key k x y Greater is not_less less =
      ap is_lt (total.trans k (key x) (key y) (total.antisymm k (key x) ∙ ap ordering_reverse is) less)

  apart-by_key : (k : K) (x : X) → is_lt (compare (key x) k) ≡ true → is_lt (compare k (key x)) ≡ false
  apart-by_key k x less = ap is_lt (total.antisymm k (key x) ∙ ap ordering_reverse (Less-from_is_lt (compare (key x) k) less))

  -- a key has a place in its order
  pub IsPlace-by_key : (k : K) → IsPlace by_key (λ x. is_lt (compare (key x) k)) (λ x. is_lt (compare k (key x)))
  IsPlace-by_key k = record {
    keeps = keeps-by_key k;
    rises = λ x y less not_less. rises-by_key k x y (compare (key x) k) refl not_less (Less-from_is_lt (compare (key x) (key y)) less);
    apart = apart-by_key k;
  }

  pub IsOrder-by_key : IsOrder by_key
  IsOrder-by_key = record { transitive = λ x y z. keeps-by_key (key z) x y; one_way = λ x y. apart-by_key (key y) x }

  same-by_key : (k : K) (x : X) (r : Ordering) → compare (key x) k ≡ r → is_eq r ≡ (not (is_lt r) && not (is_lt (compare k (key x))))
  same-by_key k x Less is = refl
  same-by_key k x Equal is = sym (ap (λ o. not (is_lt o)) (total.antisymm k (key x) ∙ ap ordering_reverse is))
  same-by_key k x Greater is = sym (ap (λ o. not (is_lt o)) (total.antisymm k (key x) ∙ ap ordering_reverse is))

  -- a member is at the place of a key where their keys are the same to the order
  pub is_eq-is_at : (k : K) (x : X) → is_eq (compare (key x) k) ≡ is_at (λ y. is_lt (compare (key y) k)) (λ y. is_lt (compare k (key y))) x
  is_eq-is_at k x = same-by_key k x (compare (key x) k) refl
