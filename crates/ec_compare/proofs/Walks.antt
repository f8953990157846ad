-- A walk over a row of intervals: what lies in front of its place, and what behind the end of the other interval.
use Rattle.std.proofs.Common.{◌≡◌, ◌≢◌, ℕ, ◌+◌, ◌≤◌, zero, suc, ℤ, Bool, true, false, not, cond, List, [], ◌∷◌, ◌++◌, Option, Some, None, filter, drop, length, IsTrue, refl, sym, ap, ◌∙◌, arith}
use Rattle.std.specs.Prelude.{int_lt, int_le, slice_get}
use Rattle.std.specs.List.{list_all}
use Rattle.std.specs.Option.{option_map_or}
use Rattle.std.proofs.lemmas.Bool.{false≢true, false_from_ne_true}
use Rattle.std.proofs.lemmas.Int.{ints}
use Rattle.std.proofs.lemmas.List.{drop_all, length-append}
use Rattle.std.proofs.lemmas.List.Elements.{filter-append}
use Rattle.ec_lists.proofs.Booleans.{and-left, and-right}
use Rattle.ec_lists.proofs.Filters.{filter-none, length-filter_wider}
use Rattle.ec_lists.proofs.Fronts.{drop-slice_get}
use Rattle.ec_lists.proofs.Tests.{list_all-weaker, list_any-none}
use Rattle.ec_axioms.specs.Timeline.{Begin, before_all, begin_at, Interval}
use Rattle.ec_commands.specs.declared.relation.Relation.{Relation}
use Rattle.ec_commands.specs.declared.relation.Relation.TheVariants.{Before, After}
use Rattle.ec_commands.specs.Relations.{point_lt, begin_point, end_point, is_proper, stands_in}
use Rattle.ec_commands.proofs.RelationLaws.{point_lt-trans}
use Rattle.ec_rows.specs.Ordered.{is_ascending}
use Rattle.ec_rows.proofs.OrderedLemmas.{ascending-first, ascending-rest}
use Rattle.ec_intervals.specs.Steps.{IsIntervalRow, begins_from, comes_before}
use Rattle.ec_compare.specs.Stretches.{count_ahead, count_ending_first}
use Rattle.ec_compare.proofs.Points.{stands_in-found}
use Rattle.ec_compare.proofs.Rows.{begins_first, ends_first, begins-ascend, ends-ascend, all-proper}

-- ---- what is left of a list behind a place

module _ {X : Type 0} (p : X → Bool) (xs : List X) (k : ℕ) (x : X) (read : slice_get xs k ≡ Some x) where
  -- of what is left pass the member at the place, if it does, and those behind it
  pub filter-left : filter p (drop k xs) ≡ filter p (x ∷ []) ++ filter p (drop (k + 1) xs)
  filter-left =
      let next : suc k ≡ k + 1 = omega arith in
      ap (filter p) (drop-slice_get xs k x read) ∙ filter-append p (x ∷ []) (drop (suc k) xs) ∙ ap (λ n. filter p (x ∷ []) ++ filter p (drop n xs)) next

  pub length-filter_left : length (filter p (drop k xs)) ≡ length (filter p (x ∷ [])) + length (filter p (drop (k + 1) xs))
  length-filter_left = ap length filter-left ∙ length-append (filter p (x ∷ [])) (filter p (drop (k + 1) xs))

pub filter-left_end : {X : Type 0} (p : X → Bool) (xs : List X) (k : ℕ) → length xs ≤ k → filter p (drop k xs) ≡ []
filter-left_end p xs k end = ap (filter p) (drop_all k xs end)

-- ---- lists in order

module _ {X : Type 0} (stands_before : X → X → Bool) (p q t : X → Bool) where
  -- Of the first members of a list pass p, and none of these passes q; so none of a few first members does.
  skip-front : ((x y : X) → stands_before x y ≡ true → p y ≡ true → p x ≡ true) → ((x : X) → t x ≡ true → p x ≡ true → q x ≡ false)
      → (xs : List X) → is_ascending stands_before xs ≡ true → list_all t xs ≡ true → (n : ℕ) → n ≤ length (filter p xs) → filter q xs ≡ filter q (drop n xs)
  skip-front keeps apart xs ascending all zero few = refl
  skip-front keeps apart [] ascending all (suc n) few = refl
  skip-front keeps apart (x ∷ xs) ascending all (suc n) few =
      here (p x) refl few (skip-front keeps apart xs (ascending-rest stands_before x xs ascending) (and-right (t x) (list_all t xs) all) n)
    where
      fails : (y : X) → p x ≡ false → stands_before x y ≡ true → (b : Bool) → p y ≡ b → not b ≡ true
      fails y failing before true passes = absurd (false≢true (sym failing ∙ keeps x y before passes))
      fails y failing before false is = refl

      none : p x ≡ false → filter p xs ≡ []
      none failing = filter-none p xs (list_any-none p xs (list_all-weaker (stands_before x) (λ y. not (p y)) (λ y before. fails y failing before (p y) refl) xs (ascending-first stands_before x xs ascending)))

      here : (b : Bool) → p x ≡ b → suc n ≤ length (cond b (x ∷ filter p xs) (filter p xs)) → (n ≤ length (filter p xs) → filter q xs ≡ filter q (drop n xs))
          → cond (q x) (x ∷ filter q xs) (filter q xs) ≡ filter q (drop n xs)
      here true passes few rest =
          ap (λ b. cond b (x ∷ filter q xs) (filter q xs)) (apart x (and-left (t x) (list_all t xs) all) passes) ∙ rest (omega (arith, few))
      here false failing few rest = let short = ap length (none failing) in absurd (omega (arith, few, short))

  -- From a member that passes p on all do, and none of these passes q.
  stop-behind : ((x y : X) → stands_before x y ≡ true → p x ≡ true → p y ≡ true) → ((x : X) → t x ≡ true → p x ≡ true → q x ≡ false)
      → (xs : List X) → is_ascending stands_before xs ≡ true → list_all t xs ≡ true → (k : ℕ) (x : X) → slice_get xs k ≡ Some x → p x ≡ true → filter q (drop k xs) ≡ []
  stop-behind keeps apart [] ascending all k x read passes = cc
  stop-behind keeps apart (y ∷ ys) ascending all zero x read passes =
      let same : y ≡ x = cc in
      let first : p y ≡ true = ap p same ∙ passes in
      ap (λ b. cond b (y ∷ filter q ys) (filter q ys)) (apart y (and-left (t y) (list_all t ys) all) first)
      ∙ none first ys (ascending-first stands_before y ys ascending) (and-right (t y) (list_all t ys) all)
    where
      none : p y ≡ true → (zs : List X) → list_all (stands_before y) zs ≡ true → list_all t zs ≡ true → filter q zs ≡ []
      none first [] later all = refl
      none first (z ∷ zs) later all =
          ap (λ b. cond b (z ∷ filter q zs) (filter q zs))
          (apart z (and-left (t z) (list_all t zs) all) (keeps y z (and-left (stands_before y z) (list_all (stands_before y) zs) later) first))
          ∙ none first zs (and-right (stands_before y z) (list_all (stands_before y) zs) later) (and-right (t z) (list_all t zs) all)
  stop-behind keeps apart (y ∷ ys) ascending all (suc k) x read passes =
      stop-behind keeps apart ys (ascending-rest stands_before y ys ascending) (and-right (t y) (list_all t ys) all) k x read passes

-- Of the first members pass p, and each of these passes q: they are counted apart.
count-front : {X : Type 0} (stands_before : X → X → Bool) (p q : X → Bool) → ((x y : X) → stands_before x y ≡ true → p y ≡ true → p x ≡ true) → ((x : X) → p x ≡ true → q x ≡ true)
    → (xs : List X) → is_ascending stands_before xs ≡ true → (n : ℕ) → n ≤ length (filter p xs) → n + length (filter q (drop n xs)) ≤ length (filter q xs)
count-front stands_before p q keeps wider xs ascending zero few = omega arith
count-front stands_before p q keeps wider [] ascending (suc n) few = absurd (omega (arith, few))
count-front {X} stands_before p q keeps wider (x ∷ xs) ascending (suc n) few =
    here (p x) refl few (count-front stands_before p q keeps wider xs (ascending-rest stands_before x xs ascending) n)
  where
    fails : (y : X) → p x ≡ false → stands_before x y ≡ true → (b : Bool) → p y ≡ b → not b ≡ true
    fails y failing before true passes = absurd (false≢true (sym failing ∙ keeps x y before passes))
    fails y failing before false is = refl

    none : p x ≡ false → filter p xs ≡ []
    none failing = filter-none p xs (list_any-none p xs (list_all-weaker (stands_before x) (λ y. not (p y)) (λ y before. fails y failing before (p y) refl) xs (ascending-first stands_before x xs ascending)))

    here : (b : Bool) → p x ≡ b → suc n ≤ length (cond b (x ∷ filter p xs) (filter p xs)) → (n ≤ length (filter p xs) → n + length (filter q (drop n xs)) ≤ length (filter q xs))
        → suc n + length (filter q (drop n xs)) ≤ length (cond (q x) (x ∷ filter q xs) (filter q xs))
    here true passes few rest = let more = rest (omega (arith, few)) in rw (wider x passes) (omega (arith, more))
    here false failing few rest = let short = ap length (none failing) in absurd (omega (arith, few, short))

-- two members that follow one another stand in order
in_order-next : {X : Type 0} (stands_before : X → X → Bool) (xs : List X) → is_ascending stands_before xs ≡ true → (k : ℕ) (x y : X) → slice_get xs k ≡ Some x → slice_get xs (suc k) ≡ Some y
    → stands_before x y ≡ true
in_order-next stands_before [] ascending k x y read next = cc
in_order-next stands_before (z ∷ []) ascending k x y read next = cc
in_order-next stands_before (z ∷ w ∷ xs) ascending zero x y read next =
    let same : z ≡ x = cc in
    let same_too : w ≡ y = cc in
    ap (λ v. stands_before v y) (sym same) ∙ ap (stands_before z) (sym same_too)
    ∙ and-left (stands_before z w) (list_all (stands_before z) xs) (ascending-first stands_before z (w ∷ xs) ascending)
in_order-next stands_before (z ∷ w ∷ xs) ascending (suc k) x y read next =
    in_order-next stands_before (w ∷ xs) (ascending-rest stands_before z (w ∷ xs) ascending) k x y read next

-- ---- the walk of one interval

module _ (i : Interval) (proper : IsTrue (is_proper i)) (xs : List Interval) (row : IsIntervalRow xs) where
  ends_sooner : (j k : Interval) → ends_first j k ≡ true → point_lt (end_point k.until) (begin_point i.from) ≡ true → point_lt (end_point j.until) (begin_point i.from) ≡ true
  ends_sooner j k first is = point_lt-trans (end_point j.until) (end_point k.until) (begin_point i.from) first is

  module _ (r : Relation) (no_after : r ≢ After) (no_before : r ≢ Before) where
    not_ended : (j : Interval) → is_proper j ≡ true → point_lt (end_point j.until) (begin_point i.from) ≡ true → stands_in r i j ≡ false
    not_ended j other is = false_from_ne_true (stands_in r i j) (λ stands. no_after (stands_in-found After r i j proper other is stands))

    not_behind : (j : Interval) → is_proper j ≡ true → point_lt (end_point i.until) (begin_point j.from) ≡ true → stands_in r i j ≡ false
    not_behind j other is = false_from_ne_true (stands_in r i j) (λ stands. no_before (stands_in-found Before r i j proper other is stands))

    -- in front of a place up to which all end before it begins none stands in the relation
    pub walk-start : (n : ℕ) → n ≤ count_ahead i xs → filter (stands_in r i) xs ≡ filter (stands_in r i) (drop n xs)
    walk-start n few =
        skip-front ends_first (λ (j : Interval). point_lt (end_point j.until) (begin_point i.from)) (stands_in r i) is_proper ends_sooner not_ended xs (ends-ascend xs row) (all-proper xs row.proper) n few

    -- from the first one on that begins behind its end none does
    pub walk-stop : (k : ℕ) (j : Interval) → slice_get xs k ≡ Some j → stands_in Before i j ≡ true → filter (stands_in r i) (drop k xs) ≡ []
    walk-stop k j read is =
        stop-behind begins_first (λ (j : Interval). point_lt (end_point i.until) (begin_point j.from)) (stands_in r i) is_proper later not_behind xs (begins-ascend xs row) (all-proper xs row.proper) k j read is
      where
        later : (j k : Interval) → begins_first j k ≡ true → point_lt (end_point i.until) (begin_point j.from) ≡ true → point_lt (end_point i.until) (begin_point k.from) ≡ true
        later j k first is = point_lt-trans (end_point i.until) (begin_point j.from) (begin_point k.from) is first

  sooner : (j : Interval) → point_lt (end_point j.until) (begin_point i.from) ≡ true → point_lt (end_point j.until) (end_point i.until) ≡ true
  sooner j is = point_lt-trans (end_point j.until) (begin_point i.from) (end_point i.until) is proper

  -- those in front of the place end before it ends
  pub walk-front : (n : ℕ) → n ≤ count_ahead i xs → n + length (filter (λ (j : Interval). point_lt (end_point j.until) (end_point i.until)) (drop n xs)) ≤ count_ending_first i xs
  walk-front n few =
      count-front ends_first (λ (j : Interval). point_lt (end_point j.until) (begin_point i.from)) (λ (j : Interval). point_lt (end_point j.until) (end_point i.until)) ends_sooner sooner xs (ends-ascend xs row) n few

-- what ends before an interval begins ends before it ends
pub ahead-first : (i : Interval) → IsTrue (is_proper i) → (xs : List Interval) → count_ahead i xs ≤ count_ending_first i xs
ahead-first i proper xs =
    length-filter_wider (λ (j : Interval). point_lt (end_point j.until) (begin_point i.from)) (λ (j : Interval). point_lt (end_point j.until) (end_point i.until))
    (λ j is. point_lt-trans (end_point j.until) (begin_point i.from) (end_point i.until) is proper) xs

-- what is found to be before is
pub before-found : (found : Relation) (i j : Interval) → IsTrue (stands_in found i j) → found ≡ Before → stands_in Before i j ≡ true
before-found found i j stands same = ap (λ r. stands_in r i j) (sym same) ∙ stands

-- ---- the walk of the next interval

-- what ends before an interval of a row ends, ends before the next one begins
pub walk-next : (lefts : List Interval) → IsIntervalRow lefts → (k : ℕ) (i j : Interval) → slice_get lefts k ≡ Some i → slice_get lefts (k + 1) ≡ Some j
    → (xs : List Interval) → count_ending_first i xs ≤ count_ahead j xs
walk-next lefts row k i j read next xs =
    let behind : suc k ≡ k + 1 = omega arith in
    length-filter_wider (λ (h : Interval). point_lt (end_point h.until) (end_point i.until)) (λ (h : Interval). point_lt (end_point h.until) (begin_point j.from))
    (λ h is. by_ends h.until i.until j.from (in_order-next comes_before lefts row.ascending k i j read (ap (slice_get lefts) behind ∙ next)) is) xs
  where
    between : (y x s : ℤ) → int_lt y x ≡ true → int_le x s ≡ true → int_lt y s ≡ true
    between y x s before by = grind (arith, ints)

    by_ends : (first until : Option ℤ) (from : Begin) → option_map_or (λ x. begins_from x from) until false ≡ true → point_lt (end_point first) (end_point until) ≡ true
        → point_lt (end_point first) (begin_point from) ≡ true
    by_ends first None from order is = absurd (false≢true order)
    by_ends first (Some x) before_all order is = absurd (false≢true order)
    by_ends None (Some x) (begin_at s) order is = absurd (false≢true is)
    by_ends (Some y) (Some x) (begin_at s) order is = between y x s is order
