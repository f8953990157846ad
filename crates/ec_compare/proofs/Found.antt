-- Where in a row of intervals another one stands, if it does.
use Rattle.std.proofs.Common.{◌≡◌, ℕ, ◌+◌, ◌<◌, ◌≤◌, zero, suc, ℤ, Bool, true, false, not, cond, ◌||◌, ◌&&◌, List, [], ◌∷◌, ◌++◌, Some, map, filter, length, refl, sym, ap, ap₂, subst, ◌∙◌, arith}
use Rattle.std.specs.Prelude.{int_lt, slice_get}
use Rattle.std.specs.List.{list_all, list_any}
use Rattle.std.specs.List.Sorted.{IsPartitionPoint, IsPartitionedBy}
use Rattle.std.proofs.lemmas.Bool.{false≢true, false_from_ne_true, not-true}
use Rattle.std.proofs.lemmas.Int.{ints}
use Rattle.std.proofs.lemmas.List.{length-append, length-map}
use Rattle.std.proofs.lemmas.List.Elements.{filter_agree}
use Rattle.ec_lists.proofs.Filters.{filter-map}
use Rattle.ec_lists.proofs.Booleans.{and-left, and-right}
use Rattle.ec_axioms.specs.Timeline.{Begin, before_all, begin_at, Interval}
use Rattle.ec_axioms.specs.Changes.{interval_eq}
use Rattle.ec_changes.proofs.OtherIntervals.{interval_eq-Decides}
use Rattle.ec_commands.specs.QueryTexts.{Canon, interval_text}
use Rattle.ec_commands.specs.Relations.{Point, below, instant, above, begin_point, point_lt}
use Rattle.ec_commands.proofs.RelationLaws.{point_lt-trans}
use Rattle.ec_rows.specs.Ordered.{is_ascending}
use Rattle.ec_rows.proofs.OrderedLemmas.{IsPartitionedBy-ascending, ascending-first, ascending-rest, length-partition}
use Rattle.ec_intervals.specs.Steps.{begins_behind, begins_where}
use Rattle.ec_query.specs.Members.{members_text}
use Rattle.ec_query.proofs.WritingLemmas.{members_text-append}
use Rattle.ec_replies.specs.Notes.{missing_from}
use Rattle.ec_compare.specs.Lists.{begins_no_later, missing_behind}
use Rattle.ec_compare.proofs.Points.{point_lt-same}
use Rattle.ec_compare.proofs.Rows.{begins_first}
use Rattle.ec_compare.proofs.Walks.{filter-left, filter-left_end}

-- a point before one that does not lie behind a third lies before the third
lt-no_later : (p q r : Point) → point_lt p q ≡ true → not (point_lt r q) ≡ true → point_lt p r ≡ true
lt-no_later below below r before by = cc
lt-no_later below (instant q) below before by = cc
lt-no_later below (instant q) (instant r) before by = refl
lt-no_later below (instant q) above before by = refl
lt-no_later below above below before by = cc
lt-no_later below above (instant r) before by = cc
lt-no_later below above above before by = refl
lt-no_later (instant p) below r before by = cc
lt-no_later (instant p) (instant q) below before by = cc
lt-no_later (instant p) (instant q) (instant r) before by = grind (arith, ints)
lt-no_later (instant p) (instant q) above before by = refl
lt-no_later (instant p) above below before by = cc
lt-no_later (instant p) above (instant r) before by = cc
lt-no_later (instant p) above above before by = refl
lt-no_later above below r before by = cc
lt-no_later above (instant q) r before by = cc
lt-no_later above above r before by = cc

or-false : (b : Bool) → (b || false) ≡ b
or-false true = refl
or-false false = refl

module _ (i : Interval) where
  -- what begins later is not the same, and neither is what begins earlier
  later-differs : (j : Interval) → begins_no_later i j ≡ false → interval_eq i j ≡ false
  later-differs j later =
      false_from_ne_true (interval_eq i j)
      (λ is. false≢true (sym later ∙ subst (λ k. begins_no_later i k ≡ true) ((interval_eq-Decides i j).0 is) (ap not (point_lt-same (begin_point i.from)))))

  pub earlier-differs : (j : Interval) → point_lt (begin_point j.from) (begin_point i.from) ≡ true → interval_eq i j ≡ false
  earlier-differs j earlier =
      false_from_ne_true (interval_eq i j)
      (λ is. false≢true (sym (point_lt-same (begin_point i.from)) ∙ subst (λ k. point_lt (begin_point k.from) (begin_point i.from) ≡ true) (sym ((interval_eq-Decides i j).0 is)) earlier))

  -- where all begin later it is none of them
  pub found-none : (xs : List Interval) → length (filter (begins_no_later i) xs) ≡ 0 → list_any (interval_eq i) xs ≡ false
  found-none [] none = refl
  found-none (x ∷ xs) none = here (begins_no_later i x) refl none (found-none xs)
    where
      here : (b : Bool) → begins_no_later i x ≡ b → length (cond b (x ∷ filter (begins_no_later i) xs) (filter (begins_no_later i) xs)) ≡ 0
          → (length (filter (begins_no_later i) xs) ≡ 0 → list_any (interval_eq i) xs ≡ false) → (interval_eq i x || list_any (interval_eq i) xs) ≡ false
      here true is none rest = absurd (omega (arith, none))
      here false is none rest = ap₂ (λ a b. a || b) (later-differs x is) (rest none)

  -- what begins before one that begins no later begins before it
  earlier : (x : Interval) (ys : List Interval) → list_all (begins_first x) ys ≡ true → 0 < length (filter (begins_no_later i) ys) → point_lt (begin_point x.from) (begin_point i.from) ≡ true
  earlier x [] first some = absurd (omega (arith, some))
  earlier x (y ∷ ys) first some = here (begins_no_later i y) refl some (earlier x ys (and-right (begins_first x y) (list_all (begins_first x) ys) first))
    where
      here : (b : Bool) → begins_no_later i y ≡ b → 0 < length (cond b (y ∷ filter (begins_no_later i) ys) (filter (begins_no_later i) ys))
          → (0 < length (filter (begins_no_later i) ys) → point_lt (begin_point x.from) (begin_point i.from) ≡ true) → point_lt (begin_point x.from) (begin_point i.from) ≡ true
      here true is some rest = lt-no_later (begin_point x.from) (begin_point y.from) (begin_point i.from) (and-left (begins_first x y) (list_all (begins_first x) ys) first) is
      here false is some rest = rest some

  -- where the first of a row begins later all do
  all-later : (x : Interval) (ys : List Interval) → list_all (begins_first x) ys ≡ true → begins_no_later i x ≡ false → length (filter (begins_no_later i) ys) ≡ 0
  all-later x ys first later = by_count (length (filter (begins_no_later i) ys)) refl
    where
      by_count : (n : ℕ) → length (filter (begins_no_later i) ys) ≡ n → n ≡ 0
      by_count zero is = refl
      by_count (suc n) is =
          absurd (false≢true (sym later ∙ ap not (false_from_ne_true (point_lt (begin_point i.from) (begin_point x.from)) (λ before.
          false≢true (sym (point_lt-same (begin_point i.from)) ∙ point_lt-trans (begin_point i.from) (begin_point x.from) (begin_point i.from) before (earlier x ys first (omega (arith, is))))))))

  -- it is one of a row where it is the last of those that begin no later
  pub found-last : (xs : List Interval) → is_ascending begins_first xs ≡ true → (n : ℕ) (j : Interval) → length (filter (begins_no_later i) xs) ≡ suc n → slice_get xs n ≡ Some j
      → list_any (interval_eq i) xs ≡ interval_eq i j
  found-last [] ascending n j is read = absurd (omega (arith, is))
  found-last (x ∷ xs) ascending zero j is read =
      here (begins_no_later i x) refl is
    where
      here : (b : Bool) → begins_no_later i x ≡ b → length (cond b (x ∷ filter (begins_no_later i) xs) (filter (begins_no_later i) xs)) ≡ 1 → (interval_eq i x || list_any (interval_eq i) xs) ≡ interval_eq i j
      here true begun is =
          let same : x ≡ j = cc in
          ap (λ b. interval_eq i x || b) (found-none xs (omega (arith, is))) ∙ or-false (interval_eq i x) ∙ ap (interval_eq i) same
      here false begun is = let none = all-later x xs (ascending-first begins_first x xs ascending) begun in absurd (omega (arith, is, none))
  found-last (x ∷ xs) ascending (suc n) j is read =
      here (begins_no_later i x) refl is (found-last xs (ascending-rest begins_first x xs ascending) n j)
    where
      here : (b : Bool) → begins_no_later i x ≡ b → length (cond b (x ∷ filter (begins_no_later i) xs) (filter (begins_no_later i) xs)) ≡ suc (suc n)
          → (length (filter (begins_no_later i) xs) ≡ suc n → slice_get xs n ≡ Some j → list_any (interval_eq i) xs ≡ interval_eq i j) → (interval_eq i x || list_any (interval_eq i) xs) ≡ interval_eq i j
      here true begun is rest =
          ap₂ (λ a b. a || b) (earlier-differs x (earlier x xs (ascending-first begins_first x xs ascending) (omega (arith, is)))) (rest (omega (arith, is)) read)
      here false begun is rest = let none = all-later x xs (ascending-first begins_first x xs ascending) begun in absurd (omega (arith, is, none))

  -- from before all events it can be the first of a row alone
  pub found-first : (xs : List Interval) → is_ascending begins_first xs ≡ true → i.from ≡ before_all → (j : Interval) → slice_get xs 0 ≡ Some j → list_any (interval_eq i) xs ≡ interval_eq i j
  found-first [] ascending first j read = cc
  found-first (x ∷ xs) ascending first j read =
      let same : x ≡ j = cc in
      ap (λ b. interval_eq i x || b) (found-none xs (none (length (filter (begins_no_later i) xs)) refl)) ∙ or-false (interval_eq i x) ∙ ap (interval_eq i) same
    where
      never : (p : Point) → point_lt p below ≡ false
      never below = refl
      never (instant t) = refl
      never above = refl

      none : (n : ℕ) → length (filter (begins_no_later i) xs) ≡ n → length (filter (begins_no_later i) xs) ≡ 0
      none zero is = is
      none (suc n) is =
          absurd (false≢true (sym (never (begin_point x.from)) ∙ subst (λ b. point_lt (begin_point x.from) (begin_point b) ≡ true) first
          (earlier x xs (ascending-first begins_first x xs ascending) (omega (arith, is)))))

-- it is none of none
pub none-passes : (i : Interval) (xs : List Interval) → length xs ≡ 0 → list_any (interval_eq i) xs ≡ false
none-passes i [] none = refl
none-passes i (x ∷ xs) none = absurd (omega (arith, none))

-- what is missing of one interval, and of those from a place on
pub missing-one : (those : List Interval) (i : Interval) (b : Bool) → b ≡ list_any (interval_eq i) those → missing_from those (i ∷ []) ≡ cond b [] (i ∷ [])
unfolding missing_from
missing-one those i true is = ap (λ b. cond (not b) (i ∷ []) []) (sym is)
missing-one those i false is = ap (λ b. cond (not b) (i ∷ []) []) (sym is)

pub missing-next : (those these : List Interval) (k : ℕ) (i : Interval) → slice_get these k ≡ Some i → missing_behind k those these ≡ missing_from those (i ∷ []) ++ missing_behind (k + 1) those these
unfolding missing_from
missing-next those these k i read = filter-left (λ j. not (list_any (interval_eq j) those)) these k i read

pub missing-end : (those these : List Interval) (k : ℕ) → length these ≤ k → missing_behind k those these ≡ []
unfolding missing_from
missing-end those these k end = filter-left_end (λ j. not (list_any (interval_eq j) those)) these k end

pub length-missing_next : (those these : List Interval) (k : ℕ) (i : Interval) → slice_get these k ≡ Some i
    → length (missing_behind k those these) ≡ length (missing_from those (i ∷ [])) + length (missing_behind (k + 1) those these)
length-missing_next those these k i read = ap length (missing-next those these k i read) ∙ length-append (missing_from those (i ∷ [])) (missing_behind (k + 1) those these)

pub text-missing_next : (canon : Canon) (those these : List Interval) (k : ℕ) (i : Interval) → slice_get these k ≡ Some i
    → members_text (interval_text canon) (missing_behind k those these)
    ≡ members_text (interval_text canon) (missing_from those (i ∷ [])) ++ members_text (interval_text canon) (missing_behind (k + 1) those these)
text-missing_next canon those these k i read =
    ap (members_text (interval_text canon)) (missing-next those these k i read) ∙ members_text-append (interval_text canon) (missing_from those (i ∷ [])) (missing_behind (k + 1) those these)

-- ---- plain intervals

-- those that begin up to a time are those that begin no later than what begins at it
pub begun-agree : (t : ℤ) (i : Interval) → i.from ≡ begin_at t → (xs : List Interval) → filter (λ interval. not (begins_behind t interval)) xs ≡ filter (begins_no_later i) xs
begun-agree t i from xs =
    filter_agree (λ (j : Interval). not (begins_behind t j)) (begins_no_later i)
    (λ j. by_begin j.from ∙ ap (λ b. not (point_lt (begin_point b) (begin_point j.from))) (sym from)) xs
  where
    by_begin : (other : Begin) → not (begins_where (λ s. int_lt t s) other) ≡ not (point_lt (instant t) (begin_point other))
    by_begin before_all = refl
    by_begin (begin_at s) = refl

module _ {X : Type 0} (f : X → Interval) where
  -- the order of a list is that of what its members are made of
  all-map : (p : Interval → Bool) (xs : List X) → list_all p (map f xs) ≡ true → list_all (λ x. p (f x)) xs ≡ true
  all-map p [] all = refl
  all-map p (x ∷ xs) all = ap₂ (λ a b. a && b) (and-left (p (f x)) (list_all p (map f xs)) all) (all-map p xs (and-right (p (f x)) (list_all p (map f xs)) all))

  ascending-map : (xs : List X) → is_ascending begins_first (map f xs) ≡ true → is_ascending (λ x y. begins_first (f x) (f y)) xs ≡ true
  unfolding is_ascending
  ascending-map [] ascending = refl
  ascending-map (x ∷ xs) ascending =
      ap₂ (λ a b. a && b) (all-map (begins_first (f x)) xs (ascending-first begins_first (f x) (map f xs) ascending))
      (ascending-map xs (ascending-rest begins_first (f x) (map f xs) ascending))

  -- those that begin no later than another interval are the first of a row
  pub begun-partitioned : (i : Interval) (xs : List X) → is_ascending begins_first (map f xs) ≡ true → IsPartitionedBy (λ x. begins_no_later i (f x)) xs
  begun-partitioned i xs ascending =
      IsPartitionedBy-ascending (λ x y. begins_first (f x) (f y)) (λ x. begins_no_later i (f x)) (λ x y first is. sooner (f x) (f y) first (point_lt (begin_point i.from) (begin_point (f x).from)) refl is) xs
      (ascending-map xs ascending)
    where
      sooner : (j k : Interval) → begins_first j k ≡ true → (b : Bool) → point_lt (begin_point i.from) (begin_point j.from) ≡ b → begins_no_later i k ≡ true → not b ≡ true
      sooner j k first false is passes = refl
      sooner j k first true is passes =
          absurd (false≢true (sym (not-true (point_lt (begin_point i.from) (begin_point k.from)) passes)
          ∙ point_lt-trans (begin_point i.from) (begin_point j.from) (begin_point k.from) is first))

  pub begun-count : (i : Interval) (xs : List X) (n : ℕ) → n ≤ length xs → IsPartitionPoint (λ x. begins_no_later i (f x) ≡ true) (λ x. begins_no_later i (f x) ≡ false) xs n
      → n ≡ length (filter (begins_no_later i) (map f xs))
  begun-count i xs n within cut =
      length-partition (λ x. begins_no_later i (f x)) xs n within cut
      ∙ sym (length-map (filter (λ x. begins_no_later i (f x)) xs) f) ∙ ap length (sym (filter-map (begins_no_later i) f xs))
