-- The intervals that a pass over a row of marks gives stand in order.
use Rattle.std.proofs.Common.{◌≡◌, ℤ, Bool, true, false, cond, not, ◌&&◌, ◌||◌, List, [], ◌∷◌, ◌++◌, Option, Some, None, is_some, refl, ap, ap₂, ◌∙◌}
use Rattle.std.specs.Prelude.{int_lt, int_le}
use Rattle.std.specs.List.{list_all}
use Rattle.std.specs.Option.{option_map_or, option_and_then, option_to_list}
use Rattle.ec_axioms.specs.Timeline.{Begin, begin_at, Interval, is_after}
use Rattle.ec_axioms.specs.Marks.{PlainMark, mark_initiates, mark_terminates, mark_breaks}
use Rattle.ec_rows.specs.Ordered.{is_ascending}
use Rattle.ec_lists.proofs.Booleans.{and-left, and-right}
use Rattle.ec_rows.proofs.OrderedLemmas.{ascending-first, ascending-rest}
use Rattle.ec_intervals.specs.Steps.{first_open, open_behind, interval_up_to, is_proper, begins_from, comes_before, IsIntervalRow}
use Rattle.ec_intervals.proofs.Pass.{IsPlainRow, IsPlainRow-rest, behind_first, closing, pass, interval_by}
use Rattle.ec_lists.proofs.Tests.{list_all-weaker, list_all-each, list_all-front}
use Rattle.ec_lists.proofs.Integers.{int_le-from_lt, int_le-same}

-- ---- lists

-- one more in front, if there is one
pub list_all-cons : {X : Type 0} (p : X → Bool) (o : Option X) (xs : List X) → option_map_or p o true ≡ true → list_all p xs ≡ true → list_all p (option_to_list o ++ xs) ≡ true
list_all-cons p None xs first rest = rest
list_all-cons p (Some x) xs first rest = ap (λ b. b && list_all p xs) first ∙ rest

pub is_ascending-cons : {X : Type 0} (stands_before : X → X → Bool) (o : Option X) (xs : List X) → option_map_or (λ x. list_all (stands_before x) xs) o true ≡ true →
    is_ascending stands_before xs ≡ true → is_ascending stands_before (option_to_list o ++ xs) ≡ true
unfolding is_ascending
is_ascending-cons stands_before None xs first rest = rest
is_ascending-cons stands_before (Some x) xs first rest = ap (λ b. b && is_ascending stands_before xs) first ∙ rest

-- the front of a list that is in order is in order
pub is_ascending-front : {X : Type 0} (stands_before : X → X → Bool) (xs ys : List X) → is_ascending stands_before (xs ++ ys) ≡ true → is_ascending stands_before xs ≡ true
unfolding is_ascending
is_ascending-front stands_before [] ys ascending = refl
is_ascending-front stands_before (x ∷ xs) ys ascending =
    ap₂ (λ a b. a && b) (list_all-front (stands_before x) xs ys (ascending-first stands_before x (xs ++ ys) ascending))
    (is_ascending-front stands_before xs ys (ascending-rest stands_before x (xs ++ ys) ascending))

pub IsIntervalRow-front : (xs ys : List Interval) → IsIntervalRow (xs ++ ys) → IsIntervalRow xs
IsIntervalRow-front xs ys row = record { proper = list_all-front is_proper xs ys row.proper; ascending = is_ascending-front comes_before xs ys row.ascending }

-- ---- the pass

-- a mark lies after the open begin
abbrev lies_after : Option Begin → PlainMark → Bool
lies_after begun n = option_map_or (λ begin. is_after begin n.instant) begun true

-- the open begin is an instant from x on
abbrev opens_from : ℤ → Option Begin → Bool
opens_from x begun = option_map_or (begins_from x) begun true

module _ (strong : Bool) where
  module _ (m : PlainMark) (ms : List PlainMark) (row : IsPlainRow (m ∷ ms)) where
    abbrev behind : Bool → Bool → Option Begin → Option Begin
    behind breaks initiates begun = cond (initiates && (breaks || not (is_some begun))) (Some (begin_at m.instant)) (cond breaks None begun)

    abbrev closes : Bool → Bool → Option Begin → Option Interval
    closes breaks terminates begun = cond breaks (option_and_then (λ begin. cond terminates (Some (interval_up_to m.instant begin)) None) begun) None

    -- the later marks lie after what is open behind the first
    after-behind : (breaks initiates : Bool) (begun : Option Begin) → list_all (lies_after begun) ms ≡ true → list_all (lies_after (behind breaks initiates begun)) ms ≡ true
    after-behind true true begun after = behind_first m ms row
    after-behind true false begun after = list_all-each ms
    after-behind false true None after = behind_first m ms row
    after-behind false true (Some begin) after = after
    after-behind false false begun after = after

    proper-closes : (breaks terminates : Bool) (begun : Option Begin) → lies_after begun m ≡ true → option_map_or is_proper (closes breaks terminates begun) true ≡ true
    proper-closes false terminates begun after = refl
    proper-closes true terminates None after = refl
    proper-closes true true (Some begin) after = after
    proper-closes true false (Some begin) after = refl

    from-behind : (x : ℤ) (breaks initiates : Bool) (begun : Option Begin) → opens_from x begun ≡ true → int_le x m.instant ≡ true → opens_from x (behind breaks initiates begun) ≡ true
    from-behind x true true begun from here = here
    from-behind x true false begun from here = refl
    from-behind x false true None from here = here
    from-behind x false true (Some begin) from here = from
    from-behind x false false begun from here = from

    from-closes : (x : ℤ) (breaks terminates : Bool) (begun : Option Begin) → opens_from x begun ≡ true →
        option_map_or (λ interval. begins_from x interval.from) (closes breaks terminates begun) true ≡ true
    from-closes x false terminates begun from = refl
    from-closes x true terminates None from = refl
    from-closes x true true (Some begin) from = from
    from-closes x true false (Some begin) from = refl

    -- behind a mark that breaks nothing is open but from the mark on
    from-broken : (initiates : Bool) (begun : Option Begin) → opens_from m.instant (behind true initiates begun) ≡ true
    from-broken true begun = int_le-same m.instant
    from-broken false begun = refl

    up_to : list_all (λ (n : PlainMark). int_le m.instant n.instant) ms ≡ true
    up_to = list_all-weaker (λ (n : PlainMark). int_lt m.instant n.instant) (λ (n : PlainMark). int_le m.instant n.instant) (λ n before. int_le-from_lt m.instant n.instant before) ms (behind_first m ms row)

    ascending-closes : (rest : List Interval) (breaks terminates : Bool) (begun : Option Begin) → (breaks ≡ true → list_all (λ interval. begins_from m.instant interval.from) rest ≡ true) →
        option_map_or (λ interval. list_all (comes_before interval) rest) (closes breaks terminates begun) true ≡ true
    ascending-closes rest false terminates begun later = refl
    ascending-closes rest true terminates None later = refl
    ascending-closes rest true true (Some begin) later = later refl
    ascending-closes rest true false (Some begin) later = refl

  -- each interval is proper
  proper-pass : (begun : Option Begin) (marks : List PlainMark) → IsPlainRow marks → list_all (lies_after begun) marks ≡ true → list_all is_proper (pass interval_by strong begun marks) ≡ true
  unfolding pass
  proper-pass None [] row after = refl
  proper-pass (Some begin) [] row after = refl
  proper-pass begun (m ∷ ms) row after =
      list_all-cons is_proper (closing interval_by strong begun m) (pass interval_by strong (open_behind strong begun m) ms)
      (proper-closes m ms row (mark_breaks strong m) (mark_terminates m) begun (and-left _ _ after))
      (proper-pass (open_behind strong begun m) ms (IsPlainRow-rest m ms row) (after-behind m ms row (mark_breaks strong m) (mark_initiates m) begun (and-right _ _ after)))

  -- each begins at x or later
  from-pass : (x : ℤ) (begun : Option Begin) (marks : List PlainMark) → IsPlainRow marks → opens_from x begun ≡ true → list_all (λ (n : PlainMark). int_le x n.instant) marks ≡ true →
      list_all (λ interval. begins_from x interval.from) (pass interval_by strong begun marks) ≡ true
  unfolding pass
  from-pass x None [] row from later = refl
  from-pass x (Some begin) [] row from later = ap (λ b. b && true) from
  from-pass x begun (m ∷ ms) row from later =
      list_all-cons (λ interval. begins_from x interval.from) (closing interval_by strong begun m) (pass interval_by strong (open_behind strong begun m) ms)
      (from-closes m ms row x (mark_breaks strong m) (mark_terminates m) begun from)
      (from-pass x (open_behind strong begun m) ms (IsPlainRow-rest m ms row)
      (from-behind m ms row x (mark_breaks strong m) (mark_initiates m) begun from (and-left _ _ later)) (and-right _ _ later))

  -- and each ends by the begin of those behind it
  ascending-pass : (begun : Option Begin) (marks : List PlainMark) → IsPlainRow marks → is_ascending comes_before (pass interval_by strong begun marks) ≡ true
  unfolding pass is_ascending
  ascending-pass None [] row = refl
  ascending-pass (Some begin) [] row = refl
  ascending-pass begun (m ∷ ms) row =
      let rest = pass interval_by strong (open_behind strong begun m) ms in
      is_ascending-cons comes_before (closing interval_by strong begun m) rest
      (ascending-closes m ms row rest (mark_breaks strong m) (mark_terminates m) begun
      (λ breaks. from-pass m.instant (open_behind strong begun m) ms (IsPlainRow-rest m ms row)
      (ap (λ b. opens_from m.instant (behind m ms row b (mark_initiates m) begun)) breaks ∙ from-broken m ms row (mark_initiates m) begun)
      (up_to m ms row)))
      (ascending-pass (open_behind strong begun m) ms (IsPlainRow-rest m ms row))

  pub IsIntervalRow-pass : (initial : Bool) (marks : List PlainMark) → IsPlainRow marks → IsIntervalRow (pass interval_by strong (first_open initial) marks)
  IsIntervalRow-pass initial marks row = record {
    proper = proper-pass (first_open initial) marks row (first_after initial);
    ascending = ascending-pass (first_open initial) marks row;
  }
    where
      first_after : (initial : Bool) → list_all (lies_after (first_open initial)) marks ≡ true
      first_after true = list_all-each marks
      first_after false = list_all-each marks
