-- How many intervals more a row of marks spells where some of its marks change.
use Rattle.std.proofs.Common.{◌≡◌, ℕ, ◌+◌, ◌-◌, ◌*◌, ◌≤◌, ℤ, Bool, true, false, cond, not, ◌&&◌, ◌||◌, List, [], ◌∷◌, ◌++◌, length, Option, Some, None, option_map, is_some, refl, ap, sym, ◌∙◌, arith}
use Rattle.std.specs.List.{list_any}
use Rattle.std.specs.Option.{option_and_then, option_to_list}
use Rattle.std.specs.Ordering.{int_eq}
use Rattle.std.proofs.lemmas.List.{length-append, map-append}
use Rattle.ec_axioms.specs.Timeline.{Begin, begin_at, Interval}
use Rattle.ec_axioms.specs.Marks.{PlainMark, mark_initiates, mark_terminates, mark_breaks, spans_of}
use Rattle.ec_rows.specs.declared.mark.Mark.{Mark}
use Rattle.ec_rows.specs.Marks.{IsMarkRow, mark_at, marks_before, marks_after}
use Rattle.ec_rows.specs.PlainMarks.{plain_mark, plain_marks}
use Rattle.ec_rows.proofs.KnownByTimes.{by_time-ext}
use Rattle.ec_intervals.specs.ChangedRows.{DifferAtMostAt}
use Rattle.ec_intervals.specs.Steps.{first_open, open_behind, ended_by, interval_up_to, open_through, ended_through}
use Rattle.ec_intervals.proofs.ChangedMark.{changed_at, changed_at-itself, IsMarkRow-towards, mark_at-towards}
use Rattle.ec_intervals.proofs.Cut.{pass-append}
use Rattle.ec_intervals.proofs.Pass.{closing, pass, interval_by, pass-spans_of}
use Rattle.ec_intervals.proofs.Written.{IsPlainRow-from_row}

-- ---- the open begin

-- an open begin counts one
abbrev held : Option Begin → ℕ
held None = 0
held (Some begin) = 1

held-one : (b : Option Begin) → held b ≤ 1
held-one None = omega arith
held-one (Some begin) = omega arith

-- what a mark that breaks closes
abbrev closed : PlainMark → Bool → Option Begin → List Interval
closed m terminates b = option_to_list (option_and_then (λ begin. cond terminates (Some (interval_up_to m.instant begin)) None) b)

closed-more : (m : PlainMark) (terminates : Bool) (b c : Option Begin) → length (closed m terminates b) ≤ length (closed m terminates c) + (held b - held c)
closed-more m true None None = omega arith
closed-more m true None (Some y) = omega arith
closed-more m true (Some x) None = omega arith
closed-more m true (Some x) (Some y) = omega arith
closed-more m false None None = omega arith
closed-more m false None (Some y) = omega arith
closed-more m false (Some x) None = omega arith
closed-more m false (Some x) (Some y) = omega arith

-- what is open behind a mark that does not break
abbrev unbroken : PlainMark → Bool → Option Begin → Option Begin
unbroken m initiates b = cond (initiates && not (is_some b)) (Some (begin_at m.instant)) b

unbroken-more : (m : PlainMark) (initiates : Bool) (b c : Option Begin) → held (unbroken m initiates b) - held (unbroken m initiates c) ≤ held b - held c
unbroken-more m true None None = omega arith
unbroken-more m true None (Some y) = omega arith
unbroken-more m true (Some x) None = omega arith
unbroken-more m true (Some x) (Some y) = omega arith
unbroken-more m false b c = omega arith

module _ (strong : Bool) where
  -- a mark closes and leaves open no more than that, behind one begin as behind another
  step-more : (m : PlainMark) (b c : Option Begin) →
      length (option_to_list (closing interval_by strong b m)) + (held (open_behind strong b m) - held (open_behind strong c m))
      ≤ length (option_to_list (closing interval_by strong c m)) + (held b - held c)
  step-more m b c = by_cases (mark_breaks strong m)
    where
      by_cases : (breaks : Bool) →
          length (option_to_list (cond breaks (option_and_then (λ begin. cond (mark_terminates m) (Some (interval_up_to m.instant begin)) None) b) None))
          + (held (cond (mark_initiates m && (breaks || not (is_some b))) (Some (begin_at m.instant)) (cond breaks None b))
          - held (cond (mark_initiates m && (breaks || not (is_some c))) (Some (begin_at m.instant)) (cond breaks None c)))
          ≤ length (option_to_list (cond breaks (option_and_then (λ begin. cond (mark_terminates m) (Some (interval_up_to m.instant begin)) None) c) None)) + (held b - held c)
      by_cases true = let more = closed-more m (mark_terminates m) b c in omega (arith, more)
      by_cases false = let more = unbroken-more m (mark_initiates m) b c in omega (arith, more)

  -- with a begin open in front of them some marks give one interval more at the most
  pass-more : (b c : Option Begin) (ms : List PlainMark) → length (pass interval_by strong b ms) ≤ length (pass interval_by strong c ms) + (held b - held c)
  unfolding pass
  pass-more None None [] = omega arith
  pass-more None (Some y) [] = omega arith
  pass-more (Some x) None [] = omega arith
  pass-more (Some x) (Some y) [] = omega arith
  pass-more b c (m ∷ ms) =
      let left = length-append (option_to_list (closing interval_by strong b m)) (pass interval_by strong (open_behind strong b m) ms) in
      let right = length-append (option_to_list (closing interval_by strong c m)) (pass interval_by strong (open_behind strong c m) ms) in
      let rest = pass-more (open_behind strong b m) (open_behind strong c m) ms in
      let step = step-more m b c in
      omega (arith, left, right, rest, step)

  -- ---- one mark

  ended-one : (b : Option Begin) (o : Option PlainMark) → length (ended_through strong b (option_to_list o)) ≤ 1
  unfolding ended_through
  ended-one b None = omega arith
  ended-one b (Some m) = one (ended_by b m)
    where
      one : (o : Option Interval) → length (option_to_list o ++ []) ≤ 1
      one None = omega arith
      one (Some i) = omega arith

  pass-parts : (b : Option Begin) (xs ys : List PlainMark) (o : Option PlainMark) → let opened = open_through strong b xs in
      length (pass interval_by strong b (xs ++ (option_to_list o ++ ys)))
      ≡ length (ended_through strong b xs) + (length (ended_through strong opened (option_to_list o)) + length (pass interval_by strong (open_through strong opened (option_to_list o)) ys))
  pass-parts b xs ys o =
      let opened = open_through strong b xs in
      ap length (pass-append strong b xs (option_to_list o ++ ys))
      ∙ length-append (ended_through strong b xs) (pass interval_by strong opened (option_to_list o ++ ys))
      ∙ ap (λ n. length (ended_through strong b xs) + n)
      (ap length (pass-append strong opened (option_to_list o) ys)
      ∙ length-append (ended_through strong opened (option_to_list o)) (pass interval_by strong (open_through strong opened (option_to_list o)) ys))

  -- another mark between others adds two intervals at the most
  pass-changed : (b : Option Begin) (xs ys : List PlainMark) (old new : Option PlainMark) →
      length (pass interval_by strong b (xs ++ (option_to_list new ++ ys))) ≤ length (pass interval_by strong b (xs ++ (option_to_list old ++ ys))) + 2
  pass-changed b xs ys old new =
      let opened = open_through strong b xs in
      let was = pass-parts b xs ys old in
      let is = pass-parts b xs ys new in
      let one = ended-one opened new in
      let more = pass-more (open_through strong opened (option_to_list new)) (open_through strong opened (option_to_list old)) ys in
      let most = held-one (open_through strong opened (option_to_list new)) in
      omega (arith, was, is, one, more, most)

-- ---- rows

module _ {T : Type 0} (rank : T → ℤ) (strong initial : Bool) where
  -- how many intervals a row spells
  abbrev count : List (Mark T) → ℕ
  count marks = length (spans_of (plain_marks rank marks) strong initial)

  plain-changed : (t : ℤ) (o : Option (Mark T)) (marks : List (Mark T)) →
      plain_marks rank (changed_at rank t o marks) ≡ plain_marks rank (marks_before rank t marks) ++ (option_to_list (option_map (plain_mark rank) o) ++ plain_marks rank (marks_after rank t marks))
  plain-changed t o marks =
      map-append (plain_mark rank) (marks_before rank t marks) (option_to_list o ++ marks_after rank t marks)
      ∙ ap (λ ms. plain_marks rank (marks_before rank t marks) ++ ms) (with_one o)
    where
      with_one : (o : Option (Mark T)) → plain_marks rank (option_to_list o ++ marks_after rank t marks) ≡ option_to_list (option_map (plain_mark rank) o) ++ plain_marks rank (marks_after rank t marks)
      with_one None = refl
      with_one (Some m) = refl

  count-changed : (t : ℤ) (o : Option (Mark T)) (marks : List (Mark T)) → IsMarkRow rank (changed_at rank t o marks) →
      count (changed_at rank t o marks)
      ≡ length (pass interval_by strong (first_open initial)
      (plain_marks rank (marks_before rank t marks) ++ (option_to_list (option_map (plain_mark rank) o) ++ plain_marks rank (marks_after rank t marks))))
  count-changed t o marks row =
      ap length (sym (pass-spans_of (plain_marks rank (changed_at rank t o marks)) strong initial (IsPlainRow-from_row rank (changed_at rank t o marks) row))
      ∙ ap (pass interval_by strong (first_open initial)) (plain-changed t o marks))

  module _ (new : List (Mark T)) (new_row : IsMarkRow rank new) where
    -- a row with the mark that another has at t spells two more at the most
    count-towards : (t : ℤ) (old : List (Mark T)) → IsMarkRow rank old → count (changed_at rank t (mark_at rank t new) old) ≤ count old + 2
    count-towards t old row =
        let itself : changed_at rank t (mark_at rank t old) old ≡ old = changed_at-itself rank t old row in
        let was = ap count (sym itself) ∙ count-changed t (mark_at rank t old) old (IsMarkRow-towards rank t old old row row) in
        let is = count-changed t (mark_at rank t new) old (IsMarkRow-towards rank t old new row new_row) in
        let more = pass-changed strong (first_open initial) (plain_marks rank (marks_before rank t old)) (plain_marks rank (marks_after rank t old))
        (option_map (plain_mark rank) (mark_at rank t old)) (option_map (plain_mark rank) (mark_at rank t new)) in
        omega (arith, was, is, more)

    -- and so, one instant after the other, the other row
    pub length-changed : (changed : List ℤ) (old : List (Mark T)) → IsMarkRow rank old → DifferAtMostAt rank changed old new → count new ≤ count old + 2 * length changed
    length-changed [] old row same =
        let equal : old ≡ new = by_time-ext rank (λ (m : Mark T). m.at) old new row.ascending new_row.ascending (λ t. same t refl) in
        let counts = ap count equal in
        omega (arith, counts)
    length-changed (t ∷ ts) old row same =
        let next : List (Mark T) = changed_at rank t (mark_at rank t new) old in
        let one = count-towards t old row in
        let rest = length-changed ts next (IsMarkRow-towards rank t old new row new_row)
        (λ u others. mark_at-towards rank t old new u (λ apart. same u (ap (λ b. b || list_any (λ v. int_eq v u) ts) apart ∙ others))) in
        omega (arith, one, rest)
