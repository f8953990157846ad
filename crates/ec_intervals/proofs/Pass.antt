-- One pass over a row of marks: it gives the intervals and the broken begins that the row spells.
use Rattle.std.proofs.Common.{◌≡◌, ◌≤◌, suc, length, ℤ, Bool, true, false, cond, not, ◌&&◌, ◌||◌, List, [], ◌∷◌, ◌++◌, map, filter, find, filter_map, Option, Some, None, option_map, is_some, refl, ap, ap₂, sym, subst, ◌∙◌, inl, inr, arith}
use Rattle.std.specs.Prelude.{int_lt}
use Rattle.std.specs.List.{list_all, cons_option}
use Rattle.std.specs.Option.{option_map_or, option_and_then, option_to_list}
use Rattle.std.specs.Ordering.{int_eq}
use Rattle.std.proofs.lemmas.Bool.{cond-false, cond-true, cond_both}
use Rattle.std.proofs.lemmas.Bool.Decides.{nat_tests}
use Rattle.std.proofs.lemmas.List.{append-nil}
use mathlib.Core.Path.{fun_ext}
use Rattle.ec_axioms.specs.Timeline.{Begin, before_all, begin_at, Interval, is_after, next_break, interval_from, broken_from}
use Rattle.ec_axioms.specs.Marks.{PlainMark, is_marked, mark_initiates, mark_terminates, mark_breaks, current_after, mark_starts, row_starts, row_begins, row_mark, row_timeline, spans_of, broken_spans_of}
use Rattle.ec_axioms.proofs.Ranks.{int_lt-same, int_lt-not_after, int_eq-same}
use Rattle.ec_axioms.proofs.Members.{IsMember, IsMember-from_filter, find-map, find-Some, filter-map, list_all-member, find_agree_members}
use Rattle.ec_rows.specs.Ordered.{is_ascending}
use Rattle.ec_lists.proofs.Booleans.{and-left, and-right}
use Rattle.ec_lists.proofs.Integers.{int_eq-from_lt}
use Rattle.ec_rows.proofs.OrderedLemmas.{ascending-first, ascending-rest}
use Rattle.ec_intervals.specs.Steps.{first_open, open_behind, ended_by, broken_by, interval_up_to, unended_interval}
use Rattle.ec_lists.proofs.Filters.{filter-all, filter-each}
use Rattle.ec_lists.proofs.Options.{cons_option-is_append}

-- ---- lists

length-one : {X : Type 0} (o : Option X) (xs : List X) → length (option_to_list o ++ xs) ≤ suc (length xs)
length-one None xs = omega arith
length-one (Some x) xs = omega arith

-- ---- rows of plain marks

-- a mark stands before another
abbrev pub plain_before : PlainMark → PlainMark → Bool
plain_before m n = int_lt m.instant n.instant

-- a row of plain marks: their instants ascend, and each has a count
pub record IsPlainRow (marks : List PlainMark) : Type 0 where
  pub ascending : is_ascending plain_before marks ≡ true
  pub counted : list_all is_marked marks ≡ true

pub behind_first : (m : PlainMark) (ms : List PlainMark) → IsPlainRow (m ∷ ms) → list_all (λ (n : PlainMark). int_lt m.instant n.instant) ms ≡ true
behind_first m ms row = ascending-first plain_before m ms row.ascending

pub IsPlainRow-rest : (m : PlainMark) (ms : List PlainMark) → IsPlainRow (m ∷ ms) → IsPlainRow ms
IsPlainRow-rest m ms row = record { ascending = ascending-rest plain_before m ms row.ascending; counted = and-right (is_marked m) (list_all is_marked ms) row.counted }

-- a mark with a count that does not break initiates
initiates-not_breaks : (strong : Bool) (m : PlainMark) → is_marked m ≡ true → mark_breaks strong m ≡ false → mark_initiates m ≡ true
initiates-not_breaks strong m some no_break = grind (arith, nat_tests)

-- a mark that terminates breaks
pub breaks-terminates : (strong : Bool) (m : PlainMark) → mark_terminates m ≡ true → mark_breaks strong m ≡ true
breaks-terminates strong m terminates = grind (arith, nat_tests)

-- behind a mark with a count a begin is open exactly where the mark initiates, whatever was open in front of it
pub is_some-open_behind : (strong : Bool) (begun : Option Begin) (m : PlainMark) → is_marked m ≡ true → is_some (open_behind strong begun m) ≡ mark_initiates m
is_some-open_behind strong begun m some = by_cases (mark_breaks strong m) (mark_initiates m) begun (initiates-not_breaks strong m some)
  where
    by_cases : (breaks initiates : Bool) (begun : Option Begin) → (breaks ≡ false → initiates ≡ true) →
        is_some (cond (initiates && (breaks || not (is_some begun))) (Some (begin_at m.instant)) (cond breaks None begun)) ≡ initiates
    by_cases true true begun counted = refl
    by_cases true false begun counted = refl
    by_cases false true (Some begin) counted = refl
    by_cases false true None counted = refl
    by_cases false false begun counted = absurd (let no = counted refl in cc)

-- the mark of a row at the instant of one of its marks
row_mark-member : (marks : List PlainMark) (m : PlainMark) → is_ascending plain_before marks ≡ true → IsMember marks m → row_mark marks m.instant ≡ Some m
row_mark-member [] m ascending member = absurd member
row_mark-member (n ∷ ns) m ascending (inl same) =
    cond-true (int_eq n.instant m.instant) _ _ (ap (λ (k : PlainMark). int_eq k.instant m.instant) same ∙ int_eq-same m.instant) ∙ ap Some same
row_mark-member (n ∷ ns) m ascending (inr later) =
    let before : int_lt n.instant m.instant ≡ true = list_all-member (plain_before n) ns m (ascending-first plain_before n ns ascending) later in
    cond-false (int_eq n.instant m.instant) _ _ (int_eq-from_lt n.instant m.instant before) ∙ row_mark-member ns m (ascending-rest plain_before n ns ascending) later

-- ---- the pass

-- the next mark of a row behind a begin that breaks
abbrev pub next_mark : Bool → List PlainMark → Begin → Option PlainMark
next_mark strong marks begin = find (mark_breaks strong) (filter (λ (m : PlainMark). is_after begin m.instant) marks)

module _ {X : Type 0} (f : Begin → Option PlainMark → Option X) (strong : Bool) where
  -- what becomes of an open begin by the mark that breaks it, or by none
  abbrev pub outcome : Option PlainMark → Option Begin → List X
  outcome next begun = option_to_list (option_and_then (λ begin. f begin next) begun)

  -- what a mark closes
  abbrev pub closing : Option Begin → PlainMark → Option X
  closing begun m = cond (mark_breaks strong m) (option_and_then (λ begin. f begin (Some m)) begun) None

  -- from an open begin on, over all marks
  unfoldable pub pass : Option Begin → List PlainMark → List X
  pass begun [] = outcome None begun
  pass begun (m ∷ ms) = option_to_list (closing begun m) ++ pass (open_behind strong begun m) ms

  -- it gives one more than there are marks at the most
  pub length-pass : (begun : Option Begin) (marks : List PlainMark) → length (pass begun marks) ≤ suc (length marks)
  unfolding pass
  length-pass None [] = omega arith
  length-pass (Some begin) [] = let one : length (option_to_list (f begin None) ++ []) ≤ 1 = length-one (f begin None) [] in subst (λ xs. length xs ≤ 1) (append-nil (option_to_list (f begin None))) one
  length-pass begun (m ∷ ms) =
      let one = length-one (closing begun m) (pass (open_behind strong begun m) ms) in
      let rest = length-pass (open_behind strong begun m) ms in
      omega (arith, one, rest)

  -- what becomes of some starts
  abbrev pub started : List PlainMark → List ℤ → List X
  started marks starts = filter_map (λ begin. f begin (next_mark strong marks begin)) (map begin_at starts)

  -- starts behind the first mark do not read it
  started-later : (m : PlainMark) (ms : List PlainMark) (starts : List ℤ) → list_all (int_lt m.instant) starts ≡ true → started (m ∷ ms) starts ≡ started ms starts
  started-later m ms [] later = refl
  started-later m ms (s ∷ starts) later =
      ap₂ cons_option
      (ap (λ marks. f (begin_at s) (find (mark_breaks strong) marks)) (cond-false (int_lt s m.instant) _ _ (int_lt-not_after m.instant s (and-left _ _ later))))
      (started-later m ms starts (and-right _ _ later))

  -- the start at the first mark reads those behind it
  started-first : (m : PlainMark) (ms : List PlainMark) → list_all (λ (n : PlainMark). int_lt m.instant n.instant) ms ≡ true →
      next_mark strong (m ∷ ms) (begin_at m.instant) ≡ find (mark_breaks strong) ms
  started-first m ms later =
      ap (find (mark_breaks strong)) (cond-false (int_lt m.instant m.instant) _ _ (int_lt-same m.instant) ∙ filter-all (λ (n : PlainMark). int_lt m.instant n.instant) ms later)

  module _ (initial : Bool) where
    -- the starts of a row with a first mark
    row_starts-first : (before : Option PlainMark) (m : PlainMark) (ms : List PlainMark) →
        row_starts strong initial before (m ∷ ms)
        ≡ cond (mark_starts strong initial before m) (m.instant ∷ row_starts strong initial (Some m) ms) (row_starts strong initial (Some m) ms)
    row_starts-first before m ms =
        elim (mark_starts strong initial before m) as (λ b. start_if b m.instant (row_starts strong initial (Some m) ms)
        ≡ cond b (m.instant ∷ row_starts strong initial (Some m) ms) (row_starts strong initial (Some m) ms))
        [ true ↦ refl | false ↦ refl ]
      where
        start_if : Bool → ℤ → List ℤ → List ℤ
        start_if true t starts = t ∷ starts
        start_if false t starts = starts

    -- what holds of the instants of all marks holds of the starts
    pub list_all-row_starts : (p : ℤ → Bool) (before : Option PlainMark) (ms : List PlainMark) → list_all (λ (n : PlainMark). p n.instant) ms ≡ true →
        list_all p (row_starts strong initial before ms) ≡ true
    list_all-row_starts p before [] later = refl
    list_all-row_starts p before (m ∷ ms) later =
        let rest : list_all p (row_starts strong initial (Some m) ms) ≡ true = list_all-row_starts p (Some m) ms (and-right _ _ later) in
        ap (list_all p) (row_starts-first before m ms)
        ∙ cond_both (mark_starts strong initial before m) (m.instant ∷ row_starts strong initial (Some m) ms) (row_starts strong initial (Some m) ms)
        (λ starts. list_all p starts ≡ true) (λ _. ap (λ b. b && list_all p (row_starts strong initial (Some m) ms)) (and-left _ _ later) ∙ rest) (λ _. rest)

    module _ (m : PlainMark) (ms : List PlainMark) (row : IsPlainRow (m ∷ ms)) where
      abbrev rest : List ℤ
      rest = row_starts strong initial (Some m) ms

      abbrev behind : Bool → Bool → Option Begin → Option Begin
      behind breaks initiates begun = cond (initiates && (breaks || not (is_some begun))) (Some (begin_at m.instant)) (cond breaks None begun)

      later : started (m ∷ ms) rest ≡ started ms rest
      later = started-later m ms rest (list_all-row_starts (int_lt m.instant) (Some m) ms (behind_first m ms row))

      first : (xs : List X) → xs ++ (outcome (find (mark_breaks strong) ms) (Some (begin_at m.instant)) ++ started ms rest) ≡ xs ++ started (m ∷ ms) (m.instant ∷ rest)
      first xs =
          ap (λ ys. xs ++ ys) (sym (ap₂ cons_option (ap (f (begin_at m.instant)) (started-first m ms (behind_first m ms row))) later
          ∙ cons_option-is_append (f (begin_at m.instant) (find (mark_breaks strong) ms)) (started ms rest)))

      -- what is closed and what is opened make up what becomes of the open begin and of the starts
      step : (breaks initiates : Bool) (begun : Option Begin) → (breaks ≡ false → initiates ≡ true) →
          option_to_list (cond breaks (option_and_then (λ begin. f begin (Some m)) begun) None)
          ++ (outcome (find (mark_breaks strong) ms) (behind breaks initiates begun) ++ started ms rest)
          ≡ outcome (cond breaks (Some m) (find (mark_breaks strong) ms)) begun
          ++ started (m ∷ ms) (cond (initiates && (breaks || not (is_some begun))) (m.instant ∷ rest) rest)
      step true true begun counted = first (outcome (Some m) begun)
      step true false begun counted = ap (λ xs. outcome (Some m) begun ++ xs) (sym later)
      step false true (Some begin) counted = ap (λ xs. outcome (find (mark_breaks strong) ms) (Some begin) ++ xs) (sym later)
      step false true None counted = first []
      step false false begun counted = absurd (let no = counted refl in cc)

    -- the pass gives what becomes of the open begin, and then of each start
    pub pass-starts : (before : Option PlainMark) (begun : Option Begin) (marks : List PlainMark) → is_some begun ≡ current_after initial before → IsPlainRow marks →
        pass begun marks ≡ outcome (find (mark_breaks strong) marks) begun ++ started marks (row_starts strong initial before marks)
    unfolding pass
    pass-starts before begun [] current row = sym (append-nil (outcome None begun))
    pass-starts before begun (m ∷ ms) current row =
        let counted : mark_breaks strong m ≡ false → mark_initiates m ≡ true = initiates-not_breaks strong m (and-left (is_marked m) (list_all is_marked ms) row.counted) in
        ap (λ xs. option_to_list (closing begun m) ++ xs)
        (pass-starts (Some m) (open_behind strong begun m) ms (is_some-open_behind strong begun m (and-left (is_marked m) (list_all is_marked ms) row.counted)) (IsPlainRow-rest m ms row))
        ∙ step m ms row (mark_breaks strong m) (mark_initiates m) begun counted
        ∙ ap (λ starts. outcome (find (mark_breaks strong) (m ∷ ms)) begun ++ started (m ∷ ms) starts)
        (ap (λ b. cond (mark_initiates m && (mark_breaks strong m || not b)) (m.instant ∷ row_starts strong initial (Some m) ms) (row_starts strong initial (Some m) ms)) current
        ∙ sym (row_starts-first before m ms))

  -- from the front of a row it gives what becomes of each begin that the row spells
  pub pass-begins : (initial : Bool) (marks : List PlainMark) → IsPlainRow marks →
      pass (first_open initial) marks ≡ filter_map (λ begin. f begin (next_mark strong marks begin)) (row_begins marks strong initial)
  pass-begins true marks row =
      pass-starts true None (Some before_all) marks refl row
      ∙ sym (cons_option-is_append (f before_all (find (mark_breaks strong) marks)) (started marks (row_starts strong true None marks)))
      ∙ ap (λ ms. cons_option (f before_all (find (mark_breaks strong) ms)) (started marks (row_starts strong true None marks))) (sym (filter-each marks))
  pass-begins false marks row = pass-starts false None None marks refl row

-- ---- what a row spells

-- the interval from a begin by the mark that breaks it: none where that does not terminate
abbrev pub interval_by : Begin → Option PlainMark → Option Interval
interval_by begin None = Some (unended_interval begin)
interval_by begin (Some m) = cond (mark_terminates m) (Some (interval_up_to m.instant begin)) None

-- the begin with the mark that breaks it, where that does not terminate
abbrev pub broken_begin_by : Begin → Option PlainMark → Option (Begin × ℤ)
broken_begin_by begin None = None
broken_begin_by begin (Some m) = cond (mark_terminates m) None (Some (begin, m.instant))

module _ (marks : List PlainMark) (strong initial : Bool) (row : IsPlainRow marks) where
  -- the next break is the instant of the next mark that breaks
  next_break-mark : (begin : Begin) → next_break (row_timeline marks strong initial) begin ≡ option_map (λ (m : PlainMark). m.instant) (next_mark strong marks begin)
  unfolding row_timeline
  next_break-mark begin =
      let breaks : ℤ → Bool = λ t. option_map_or (mark_breaks strong) (row_mark marks t) false in
      ap (find breaks) (filter-map (is_after begin) (λ (m : PlainMark). m.instant) marks)
      ∙ find-map breaks (λ (m : PlainMark). m.instant) (filter (λ (m : PlainMark). is_after begin m.instant) marks)
      ∙ ap (option_map (λ (m : PlainMark). m.instant))
      (find_agree_members (λ (m : PlainMark). breaks m.instant) (mark_breaks strong) (filter (λ (m : PlainMark). is_after begin m.instant) marks)
      (λ m kept. ap (λ o. option_map_or (mark_breaks strong) o false)
      (row_mark-member marks m row.ascending (IsMember-from_filter (λ (m : PlainMark). is_after begin m.instant) marks m kept).0)))

  -- and it terminates where that mark does
  terminated-mark : (begin : Begin) (m : PlainMark) → next_mark strong marks begin ≡ Some m → (row_timeline marks strong initial).terminated m.instant ≡ mark_terminates m
  unfolding row_timeline
  terminated-mark begin m next =
      let found = find-Some (mark_breaks strong) (filter (λ (m : PlainMark). is_after begin m.instant) marks) m next in
      ap (λ o. option_map_or mark_terminates o false)
      (row_mark-member marks m row.ascending (IsMember-from_filter (λ (m : PlainMark). is_after begin m.instant) marks m found.0).0)

  interval_from-mark : (begin : Begin) →
      interval_from (row_timeline marks strong initial) begin (next_break (row_timeline marks strong initial) begin) ≡ interval_by begin (next_mark strong marks begin)
  interval_from-mark begin = ap (interval_from (row_timeline marks strong initial) begin) (next_break-mark begin) ∙ made (next_mark strong marks begin) (terminated-mark begin)
    where
      made : (o : Option PlainMark) → ((m : PlainMark) → o ≡ Some m → (row_timeline marks strong initial).terminated m.instant ≡ mark_terminates m) →
          interval_from (row_timeline marks strong initial) begin (option_map (λ (m : PlainMark). m.instant) o) ≡ interval_by begin o
      made None same = refl
      made (Some m) same = ap (λ b. cond b (Some (interval_up_to m.instant begin)) None) (same m refl)

  broken_from-mark : (begin : Begin) →
      broken_from (row_timeline marks strong initial) begin (next_break (row_timeline marks strong initial) begin) ≡ broken_begin_by begin (next_mark strong marks begin)
  broken_from-mark begin = ap (broken_from (row_timeline marks strong initial) begin) (next_break-mark begin) ∙ made (next_mark strong marks begin) (terminated-mark begin)
    where
      made : (o : Option PlainMark) → ((m : PlainMark) → o ≡ Some m → (row_timeline marks strong initial).terminated m.instant ≡ mark_terminates m) →
          broken_from (row_timeline marks strong initial) begin (option_map (λ (m : PlainMark). m.instant) o) ≡ broken_begin_by begin o
      made None same = refl
      made (Some m) same = ap (λ b. cond b None (Some (begin, m.instant))) (same m refl)

  -- the pass gives the intervals that the row spells
  pub pass-spans_of : pass interval_by strong (first_open initial) marks ≡ spans_of marks strong initial
  pass-spans_of =
      pass-begins interval_by strong initial marks row
      ∙ ap (λ h. filter_map h (row_begins marks strong initial)) (sym (fun_ext interval_from-mark))

  -- and the broken begins
  pub pass-broken_spans_of : pass broken_begin_by strong (first_open initial) marks ≡ broken_spans_of marks strong initial
  pass-broken_spans_of =
      pass-begins broken_begin_by strong initial marks row
      ∙ ap (λ h. filter_map h (row_begins marks strong initial)) (sym (fun_ext broken_from-mark))

-- ---- mark by mark

-- what a mark closes is the interval that it ends
pub closing-ended_by : (strong : Bool) (begun : Option Begin) (m : PlainMark) → closing interval_by strong begun m ≡ ended_by begun m
closing-ended_by strong begun m = by_cases (mark_terminates m) (mark_breaks strong m) begun (breaks-terminates strong m)
  where
    by_cases : (terminates breaks : Bool) (begun : Option Begin) → (terminates ≡ true → breaks ≡ true) →
        cond breaks (option_and_then (λ begin. cond terminates (Some (interval_up_to m.instant begin)) None) begun) None
        ≡ cond terminates (option_map (interval_up_to m.instant) begun) None
    by_cases true true None so = refl
    by_cases true true (Some begin) so = refl
    by_cases true false begun so = absurd (let no = so refl in cc)
    by_cases false true None so = refl
    by_cases false true (Some begin) so = refl
    by_cases false false begun so = refl

-- or the begin that it breaks
pub closing-broken_by : (strong : Bool) (begun : Option Begin) (m : PlainMark) → closing broken_begin_by strong begun m ≡ broken_by strong begun m
closing-broken_by strong begun m = by_cases (mark_terminates m) (mark_breaks strong m) begun
  where
    by_cases : (terminates breaks : Bool) (begun : Option Begin) →
        cond breaks (option_and_then {U = Begin × ℤ} (λ begin. cond terminates None (Some (begin, m.instant))) begun) None
        ≡ cond (breaks && not terminates) (option_map (λ begin. (begin, m.instant)) begun) None
    by_cases true true None = refl
    by_cases true true (Some begin) = refl
    by_cases false true None = refl
    by_cases false true (Some begin) = refl
    by_cases true false begun = refl
    by_cases false false begun = refl
