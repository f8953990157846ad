-- The first broken begin in a row of marks, found from a begin on.
use Rattle.std.proofs.Common.{◌≡◌, ℤ, Bool, true, false, cond, not, ◌&&◌, ◌||◌, List, [], ◌∷◌, ◌++◌, find, length, drop, Option, Some, None, option_map, is_some, refl, ap, ap₂, sym, ◌∙◌}
use Rattle.std.specs.Prelude.{int_lt}
use Rattle.std.specs.List.{list_all}
use Rattle.std.specs.Option.{option_map_or, option_or, option_to_list}
use Rattle.std.proofs.lemmas.Bool.{false≢true}
use Rattle.std.proofs.lemmas.List.{append-nil, append_assoc}
use Rattle.std.proofs.lemmas.List.Folds.{find-append}
use Rattle.ec_axioms.specs.Timeline.{Begin, begin_at}
use Rattle.ec_axioms.specs.Marks.{PlainMark, mark_initiates, mark_terminates, mark_breaks, broken_spans_of}
use Rattle.ec_axioms.proofs.Ranks.{int_lt-not_after}
use Rattle.ec_rows.specs.PlainMarks.{plain_marks}
use Rattle.ec_rows.specs.Marks.{IsMarkRow, marks_before}
use Rattle.ec_rows.specs.declared.mark.Mark.{Mark}
use Rattle.ec_lists.proofs.Booleans.{and-left, and-right}
use Rattle.ec_intervals.specs.Broken.{passes_after, first_after}
use Rattle.ec_intervals.specs.Steps.{first_open, open_behind, open_through, broken_by, broken_through}
use Rattle.ec_intervals.proofs.Pass.{pass, broken_begin_by, closing-broken_by, pass-broken_spans_of}
use Rattle.ec_intervals.proofs.Cut.{open_behind-begins, open_through-begins, open_through-append}
use Rattle.ec_intervals.proofs.Written.{IsPlainRow-from_row}
use Rattle.ec_intervals.proofs.Spliced.{earlier-rest, earlier-before}
use Rattle.ec_lists.proofs.Tests.{list_all-weaker}
use Rattle.ec_lists.proofs.Options.{None-from_is_some}

-- a search that finds a member in the front of a list
find-front : {X : Type 0} (p : X → Bool) (xs ys : List X) → is_some (find p xs) ≡ true → find p (xs ++ ys) ≡ find p xs
find-front p xs ys found = find-append p xs ys ∙ found_there (find p xs) found
  where
    found_there : (o : Option _) → is_some o ≡ true → option_or o (find p ys) ≡ o
    found_there None found = absurd (false≢true found)
    found_there (Some x) found = refl

-- and one that does not
find-behind : {X : Type 0} (p : X → Bool) (xs ys : List X) → is_some (find p xs) ≡ false → find p (xs ++ ys) ≡ find p ys
find-behind p xs ys missed = find-append p xs ys ∙ ap (λ o. option_or o (find p ys)) (None-from_is_some (find p xs) missed)

-- ---- the begins that marks break

pub broken_through-append : (strong : Bool) (begun : Option Begin) (xs ys : List PlainMark) →
    broken_through strong begun (xs ++ ys) ≡ broken_through strong begun xs ++ broken_through strong (open_through strong begun xs) ys
unfolding broken_through open_through
broken_through-append strong begun [] ys = refl
broken_through-append strong begun (m ∷ xs) ys =
    ap (λ zs. option_to_list (broken_by strong begun m) ++ zs) (broken_through-append strong (open_behind strong begun m) xs ys)
    ∙ sym (append_assoc (option_to_list (broken_by strong begun m)) (broken_through strong (open_behind strong begun m) xs) (broken_through strong (open_through strong (open_behind strong begun m) xs) ys))

pub pass-broken_through : (strong : Bool) (begun : Option Begin) (marks : List PlainMark) → pass broken_begin_by strong begun marks ≡ broken_through strong begun marks
unfolding pass broken_through
pass-broken_through strong None [] = refl
pass-broken_through strong (Some begin) [] = refl
pass-broken_through strong begun (m ∷ ms) = ap₂ (λ o xs. option_to_list o ++ xs) (closing-broken_by strong begun m) (pass-broken_through strong (open_behind strong begun m) ms)

-- ---- begins that do not pass

module _ (after : Option Begin) where
  -- the open begin, if there is one, does not come after the given one
  abbrev pub is_no_later : Option Begin → Bool
  is_no_later begun = option_map_or (λ begin. not (passes_after after begin)) begun true

  -- a begin that is broken and does not pass is not found
  broken-passed : (strong : Bool) (begun : Option Begin) (m : PlainMark) (rest : List (Begin × ℤ)) → is_no_later begun ≡ true →
      first_after after (option_to_list (broken_by strong begun m) ++ rest) ≡ first_after after rest
  broken-passed strong begun m rest early = by_test (mark_breaks strong m && not (mark_terminates m)) begun early
    where
      by_test : (b : Bool) (begun : Option Begin) → is_no_later begun ≡ true →
          first_after after (option_to_list (cond b (option_map (λ begin. (begin, m.instant)) begun) None) ++ rest) ≡ first_after after rest
      by_test false begun early = refl
      by_test true None early = refl
      by_test true (Some begin) early = skip (passes_after after begin) early
        where
          skip : (c : Bool) → not c ≡ true → cond c (Some (begin, m.instant)) (first_after after rest) ≡ first_after after rest
          skip true not_early = absurd (false≢true not_early)
          skip false not_early = refl

  -- none of the begins that marks break is found, where neither the open one nor any mark comes after the given one
  pub broken_through-passed : (strong : Bool) (begun : Option Begin) (ms : List PlainMark) (rest : List (Begin × ℤ)) → is_no_later begun ≡ true →
      list_all (λ (m : PlainMark). not (passes_after after (begin_at m.instant))) ms ≡ true → first_after after (broken_through strong begun ms ++ rest) ≡ first_after after rest
  unfolding broken_through
  broken_through-passed strong begun [] rest early all = refl
  broken_through-passed strong begun (m ∷ ms) rest early all =
      ap (first_after after) (append_assoc (option_to_list (broken_by strong begun m)) (broken_through strong (open_behind strong begun m) ms) rest)
      ∙ broken-passed strong begun m (broken_through strong (open_behind strong begun m) ms ++ rest) early
      ∙ broken_through-passed strong (open_behind strong begun m) ms rest
      (open_behind-begins (λ begin. not (passes_after after begin)) strong begun m early (and-left (not (passes_after after (begin_at m.instant))) _ all)) (and-right (not (passes_after after (begin_at m.instant))) _ all)

  -- of two open begins that do not pass it does not matter which is open
  pub broken_through-other : (strong : Bool) (begun other : Option Begin) (ms : List PlainMark) → is_some begun ≡ is_some other → is_no_later begun ≡ true → is_no_later other ≡ true →
      first_after after (broken_through strong begun ms) ≡ first_after after (broken_through strong other ms)
  unfolding broken_through
  broken_through-other strong begun other [] same early other_early = refl
  broken_through-other strong begun other (m ∷ ms) same early other_early =
      broken-passed strong begun m (broken_through strong (open_behind strong begun m) ms) early
      ∙ by_cases (mark_initiates m) (mark_breaks strong m) (broken_through-other strong begun other ms same early other_early)
      ∙ sym (broken-passed strong other m (broken_through strong (open_behind strong other m) ms) other_early)
    where
      next : Bool → Bool → Bool → Option Begin → Option Begin
      next initiates breaks some o = cond (initiates && (breaks || not some)) (Some (begin_at m.instant)) (cond breaks None o)

      by_cases : (initiates breaks : Bool) → first_after after (broken_through strong begun ms) ≡ first_after after (broken_through strong other ms) →
          first_after after (broken_through strong (cond (initiates && (breaks || not (is_some begun))) (Some (begin_at m.instant)) (cond breaks None begun)) ms)
          ≡ first_after after (broken_through strong (cond (initiates && (breaks || not (is_some other))) (Some (begin_at m.instant)) (cond breaks None other)) ms)
      by_cases true true rest = refl
      by_cases false true rest = refl
      by_cases false false rest = rest
      by_cases true false rest =
          some_cases (is_some begun) (is_some other) same rest
        where
          some_cases : (c d : Bool) → c ≡ d → first_after after (broken_through strong begun ms) ≡ first_after after (broken_through strong other ms) →
              first_after after (broken_through strong (cond (not c) (Some (begin_at m.instant)) begun) ms) ≡ first_after after (broken_through strong (cond (not d) (Some (begin_at m.instant)) other) ms)
          some_cases true true same rest = rest
          some_cases false false same rest = refl
          some_cases true false same rest = absurd (false≢true (sym same))
          some_cases false true same rest = absurd (false≢true same)

-- ---- the search

module _ (strong : Bool) (after : Option Begin) where
  abbrev pub first_of : Option Begin → List PlainMark → Option (Begin × ℤ)
  first_of begun ms = first_after after (broken_through strong begun ms)

  -- some marks of which none breaks a begin that passes
  pub first_of-later : (begun : Option Begin) (xs ys : List PlainMark) → is_some (first_of begun xs) ≡ false → first_of begun (xs ++ ys) ≡ first_of (open_through strong begun xs) ys
  first_of-later begun xs ys none =
      ap (first_after after) (broken_through-append strong begun xs ys) ∙ find-behind (λ b. passes_after after b.0) (broken_through strong begun xs) (broken_through strong (open_through strong begun xs) ys) none

  pub first_of-here : (begun : Option Begin) (xs ys : List PlainMark) → is_some (first_of begun xs) ≡ true → first_of begun (xs ++ ys) ≡ first_of begun xs
  first_of-here begun xs ys some =
      ap (first_after after) (broken_through-append strong begun xs ys) ∙ find-front (λ b. passes_after after b.0) (broken_through strong begun xs) (broken_through strong (open_through strong begun xs) ys) some

  -- one mark
  pub first_of-one : (begun : Option Begin) (m : PlainMark) → first_after after (option_to_list (broken_by strong begun m)) ≡ first_of begun (m ∷ [])
  unfolding broken_through
  first_of-one begun m = ap (first_after after) (sym (append-nil (option_to_list (broken_by strong begun m))))

  -- no mark
  pub first_of-none : (begun : Option Begin) (ms : List PlainMark) → ms ≡ [] → None ≡ first_of begun ms
  unfolding broken_through
  first_of-none begun ms none = sym (ap (first_of begun) none)

-- ---- one mark more

module _ (strong : Bool) (after begun : Option Begin) (xs : List PlainMark) (m : PlainMark) (rest ms : List PlainMark) (split : ms ≡ xs ++ m ∷ rest) (none : is_some (first_of strong after begun xs) ≡ false)
    (now : Option Begin) (now_is : now ≡ open_through strong begun xs) (found : Option (Begin × ℤ)) (is : found ≡ first_after after (option_to_list (broken_by strong now m))) where
  found-is : found ≡ first_of strong after (open_through strong begun xs) (m ∷ [])
  found-is = is ∙ ap (λ o. first_after after (option_to_list (broken_by strong o m))) now_is ∙ first_of-one strong after (open_through strong begun xs) m

  -- it breaks the begin that is sought
  pub first_of-found : is_some found ≡ true → found ≡ first_of strong after begun ms
  first_of-found some =
      found-is
      ∙ sym (ap (first_of strong after begun) split ∙ first_of-later strong after begun xs (m ∷ rest) none
      ∙ first_of-here strong after (open_through strong begun xs) (m ∷ []) rest (ap is_some (sym found-is) ∙ some))

  -- or none
  pub first_of-missed : is_some found ≡ false → is_some (first_of strong after begun (xs ++ m ∷ [])) ≡ false
  first_of-missed missed = ap is_some (first_of-later strong after begun xs (m ∷ []) none ∙ sym found-is) ∙ missed

  pub open_through-missed : (next : Option Begin) → next ≡ open_behind strong now m → next ≡ open_through strong begun (xs ++ m ∷ [])
  unfolding open_through
  open_through-missed next next_is = next_is ∙ ap (λ o. open_behind strong o m) now_is ∙ sym (open_through-append strong begun xs (m ∷ []))

-- ---- the whole row

pub first_of-row : {T : Type 0} (rank : T → ℤ) (marks : List (Mark T)) (strong initial : Bool) (after : Option Begin) → IsMarkRow rank marks →
    first_of strong after (first_open initial) (plain_marks rank marks) ≡ first_after after (broken_spans_of (plain_marks rank marks) strong initial)
first_of-row rank marks strong initial after row =
    ap (first_after after) (sym (pass-broken_through strong (first_open initial) (plain_marks rank marks)) ∙ pass-broken_spans_of (plain_marks rank marks) strong initial (IsPlainRow-from_row rank marks row))

-- ---- where the search starts

module _ {T : Type 0} (rank : T → ℤ) (marks : List (Mark T)) (row : IsMarkRow rank marks) (strong initial : Bool) (t : ℤ) where
  abbrev front : Option Begin
  front = open_through strong (first_open initial) (plain_marks rank (marks_before rank t marks))

  pub first_of-from : (begun : Option Begin) → is_some begun ≡ is_some front → is_no_later (Some (begin_at t)) begun ≡ true →
      first_of strong (Some (begin_at t)) begun (drop (length (marks_before rank t marks)) (plain_marks rank marks)) ≡ first_of strong (Some (begin_at t)) (first_open initial) (plain_marks rank marks)
  first_of-from begun same early =
      broken_through-other (Some (begin_at t)) strong begun front (drop (length (marks_before rank t marks)) (plain_marks rank marks)) same early
      (open_through-begins (λ begin. not (passes_after (Some (begin_at t)) begin)) strong (first_open initial) (plain_marks rank (marks_before rank t marks)) first_early marks_early)
      ∙ sym (ap (first_of strong (Some (begin_at t)) (first_open initial)) (earlier-rest rank t marks row)
      ∙ ap (first_after (Some (begin_at t))) (broken_through-append strong (first_open initial) (plain_marks rank (marks_before rank t marks)) (drop (length (marks_before rank t marks)) (plain_marks rank marks)))
      ∙ broken_through-passed (Some (begin_at t)) strong (first_open initial) (plain_marks rank (marks_before rank t marks))
      (broken_through strong front (drop (length (marks_before rank t marks)) (plain_marks rank marks))) first_early marks_early)
    where
      first_early : is_no_later (Some (begin_at t)) (first_open initial) ≡ true
      first_early = by_cases initial
        where
          by_cases : (b : Bool) → is_no_later (Some (begin_at t)) (first_open b) ≡ true
          by_cases true = refl
          by_cases false = refl

      marks_early : list_all (λ (m : PlainMark). not (passes_after (Some (begin_at t)) (begin_at m.instant))) (plain_marks rank (marks_before rank t marks)) ≡ true
      marks_early =
          list_all-weaker (λ (m : PlainMark). int_lt m.instant t) (λ (m : PlainMark). not (int_lt t m.instant)) (λ m before. ap not (int_lt-not_after m.instant t before)) (plain_marks rank (marks_before rank t marks))
          (earlier-before rank t marks row)
