-- A row of marks that is read in two parts, and what does not depend on the begin that is open in front of it.
use Rattle.std.proofs.Common.{◌≡◌, ℤ, Bool, true, false, cond, not, ◌&&◌, ◌||◌, List, [], ◌∷◌, ◌++◌, filter, find, Option, Some, None, option_map, is_some, refl, ap, ap₂, sym, ◌∙◌}
use Rattle.std.specs.List.{list_all}
use Rattle.std.specs.Option.{option_map_or, option_to_list}
use Rattle.std.proofs.lemmas.Bool.{false≢true}
use Rattle.std.proofs.lemmas.List.{append-nil, append_assoc, append_cancel_left}
use Rattle.std.proofs.lemmas.List.Elements.{filter-append}
use Rattle.ec_axioms.specs.Timeline.{Begin, before_all, begin_at, Interval}
use Rattle.ec_axioms.specs.Marks.{PlainMark, is_marked, mark_initiates, mark_terminates, mark_breaks, row_starts}
use Rattle.ec_lists.proofs.Booleans.{and-left, and-right}
use Rattle.ec_intervals.specs.Steps.{open_behind, ended_by, interval_up_to, unended_interval, begins_where, ends_where, lasting, open_through, ended_through, spelt_through}
use Rattle.ec_intervals.proofs.Pass.{IsPlainRow, IsPlainRow-rest, pass, outcome, started, interval_by, next_mark, breaks-terminates, is_some-open_behind, pass-starts, closing-ended_by, list_all-row_starts}
use Rattle.ec_intervals.proofs.PassOrder.{list_all-cons}
use Rattle.ec_lists.proofs.Filters.{filter-all}
use Rattle.ec_lists.proofs.Filters.{filter-none}
use Rattle.ec_lists.proofs.Tests.{list_any-none}
use Rattle.ec_lists.proofs.Options.{cons_option-is_append}

-- ---- a list that is cut where a test begins to fail

pub filter-cut : {X : Type 0} (p : X → Bool) (xs ys : List X) → list_all p xs ≡ true → list_all (λ x. not (p x)) ys ≡ true → filter p (xs ++ ys) ≡ xs
filter-cut p xs ys front back = filter-append p xs ys ∙ ap₂ (λ a b. a ++ b) (filter-all p xs front) (filter-none p ys (list_any-none p ys back)) ∙ append-nil xs

-- the part that passes, and the part that does not
pub filter-front : {X : Type 0} (p : X → Bool) (xs ys zs : List X) → xs ++ ys ≡ zs → list_all p xs ≡ true → list_all (λ x. not (p x)) ys ≡ true → filter p zs ≡ xs
filter-front p xs ys zs same front back = ap (filter p) (sym same) ∙ filter-cut p xs ys front back

-- there is one such cut
pub cut-front : {X : Type 0} (p : X → Bool) (xs ys xs' ys' : List X) → xs ++ ys ≡ xs' ++ ys' →
    list_all p xs ≡ true → list_all (λ x. not (p x)) ys ≡ true → list_all p xs' ≡ true → list_all (λ x. not (p x)) ys' ≡ true → xs ≡ xs'
cut-front p xs ys xs' ys' same front back front' back' = sym (filter-cut p xs ys front back) ∙ filter-front p xs' ys' (xs ++ ys) (sym same) front' back'

pub cut-behind : {X : Type 0} (p : X → Bool) (xs ys xs' ys' : List X) → xs ++ ys ≡ xs' ++ ys' →
    list_all p xs ≡ true → list_all (λ x. not (p x)) ys ≡ true → list_all p xs' ≡ true → list_all (λ x. not (p x)) ys' ≡ true → ys ≡ ys'
cut-behind p xs ys xs' ys' same front back front' back' =
    append_cancel_left xs' ys ys' (ap (λ zs. zs ++ ys) (sym (cut-front p xs ys xs' ys' same front back front' back')) ∙ same)

-- ---- two parts

pub IsPlainRow-behind : (xs ys : List PlainMark) → IsPlainRow (xs ++ ys) → IsPlainRow ys
IsPlainRow-behind [] ys row = row
IsPlainRow-behind (x ∷ xs) ys row = IsPlainRow-behind xs ys (IsPlainRow-rest x (xs ++ ys) row)

module _ (strong : Bool) where
  pub open_through-append : (begun : Option Begin) (xs ys : List PlainMark) → open_through strong begun (xs ++ ys) ≡ open_through strong (open_through strong begun xs) ys
  unfolding open_through
  open_through-append begun [] ys = refl
  open_through-append begun (m ∷ xs) ys = open_through-append (open_behind strong begun m) xs ys

  pub ended_through-append : (begun : Option Begin) (xs ys : List PlainMark) →
      ended_through strong begun (xs ++ ys) ≡ ended_through strong begun xs ++ ended_through strong (open_through strong begun xs) ys
  unfolding ended_through open_through
  ended_through-append begun [] ys = refl
  ended_through-append begun (m ∷ xs) ys =
      ap (λ zs. option_to_list (ended_by begun m) ++ zs) (ended_through-append (open_behind strong begun m) xs ys)
      ∙ sym (append_assoc (option_to_list (ended_by begun m)) (ended_through strong (open_behind strong begun m) xs) (ended_through strong (open_through strong (open_behind strong begun m) xs) ys))

  -- the pass over two parts: what the first ends, and then the pass over the second from what is open between them
  pub pass-append : (begun : Option Begin) (xs ys : List PlainMark) →
      pass interval_by strong begun (xs ++ ys) ≡ ended_through strong begun xs ++ pass interval_by strong (open_through strong begun xs) ys
  unfolding pass ended_through open_through
  pass-append begun [] ys = refl
  pass-append begun (m ∷ xs) ys =
      ap₂ (λ o zs. option_to_list o ++ zs) (closing-ended_by strong begun m) (pass-append (open_behind strong begun m) xs ys)
      ∙ sym (append_assoc (option_to_list (ended_by begun m)) (ended_through strong (open_behind strong begun m) xs) (pass interval_by strong (open_through strong (open_behind strong begun m) xs) ys))

  -- the whole pass: what all marks end, and what stays open
  pub pass-spelt_through : (begun : Option Begin) (marks : List PlainMark) → pass interval_by strong begun marks ≡ spelt_through strong begun marks
  unfolding pass
  pass-spelt_through begun marks =
      ap (pass interval_by strong begun) (sym (append-nil marks)) ∙ pass-append begun marks []
      ∙ ap (λ zs. ended_through strong begun marks ++ zs) (left (open_through strong begun marks))
    where
      left : (begun : Option Begin) → outcome interval_by strong None begun ≡ option_to_list (option_map unended_interval begun)
      left None = refl
      left (Some begin) = refl

  -- behind one more mark with a count a begin is open exactly where that mark initiates
  pub is_some-open_through : (begun : Option Begin) (xs : List PlainMark) (m : PlainMark) → is_marked m ≡ true → is_some (open_through strong begun (xs ++ m ∷ [])) ≡ mark_initiates m
  unfolding open_through
  is_some-open_through begun xs m some = ap is_some (open_through-append begun xs (m ∷ [])) ∙ is_some-open_behind strong (open_through strong begun xs) m some

-- ---- what becomes of the open begin, and the rest

-- the end that the next break gives an open begin: none at all where it does not terminate
abbrev pub fate : Option PlainMark → Option (Option ℤ)
fate None = Some None
fate (Some m) = cond (mark_terminates m) (Some (Some m.instant)) None

lasting-none : (end : Option (Option ℤ)) → lasting end None ≡ None
lasting-none None = refl
lasting-none (Some until) = refl

outcome-lasting : (strong : Bool) (next : Option PlainMark) (begun : Option Begin) → outcome interval_by strong next begun ≡ option_to_list (lasting (fate next) begun)
outcome-lasting strong None None = refl
outcome-lasting strong None (Some begin) = refl
outcome-lasting strong (Some m) None = ap option_to_list (sym (lasting-none (fate (Some m))))
outcome-lasting strong (Some m) (Some begin) = by_test (mark_terminates m)
  where
    by_test : (b : Bool) → option_to_list (cond b (Some (interval_up_to m.instant begin)) None) ≡ option_to_list (lasting (cond b (Some (Some m.instant)) None) (Some begin))
    by_test true = refl
    by_test false = refl

-- an end that is read off another begin
pub lasting-other : (end : Option (Option ℤ)) (begun other : Option Begin) → is_some begun ≡ is_some other →
    lasting (option_map (λ (interval : Interval). interval.until) (lasting end other)) begun ≡ lasting end begun
lasting-other end None None same = lasting-none (option_map (λ (interval : Interval). interval.until) (lasting end None)) ∙ sym (lasting-none end)
lasting-other None (Some begin) (Some other) same = refl
lasting-other (Some until) (Some begin) (Some other) same = refl
lasting-other end None (Some other) same = absurd (false≢true same)
lasting-other end (Some begin) None same = absurd (false≢true (sym same))

-- the intervals that start at some marks, where a property is current in front of them or is not
abbrev pub later : Bool → Bool → List PlainMark → List Interval
later strong current marks = started interval_by strong marks (row_starts strong current None marks)

module _ (strong : Bool) where
  -- the pass: what becomes of the open begin, and what starts later, which does not depend on that begin
  pub pass-later : (begun : Option Begin) (marks : List PlainMark) → IsPlainRow marks →
      pass interval_by strong begun marks ≡ option_to_list (lasting (fate (find (mark_breaks strong) marks)) begun) ++ later strong (is_some begun) marks
  pass-later begun marks row =
      pass-starts interval_by strong (is_some begun) None begun marks refl row
      ∙ ap (λ xs. xs ++ later strong (is_some begun) marks) (outcome-lasting strong (find (mark_breaks strong) marks) begun)

  -- so the pass over two parts, the first of which ends with a mark m
  pub pass-behind : (begun : Option Begin) (xs : List PlainMark) (m : PlainMark) (ms : List PlainMark) → IsPlainRow (xs ++ m ∷ ms) →
      pass interval_by strong begun (xs ++ m ∷ ms)
      ≡ ended_through strong begun (xs ++ m ∷ [])
      ++ (option_to_list (lasting (fate (find (mark_breaks strong) ms)) (open_through strong begun (xs ++ m ∷ []))) ++ later strong (mark_initiates m) ms)
  pass-behind begun xs m ms row =
      let behind = IsPlainRow-behind xs (m ∷ ms) row in
      ap (pass interval_by strong begun) (sym (append_assoc xs (m ∷ []) ms)) ∙ pass-append strong begun (xs ++ m ∷ []) ms
      ∙ ap (λ zs. ended_through strong begun (xs ++ m ∷ []) ++ zs)
      (pass-later (open_through strong begun (xs ++ m ∷ [])) ms (IsPlainRow-rest m ms behind)
      ∙ ap (λ b. option_to_list (lasting (fate (find (mark_breaks strong) ms)) (open_through strong begun (xs ++ m ∷ []))) ++ later strong b ms)
      (is_some-open_through strong begun xs m (and-left (is_marked m) (list_all is_marked ms) behind.counted)))

-- ---- where intervals begin and end

module _ (p : ℤ → Bool) (strong : Bool) where
  ended_by-ends : (begun : Option Begin) (m : PlainMark) → p m.instant ≡ true → option_map_or (ends_where p) (ended_by begun m) true ≡ true
  ended_by-ends begun m here = by_cases (mark_terminates m) begun
    where
      by_cases : (b : Bool) (begun : Option Begin) → option_map_or (ends_where p) (cond b (option_map (interval_up_to m.instant) begun) None) true ≡ true
      by_cases true None = refl
      by_cases true (Some begin) = here
      by_cases false begun = refl

  -- what marks end ends where they stand
  pub ended_through-ends : (begun : Option Begin) (ms : List PlainMark) → list_all (λ (m : PlainMark). p m.instant) ms ≡ true → list_all (ends_where p) (ended_through strong begun ms) ≡ true
  unfolding ended_through
  ended_through-ends begun [] all = refl
  ended_through-ends begun (m ∷ ms) all =
      list_all-cons (ends_where p) (ended_by begun m) (ended_through strong (open_behind strong begun m) ms)
      (ended_by-ends begun m (and-left _ _ all)) (ended_through-ends (open_behind strong begun m) ms (and-right _ _ all))

  -- what starts later begins at one of the marks
  pub later-begins : (current : Bool) (ms : List PlainMark) → list_all (λ (m : PlainMark). p m.instant) ms ≡ true → list_all (λ (i : Interval). begins_where p i.from) (later strong current ms) ≡ true
  later-begins current ms all = from_starts (row_starts strong current None ms) (list_all-row_starts interval_by strong current p None ms all)
    where
      one : (s : ℤ) (next : Option PlainMark) (rest : List Interval) → p s ≡ true → list_all (λ (i : Interval). begins_where p i.from) rest ≡ true →
          list_all (λ (i : Interval). begins_where p i.from) (option_to_list (interval_by (begin_at s) next) ++ rest) ≡ true
      one s None rest here behind = ap (λ b. b && list_all (λ (i : Interval). begins_where p i.from) rest) here ∙ behind
      one s (Some m) rest here behind = by_test (mark_terminates m)
        where
          by_test : (b : Bool) → list_all (λ (i : Interval). begins_where p i.from) (option_to_list (cond b (Some (interval_up_to m.instant (begin_at s))) None) ++ rest) ≡ true
          by_test true = ap (λ b. b && list_all (λ (i : Interval). begins_where p i.from) rest) here ∙ behind
          by_test false = behind

      from_starts : (starts : List ℤ) → list_all p starts ≡ true → list_all (λ (i : Interval). begins_where p i.from) (started interval_by strong ms starts) ≡ true
      from_starts [] all = refl
      from_starts (s ∷ starts) all =
          ap (list_all (λ (i : Interval). begins_where p i.from)) (cons_option-is_append (interval_by (begin_at s) (next_mark strong ms (begin_at s))) (started interval_by strong ms starts))
          ∙ one s (next_mark strong ms (begin_at s)) (started interval_by strong ms starts) (and-left (p s) (list_all p starts) all) (from_starts starts (and-right (p s) (list_all p starts) all))

module _ (q : Begin → Bool) (strong : Bool) where
  ended_by-begins : (begun : Option Begin) (m : PlainMark) → option_map_or q begun true ≡ true → option_map_or (λ (i : Interval). q i.from) (ended_by begun m) true ≡ true
  ended_by-begins begun m front = by_cases (mark_terminates m) begun front
    where
      by_cases : (b : Bool) (begun : Option Begin) → option_map_or q begun true ≡ true →
          option_map_or (λ (i : Interval). q i.from) (cond b (option_map (interval_up_to m.instant) begun) None) true ≡ true
      by_cases true None front = refl
      by_cases true (Some begin) front = front
      by_cases false begun front = refl

  pub open_behind-begins : (begun : Option Begin) (m : PlainMark) → option_map_or q begun true ≡ true → q (begin_at m.instant) ≡ true → option_map_or q (open_behind strong begun m) true ≡ true
  open_behind-begins begun m front here = by_cases (mark_initiates m && (mark_breaks strong m || not (is_some begun))) (mark_breaks strong m)
    where
      by_cases : (opens breaks : Bool) → option_map_or q (cond opens (Some (begin_at m.instant)) (cond breaks None begun)) true ≡ true
      by_cases true breaks = here
      by_cases false true = refl
      by_cases false false = front

  -- what holds of the open begin and of the instants of some marks holds of the begin of each interval that they end
  pub ended_through-begins : (begun : Option Begin) (ms : List PlainMark) → option_map_or q begun true ≡ true → list_all (λ (m : PlainMark). q (begin_at m.instant)) ms ≡ true →
      list_all (λ (i : Interval). q i.from) (ended_through strong begun ms) ≡ true
  unfolding ended_through
  ended_through-begins begun [] front all = refl
  ended_through-begins begun (m ∷ ms) front all =
      list_all-cons (λ (i : Interval). q i.from) (ended_by begun m) (ended_through strong (open_behind strong begun m) ms)
      (ended_by-begins begun m front) (ended_through-begins (open_behind strong begun m) ms (open_behind-begins begun m front (and-left _ _ all)) (and-right _ _ all))

  -- and of what is open behind them
  pub open_through-begins : (begun : Option Begin) (ms : List PlainMark) → option_map_or q begun true ≡ true → list_all (λ (m : PlainMark). q (begin_at m.instant)) ms ≡ true →
      option_map_or q (open_through strong begun ms) true ≡ true
  unfolding open_through
  open_through-begins begun [] front all = front
  open_through-begins begun (m ∷ ms) front all = open_through-begins (open_behind strong begun m) ms (open_behind-begins begun m front (and-left _ _ all)) (and-right _ _ all)

-- while the begin before all events is open nothing is ended
pub open_behind-before_all : (strong : Bool) (begun : Option Begin) (m : PlainMark) → open_behind strong begun m ≡ Some before_all →
    (begun ≡ Some before_all) × (ended_by begun m ≡ None)
open_behind-before_all strong begun m is = one (mark_initiates m) (mark_breaks strong m) (mark_terminates m) begun (breaks-terminates strong m) is
  where
    one : (initiates breaks terminates : Bool) (begun : Option Begin) → (terminates ≡ true → breaks ≡ true) →
        cond (initiates && (breaks || not (is_some begun))) (Some (begin_at m.instant)) (cond breaks None begun) ≡ Some before_all →
        (begun ≡ Some before_all) × (cond terminates (option_map (interval_up_to m.instant) begun) None ≡ None)
    one true true terminates begun so is = absurd (let no = is in cc)
    one true false terminates None so is = absurd (let no = is in cc)
    one true false true (Some begin) so is = absurd (false≢true (so refl))
    one true false false (Some begin) so is = (is, refl)
    one false true terminates begun so is = absurd (let no = is in cc)
    one false false true begun so is = absurd (false≢true (so refl))
    one false false false begun so is = (is, refl)

pub ended_through-before_all : (strong : Bool) (begun : Option Begin) (ms : List PlainMark) → open_through strong begun ms ≡ Some before_all →
    (begun ≡ Some before_all) × (ended_through strong begun ms ≡ [])
unfolding open_through ended_through
ended_through-before_all strong begun [] is = (is, refl)
ended_through-before_all strong begun (m ∷ ms) is =
    let rest = ended_through-before_all strong (open_behind strong begun m) ms is in
    let here = open_behind-before_all strong begun m rest.0 in
    (here.0, ap₂ (λ o xs. option_to_list o ++ xs) here.1 rest.1)
