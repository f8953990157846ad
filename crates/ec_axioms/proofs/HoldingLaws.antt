-- A property holds where it is current and goes on, or ends by a termination.
use Rattle.std.proofs.Common.{◌≡◌, ℕ, ◌<◌, ◌≤◌, ℤ, zero, suc, ◌++◌, Bool, List, Option, Some, None, true, false, not, ◌&&◌, ◌||◌, length, filter, map, find, IsTrue, IsFalse, IsSomeAnd, inl, inr, ⊎_elim, refl, sym, ap, ◌∙◌, subst, arith}
use mathlib.Core.Path.{fun_ext}
use Rattle.std.specs.Prelude.{int_lt, int_le, nat_lt}
use Rattle.std.specs.List.{list_any}
use Rattle.std.specs.Option.{option_map_or}
use Rattle.std.specs.Ordering.{int_eq}
use Rattle.std.proofs.lemmas.Bool.{and_parts, and_from, or_cases, or_parts, cases_Bool, not-true, not-false, and_right, ltb-true, false_from_ne_true, true_from_ne_false, both_ways}
use Rattle.std.proofs.lemmas.Int.{ints}
use Rattle.ec_lists.proofs.Booleans.{Bool-from_both}
use Rattle.ec_axioms.specs.Timeline.{Timeline, Begin, before_all, begin_at, is_after, is_start, begins_of, initial_begins, next_break, interval_from, intervals_on, covers, is_held_at, is_current_on, carries, carries_initially, instants_before, instants_between}
use Rattle.ec_axioms.specs.Calculus.{holds_at, intervals_of, timeline_of, timeline_by}
use Rattle.ec_axioms.specs.Plain.{ends_well, HoldsWhereCurrent}
use Rattle.ec_axioms.proofs.Instants.{is_ascending, is_ascending-instants_of}
use Rattle.ec_lists.proofs.Finds.{find-filter}
use Rattle.ec_lists.proofs.Tests.{list_any-filter_map}
use Rattle.ec_axioms.proofs.Members.{IsMember, IsMember-append_right, IsMember-map, IsMember-filter, IsMember-from_filter, list_any-member, member-list_any, list_any-false, find-Some, find_agree_members, length_member}
use Rattle.ec_lists.proofs.Integers.{cases_int}
use Rattle.ec_axioms.proofs.Rounds.{is_current-equation, length-below_lt}
use Rattle.ec_axioms.proofs.TimelineLaws.{is_after-later, IsBegin-from_member, broken_between, next_break-least}

-- no break lies behind the begin and before t
abbrev IsUnbroken : Timeline → Begin → ℤ → Type 0
IsUnbroken line begin t = (u : ℤ) → IsMember line.instants u → IsTrue (is_after begin u) → IsTrue (int_lt u t) → IsFalse (line.breaks u)

-- ---- a current property has begun

-- where a property is current it has begun, and no break lies between
record HasBegun (line : Timeline) (t : ℤ) : Type 0 where
  begin : Begin
  member : IsMember (begins_of line) begin
  before : IsTrue (is_after begin t)
  unbroken : IsUnbroken line begin t

-- fewer instants are before an instant than before a later time
length-before_lt : (us : List ℤ) (s t : ℤ) → IsMember us s → IsTrue (int_lt s t) → length (filter (λ u. int_lt u s) us) < length (filter (λ u. int_lt u t) us)
length-before_lt us s t member before = length-below_lt us s t before (member-list_any (λ u. int_eq u s) us s member (let same : int_eq s s ≡ true = grind (arith, ints) in same))

-- an instant behind a begin is not broken where neither part is
unbroken_join : (line : Timeline) (begin : Begin) (s t : ℤ) → IsUnbroken line begin s → IsFalse (line.breaks s) → IsUnbroken line (begin_at s) t → IsUnbroken line begin t
unbroken_join line begin s t first here later u member after before =
    ⊎_elim (λ same. subst (λ x. IsFalse (line.breaks x)) (sym same) here)
    (⊎_elim (λ sooner. first u member after sooner) (λ behind. later u member behind before))
    (cases_int u s)

-- an initial property that has no break yet has begun before all events
begun_initially : (line : Timeline) (t : ℤ) → IsTrue (carries_initially line t) → HasBegun line t
begun_initially line t carried =
    let parts = and_parts _ _ carried in
    let none : list_any line.breaks (instants_before line t) ≡ false = not-true _ parts.1 in
    record {
      begin = before_all;
      member = subst (λ b. IsMember (initial_begins b ++ map begin_at (filter (is_start line) line.instants)) before_all) (sym parts.0) (inl refl);
      before = refl;
      unbroken = λ u member after before. list_any-false line.breaks (instants_before line t) u none (IsMember-filter (λ s. int_lt s t) line.instants u member before);
    }

-- a property that is initiated at s and has no break behind has begun there, or earlier where it was current at s
begun_at : (line : Timeline) (s t : ℤ) → IsMember line.instants s → IsTrue (int_lt s t) → IsTrue (line.initiated s) → IsUnbroken line (begin_at s) t →
    (IsTrue (is_current_on line s) → HasBegun line s) → HasBegun line t
begun_at line s t member before initiated later earlier =
    ⊎_elim
    (λ starts. record {
      begin = begin_at s;
      member = IsMember-append_right (initial_begins line.initial) (map begin_at (filter (is_start line) line.instants)) (begin_at s)
          (IsMember-map begin_at (filter (is_start line) line.instants) s (IsMember-filter (is_start line) line.instants s member (and_from _ _ initiated starts)));
      before = before;
      unbroken = later;
    })
    (λ goes_on.
    let parts = or_parts _ _ goes_on in
    let first = earlier (not-false _ parts.1) in
    record {
      begin = first.begin;
      member = first.member;
      before = is_after-later first.begin s t first.before before;
      unbroken = unbroken_join line first.begin s t first.unbroken parts.0 later;
    })
    (cases_Bool (line.breaks s || not (is_current_on line s)))

-- a property that is carried over from s
carried_from : (line : Timeline) (t s : ℤ) → IsMember (instants_before line t) s → IsTrue (carries line t s) →
    (IsTrue (is_current_on line s) → HasBegun line s) → HasBegun line t
carried_from line t s member carried earlier =
    let kept = IsMember-from_filter (λ u. int_lt u t) line.instants s member in
    let parts = and_parts _ _ carried in
    let none : list_any line.breaks (instants_between line s t) ≡ false = not-true _ parts.1 in
    begun_at line s t kept.0 kept.1 parts.0
    (λ u inside after before.
    list_any-false line.breaks (instants_between line s t) u none
    (IsMember-filter (λ u. int_lt s u) (instants_before line t) u (IsMember-filter (λ u. int_lt u t) line.instants u inside before) after))
    earlier

begun : (line : Timeline) (n : ℕ) (t : ℤ) → length (instants_before line t) ≤ n → IsTrue (is_current_on line t) → HasBegun line t
begun line zero t deep current =
    ⊎_elim
    (λ carried.
    let found = list_any-member (carries line t) (instants_before line t) carried in
    let some : nat_lt 0 (length (instants_before line t)) ≡ true = length_member (instants_before line t) found.0 found.1 in
    absurd (let more = ltb-true 0 (length (instants_before line t)) some in omega arith))
    (begun_initially line t)
    (or_cases _ _ current)
begun line (suc n) t deep current =
    ⊎_elim
    (λ carried.
    let found = list_any-member (carries line t) (instants_before line t) carried in
    let kept = IsMember-from_filter (λ u. int_lt u t) line.instants found.0 found.1 in
    let fewer : length (instants_before line found.0) < length (instants_before line t) = length-before_lt line.instants found.0 t kept.0 kept.1 in
    carried_from line t found.0 found.1 found.2 (begun line n found.0 (omega arith)))
    (begun_initially line t)
    (or_cases _ _ current)

-- ---- what an interval says

-- an interval that covers t begins before it, and ends by a termination not before it, if at all
covers-interval_from : (line : Timeline) (begin : Begin) (next : Option ℤ) (t : ℤ) →
    option_map_or (covers t) (interval_from line begin next) false
    ≡ (is_after begin t && option_map_or (λ x. line.terminated x && int_le t x) next true)
covers-interval_from line begin None t = refl
covers-interval_from line begin (Some x) t =
    elim (cases_Bool (line.terminated x)) [
      | inl ends ↦ rw ends refl
      | inr breaks ↦ rw breaks (sym (and_right (is_after begin t) false refl))
    ]

-- a property is held by a begin
is_held_at-begins : (line : Timeline) (t : ℤ) →
    is_held_at (intervals_on line) t
    ≡ list_any (λ begin. is_after begin t && option_map_or (λ x. line.terminated x && int_le t x) (next_break line begin) true) (begins_of line)
is_held_at-begins line t =
    list_any-filter_map (covers t) (λ begin. interval_from line begin (next_break line begin)) (begins_of line)
    ∙ ap (λ f. list_any f (begins_of line)) (fun_ext (λ begin. covers-interval_from line begin (next_break line begin) t))

-- what is not before an instant behind a begin is behind it too
pub is_after-from : (begin : Begin) (t x : ℤ) → IsTrue (is_after begin t) → IsTrue (int_le t x) → IsTrue (is_after begin x)
is_after-from before_all t x after from = refl
is_after-from (begin_at s) t x after from = grind (arith, ints)

-- where no break lies before t, the next break after the begin is the first from t on
next_break-from : (line : Timeline) (begin : Begin) (t : ℤ) → IsTrue (is_after begin t) → IsUnbroken line begin t →
    next_break line begin ≡ find line.breaks (filter (λ s. int_le t s) line.instants)
next_break-from line begin t after unbroken =
    find-filter line.breaks (is_after begin) line.instants
    ∙ find_agree_members _ _ line.instants same
    ∙ sym (find-filter line.breaks (λ s. int_le t s) line.instants)
  where
    same : (x : ℤ) → IsMember line.instants x → (is_after begin x && line.breaks x) ≡ (int_le t x && line.breaks x)
    same x member =
        let from = is_after-from begin t x after in
        let before : int_le t x ≡ false → int_lt x t ≡ true = λ no. grind (arith, ints) in
        let none = unbroken x member in grind arith

-- then it ends as the first break from t on does
ends_well-next : (line : Timeline) (begin : Begin) (t : ℤ) → IsTrue (is_after begin t) → IsUnbroken line begin t →
    option_map_or (λ x. line.terminated x && int_le t x) (next_break line begin) true ≡ ends_well line t
ends_well-next line begin t after unbroken =
    ap (λ o. option_map_or (λ x. line.terminated x && int_le t x) o true) (next_break-from line begin t after unbroken)
    ∙ of_first (find line.breaks (filter (λ s. int_le t s) line.instants)) refl
  where
    of_first : (o : Option ℤ) → find line.breaks (filter (λ s. int_le t s) line.instants) ≡ o →
        option_map_or (λ x. line.terminated x && int_le t x) o true ≡ option_map_or line.terminated o true
    of_first None first = refl
    of_first (Some x) first =
        let found = find-Some line.breaks (filter (λ s. int_le t s) line.instants) x first in
        let kept = IsMember-from_filter (λ s. int_le t s) line.instants x found.0 in
        let from : int_le t x ≡ true = kept.1 in grind arith

-- an interval that ends at t or later has no break before t
no_earlier_break : (terminated : ℤ → Bool) (next : Option ℤ) (u t : ℤ) → IsSomeAnd next (λ x. IsTrue (int_le x u)) →
    option_map_or (λ x. terminated x && int_le t x) next true ≡ true → IsTrue (int_lt u t) → ⊥
no_earlier_break terminated None u t least ends before = least
no_earlier_break terminated (Some x) u t least ends before = let parts = and_parts (terminated x) (int_le t x) ends in grind (arith, ints)

-- ---- the law

module _ (line : Timeline) (ascending : IsTrue (is_ascending line.instants)) (t : ℤ) where
  -- from a held begin
  held-current : (begin : Begin) → IsMember (begins_of line) begin →
      (is_after begin t && option_map_or (λ x. line.terminated x && int_le t x) (next_break line begin) true) ≡ true →
      (is_current_on line t && ends_well line t) ≡ true
  held-current begin member held =
      let parts = and_parts _ _ held in
      let unbroken : IsUnbroken line begin t =
      λ u inside after before.
      false_from_ne_true (line.breaks u)
      (λ breaks. no_earlier_break line.terminated (next_break line begin) u t (next_break-least line ascending begin u inside after breaks) parts.1 before) in
      let current : IsTrue (is_current_on line t) =
      true_from_ne_false (is_current_on line t)
      (λ ended.
      let y = broken_between line begin t (IsBegin-from_member line begin member) parts.0 ended in
      both_ways (line.breaks y.0) (unbroken y.0 y.1 y.2 y.4) y.3) in
      and_from _ _ current (sym (ends_well-next line begin t parts.0 unbroken) ∙ parts.1)

  -- to a held begin
  current-held : (is_current_on line t && ends_well line t) ≡ true → is_held_at (intervals_on line) t ≡ true
  current-held both =
      let parts = and_parts _ _ both in
      let first = begun line (length (instants_before line t)) t (omega arith) parts.0 in
      is_held_at-begins line t
      ∙ member-list_any (λ begin. is_after begin t && option_map_or (λ x. line.terminated x && int_le t x) (next_break line begin) true) (begins_of line) first.begin first.member
      (and_from _ _ first.before (ends_well-next line first.begin t first.before first.unbroken ∙ parts.1))

  -- A property is held exactly where it is current and ends well.
  pub is_held_at-current : is_held_at (intervals_on line) t ≡ (is_current_on line t && ends_well line t)
  is_held_at-current =
      Bool-from_both (is_held_at (intervals_on line) t) (is_current_on line t && ends_well line t)
      (λ held.
      let found = list_any-member (λ begin. is_after begin t && option_map_or (λ x. line.terminated x && int_le t x) (next_break line begin) true) (begins_of line)
      (sym (is_held_at-begins line t) ∙ held) in
      held-current found.0 found.1 found.2)
      current-held

-- ---- of a history

-- the law
pub HoldsWhereCurrent-law : HoldsWhereCurrent
unfolding holds_at intervals_of timeline_of timeline_by
HoldsWhereCurrent-law theory events p t ordered =
    is_held_at-current (timeline_of theory events p) (is_ascending-instants_of events ordered) t
    ∙ ap (λ b. b && ends_well (timeline_of theory events p) t) (sym (is_current-equation theory events p t))
