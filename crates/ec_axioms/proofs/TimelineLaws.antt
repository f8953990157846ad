-- The laws of one timeline: its intervals are disjoint, at most one covers an instant, holding is the reason yes, holding through a stretch is holding at each
-- whole number of it; and of two: if each breaks where the other begins, their intervals share only a beginning.
use Rattle.std.proofs.Common.{◌≡◌, ◌⊎◌, ◌↔◌, ℤ, pos, ◌+ℤ◌, Bool, true, false, cond, not, ◌&&◌, ◌||◌, List, [], ◌∷◌, ◌++◌, map, filter, Option, Some, None, IsTrue, IsFalse, IsSomeAnd, refl, ap, ap₂, sym, subst, ◌∙◌, inl, inr, ⊎_elim, arith}
use Rattle.std.specs.Prelude.{int_lt, int_le}
use Rattle.std.specs.List.{list_all, list_any, cons_option}
use Rattle.std.specs.Option.{option_map_or}
use Rattle.std.proofs.lemmas.Bool.{cond_both, and_parts, and_from, and_right, or_cases, or_parts, not-true, both_ways, false≢true}
use Rattle.std.proofs.lemmas.Option.{cond_some, same_Some}
use Rattle.ec_axioms.specs.Timeline.{Timeline, Begin, before_all, begin_at, Interval, instants_before, instants_between, carries, carries_initially, is_current_on, is_after, begins_at, is_start, initial_begins, begins_of, next_break, interval_from, intervals_from, intervals_on, is_within_end, covers, is_held_at, has_begin, is_followed, is_held_through, last_begin, reason_from, reason_by, reason_on}
use Rattle.ec_axioms.specs.Laws.{is_yes}
use Rattle.ec_lists.proofs.Integers.{cases_int, int_lt-trans, int_le-same, int_le-from_lt, int_le_lt-trans, int_le-not_before, int_lt-next, int_le-next, int_eq-is, int_eq-same, cases_next, cases_int_le, each_of_stretch}
use Rattle.ec_lists.proofs.Finds.{find-filter}
use Rattle.ec_lists.proofs.Tests.{list_any-filter, list_any-filter_map}
use Rattle.ec_axioms.proofs.Members.{IsMember, IsMember-append_cases, IsMember-from_map, IsMember-filter, IsMember-from_filter, IsMember-from_filter_map, list_any-member, member-list_any, list_any-false, list_all-member, list_all-from_members, list_any_agree, find-Some, IsPairwise, IsPairwise-weaker, IsPairwise-filter, IsPairwise-map, list_any-last, IsSomeAnd-weaker}
use Rattle.ec_axioms.proofs.Instants.{is_ascending, IsPairwise-from_ascending, find-least}

-- ---- begins

-- what a begin of a timeline is: the timeline is initial, or the begin is an instant that starts an interval
abbrev pub IsBegin : Timeline → Begin → Type 0
IsBegin line before_all = IsTrue line.initial
IsBegin line (begin_at s) = IsMember line.instants s × IsTrue (is_start line s)

-- the second begin is an instant behind the first
abbrev IsBehind : Begin → Begin → Type 0
IsBehind b c = (s : ℤ) × (c ≡ begin_at s) × IsTrue (is_after b s)

-- what is behind a begin stays behind it
pub is_after-later : (begin : Begin) (t u : ℤ) → IsTrue (is_after begin t) → IsTrue (int_lt t u) → IsTrue (is_after begin u)
is_after-later before_all t u after before = refl
is_after-later (begin_at s) t u after before = int_lt-trans s t u after before

-- behind a begin at the next number is at the begin or behind it
cases_begin_next : (begin : Begin) (t : ℤ) → IsTrue (is_after begin (t +ℤ pos 1)) → IsTrue (begins_at t begin) ⊎ IsTrue (is_after begin t)
cases_begin_next before_all t after = inr refl
cases_begin_next (begin_at s) t after =
    ⊎_elim (λ same. inl (subst (λ u. IsTrue (begins_at u (begin_at s))) same (int_eq-same s))) inr (cases_next s t after)

-- two begins are the same, or one is behind the other
cases_begin : (b c : Begin) → (b ≡ c) ⊎ (IsBehind b c ⊎ IsBehind c b)
cases_begin before_all before_all = inl refl
cases_begin before_all (begin_at s) = inr (inl (s, refl, refl))
cases_begin (begin_at r) before_all = inr (inr (r, refl, refl))
cases_begin (begin_at r) (begin_at s) =
    ⊎_elim (λ same. inl (ap begin_at same)) (⊎_elim (λ before. inr (inl (s, refl, before))) (λ after. inr (inr (r, refl, after)))) (cases_int r s)

-- ---- ends

-- what ends not after s does not reach a later t
ended_before : (until : Option ℤ) (s t : ℤ) → IsSomeAnd until (λ x. IsTrue (int_le x s)) → IsTrue (int_lt s t) → IsFalse (is_within_end until t)
ended_before None s t ended before = absurd ended
ended_before (Some x) s t ended before = int_le-not_before x t (int_le_lt-trans x s t ended before)

module _ (line : Timeline) where
  -- the begins of the list are begins
  pub IsBegin-from_member : (begin : Begin) → IsMember (begins_of line) begin → IsBegin line begin
  IsBegin-from_member begin member =
      ⊎_elim (from_initial line.initial refl)
      (λ mapped.
      let found = IsMember-from_map begin_at (filter (is_start line) line.instants) begin mapped in
      subst (IsBegin line) found.2 (IsMember-from_filter (is_start line) line.instants found.0 found.1))
      (IsMember-append_cases (initial_begins line.initial) (map begin_at (filter (is_start line) line.instants)) begin member)
    where
      from_initial : (initial : Bool) → line.initial ≡ initial → IsMember (initial_begins initial) begin → IsBegin line begin
      from_initial true is first = ⊎_elim (λ same. subst (IsBegin line) same is) (λ none. absurd none) first
      from_initial false is first = absurd first

  -- a start is initiated, and it breaks or is not current
  start_is : (s : ℤ) → IsTrue (is_start line s) → IsTrue (line.initiated s) × (IsTrue (line.breaks s) ⊎ IsFalse (is_current_on line s))
  start_is s start =
      let parts = and_parts (line.initiated s) (line.breaks s || not (is_current_on line s)) start in
      (parts.0, ⊎_elim inl (λ ended. inr (not-true (is_current_on line s) ended)) (or_cases (line.breaks s) (not (is_current_on line s)) parts.1))

  -- a begin that is an instant is initiated
  pub initiated_at : (s : ℤ) → IsBegin line (begin_at s) → IsTrue (line.initiated s)
  initiated_at s begin = (start_is s begin.1).0

  -- the next break is an instant behind the begin, and breaks
  pub next_break-is : (begin : Begin) (x : ℤ) → next_break line begin ≡ Some x
      → IsMember line.instants x × IsTrue (is_after begin x) × IsTrue (line.breaks x)
  next_break-is begin x next =
      let found = find-Some line.breaks (filter (is_after begin) line.instants) x next in
      let kept = IsMember-from_filter (is_after begin) line.instants x found.0 in (kept.0, kept.1, found.1)

  -- where what has started is not carried over some instants, one of them breaks
  broken_where : (started : Bool) (ts : List ℤ) → IsTrue started → IsFalse (started && not (list_any line.breaks ts))
      → (y : ℤ) × IsMember ts y × IsTrue (line.breaks y)
  broken_where started ts begun lapsed = list_any-member line.breaks ts (grind arith)

  -- where a begin is not current at a later instant, a break lies between
  pub broken_between : (begin : Begin) (s : ℤ) → IsBegin line begin → IsTrue (is_after begin s) → IsFalse (is_current_on line s)
      → (y : ℤ) × IsMember line.instants y × IsTrue (is_after begin y) × IsTrue (line.breaks y) × IsTrue (int_lt y s)
  broken_between before_all s begin after ended =
      let parts = or_parts (list_any (carries line s) (instants_before line s)) (carries_initially line s) ended in
      let found = broken_where line.initial (instants_before line s) begin parts.1 in
      let kept = IsMember-from_filter (λ u. int_lt u s) line.instants found.0 found.1 in (found.0, kept.0, refl, found.2, kept.1)
  broken_between (begin_at r) s begin after ended =
      let parts = or_parts (list_any (carries line s) (instants_before line s)) (carries_initially line s) ended in
      let lapsed = list_any-false (carries line s) (instants_before line s) r parts.0 (IsMember-filter (λ u. int_lt u s) line.instants r begin.0 after) in
      let found = broken_where (line.initiated r) (instants_between line r s) (initiated_at r begin) lapsed in
      let later = IsMember-from_filter (λ u. int_lt r u) (instants_before line s) found.0 found.1 in
      let kept = IsMember-from_filter (λ u. int_lt u s) line.instants found.0 later.0 in (found.0, kept.0, later.1, found.2, kept.1)

  -- an interval goes from one of the begins up to the next break
  pub intervals_on-is : (interval : Interval) → IsMember (intervals_on line) interval
      → IsBegin line interval.from × (next_break line interval.from ≡ interval.until)
  intervals_on-is interval member =
      let found = IsMember-from_filter_map (λ begin. interval_from line begin (next_break line begin)) (begins_of line) interval member in
      let same = made found.0 (next_break line found.0) found.2 in
      (subst (IsBegin line) same.0 (IsBegin-from_member found.0 found.1), ap (next_break line) (sym same.0) ∙ same.1)
    where
      made : (begin : Begin) (next : Option ℤ) → interval_from line begin next ≡ Some interval → (begin ≡ interval.from) × (next ≡ interval.until)
      made begin None is = let same = same_Some _ interval is in (ap (λ i. i.from) same, ap (λ i. i.until) same)
      made begin (Some x) is = let same = (cond_some (line.terminated x) _ interval is).1 in (ap (λ i. i.from) same, ap (λ i. i.until) same)

  -- where each break is a termination, each begin begins an interval
  pub begins-of_intervals : ((t : ℤ) → IsTrue (line.breaks t) → IsTrue (line.terminated t)) → map (λ interval. interval.from) (intervals_on line) ≡ begins_of line
  begins-of_intervals ended = each (begins_of line)
    where
      one : (begin : Begin) (next : Option ℤ) → next_break line begin ≡ next → (rest : List Interval)
          → map (λ interval. interval.from) (cons_option (interval_from line begin next) rest) ≡ begin ∷ map (λ interval. interval.from) rest
      one begin None is rest = refl
      one begin (Some x) is rest =
          ap (λ b. map (λ interval. interval.from) (cons_option (cond b (Some (record { from = begin; until = Some x })) None) rest))
          (ended x (next_break-is begin x is).2)

      each : (begins : List Begin) → map (λ interval. interval.from) (intervals_from line begins) ≡ begins
      each [] = refl
      each (begin ∷ begins) = one begin (next_break line begin) refl (intervals_from line begins) ∙ ap (λ rest. begin ∷ rest) (each begins)

-- ---- reasons

-- the reason from a begin is yes
abbrev is_yes_from : Timeline → ℤ → Begin → Bool
is_yes_from line t begin = is_yes (reason_from line t begin (next_break line begin))

-- the interval from a begin covers an instant behind it exactly where the reason from the begin is yes
covers_yes : (line : Timeline) (t : ℤ) (begin : Begin) (next : Option ℤ)
    → option_map_or (covers t) (interval_from line begin next) false ≡ (is_after begin t && is_yes (reason_from line t begin next))
covers_yes line t begin None = refl
covers_yes line t begin (Some x) = grind arith

-- a property is held where the reason from some begin before is yes
held_yes : (line : Timeline) (t : ℤ)
    → is_held_at (intervals_on line) t ≡ list_any (is_yes_from line t) (filter (λ begin. is_after begin t) (begins_of line))
held_yes line t =
    list_any-filter_map (covers t) (λ begin. interval_from line begin (next_break line begin)) (begins_of line)
    ∙ list_any_agree _ (λ begin. is_after begin t && is_yes_from line t begin) (begins_of line)
    (λ begin _. covers_yes line t begin (next_break line begin))
    ∙ sym (list_any-filter (is_yes_from line t) (λ begin. is_after begin t) (begins_of line))

-- where the next break comes before t the reason at t is not yes
not_yes-ended : (line : Timeline) (t s : ℤ) (begin : Begin) (next : Option ℤ) → IsTrue (int_lt s t) → IsSomeAnd next (λ x. IsTrue (int_le x s))
    → IsFalse (is_yes (reason_from line t begin next))
not_yes-ended line t s begin None before ended = absurd ended
not_yes-ended line t s begin (Some x) before ended = let over = ended_before (Some x) s t ended before in grind arith

-- the reason is that from the last begin
reason_last : (line : Timeline) (t : ℤ) (last : Option Begin) → option_map_or (is_yes_from line t) last false ≡ is_yes (reason_by line t last)
reason_last line t None = refl
reason_last line t (Some begin) = refl

module _ (line : Timeline) (ascending : IsTrue (is_ascending line.instants)) where
  -- the next break comes not after any break behind the begin
  pub next_break-least : (begin : Begin) (y : ℤ) → IsMember line.instants y → IsTrue (is_after begin y) → IsTrue (line.breaks y)
      → IsSomeAnd (next_break line begin) (λ x. IsTrue (int_le x y))
  next_break-least begin y member after breaks =
      subst (λ o. IsSomeAnd o (λ x. IsTrue (int_le x y))) (sym (find-filter line.breaks (is_after begin) line.instants))
      (find-least (λ x. is_after begin x && line.breaks x) line.instants y ascending member (and_from (is_after begin y) (line.breaks y) after breaks))

  -- Intervals are disjoint: the next break after a begin comes not after a later start.
  pub next_break-start : (begin : Begin) (s : ℤ) → IsBegin line begin → IsBegin line (begin_at s) → IsTrue (is_after begin s)
      → IsSomeAnd (next_break line begin) (λ x. IsTrue (int_le x s))
  next_break-start begin s first start after =
      ⊎_elim (next_break-least begin s start.0 after)
      (λ ended.
      let y = broken_between line begin s first after ended in
      IsSomeAnd-weaker (next_break line begin) (λ x. IsTrue (int_le x y.0)) (λ x. IsTrue (int_le x s))
      (λ x within. int_le-from_lt x s (int_le_lt-trans x y.0 s within y.4)) (next_break-least begin y.0 y.1 y.2 y.3))
      (start_is line s start.1).1

  -- each begin is before those that stand behind it
  IsPairwise-begins_of : IsPairwise IsBehind (begins_of line)
  IsPairwise-begins_of =
      let ordered = IsPairwise-filter (λ s t. IsTrue (int_lt s t)) (is_start line) line.instants (IsPairwise-from_ascending line.instants ascending) in
      let starts = IsPairwise-map IsBehind begin_at (filter (is_start line) line.instants)
      (IsPairwise-weaker (λ s t. IsTrue (int_lt s t)) (λ s t. IsBehind (begin_at s) (begin_at t)) (filter (is_start line) line.instants) ordered
      (λ s t _ _ before. (t, refl, before))) in
      elim line.initial as (λ b. IsPairwise IsBehind (initial_begins b ++ map begin_at (filter (is_start line) line.instants))) [
        | true ↦ (λ c member. let found = IsMember-from_map begin_at (filter (is_start line) line.instants) c member in (found.0, sym found.2, refl), starts)
        | false ↦ starts
      ]

  -- Holding is the reason yes: only from the last begin before an instant may the reason there be yes.
  pub is_held_at-reason_on : (t : ℤ) → is_held_at (intervals_on line) t ≡ is_yes (reason_on line t)
  is_held_at-reason_on t =
      let begun : Begin → Bool = λ begin. is_after begin t in
      let before = filter begun (begins_of line) in
      let earlier = IsPairwise-weaker IsBehind (λ b c. IsFalse (is_yes_from line t b)) before
      (IsPairwise-filter IsBehind begun (begins_of line) IsPairwise-begins_of)
      (λ b c left right behind.
      let first = IsMember-from_filter begun (begins_of line) b left in
      let later = IsMember-from_filter begun (begins_of line) (begin_at behind.0) (subst (IsMember before) behind.1 right) in
      not_yes-ended line t behind.0 b (next_break line b) later.1
      (next_break-start b behind.0 (IsBegin-from_member line b first.0) (IsBegin-from_member line (begin_at behind.0) later.0) behind.2)) in
      held_yes line t ∙ list_any-last (is_yes_from line t) before earlier ∙ reason_last line t (last_begin line t)

  -- no break lies between the begin of an interval and an instant that the interval covers
  covers-unbroken : (i : Interval) → IsMember (intervals_on line) i → (s t : ℤ) → IsMember line.instants s → IsTrue (line.breaks s)
      → IsTrue (is_after i.from s) → IsTrue (int_lt s t) → IsFalse (covers t i)
  covers-unbroken i member s t instant breaks after before =
      let ended = subst (λ o. IsSomeAnd o (λ x. IsTrue (int_le x s))) (intervals_on-is line i member).1 (next_break-least i.from s instant after breaks) in
      and_right (is_after i.from t) (is_within_end i.until t) (ended_before i.until s t ended before)

  -- no interval begins behind another where both cover one instant
  covering_not_behind : (i j : Interval) → IsMember (intervals_on line) i → IsMember (intervals_on line) j → (t : ℤ)
      → IsTrue (covers t i) → IsTrue (covers t j) → IsBehind i.from j.from → ⊥
  covering_not_behind i j member_i member_j t covers_i covers_j behind =
      let s = behind.0 in
      let first = intervals_on-is line i member_i in
      let start = subst (IsBegin line) behind.1 (intervals_on-is line j member_j).0 in
      let before = subst (λ begin. IsTrue (is_after begin t)) behind.1 (and_parts (is_after j.from t) (is_within_end j.until t) covers_j).0 in
      let ended = subst (λ o. IsSomeAnd o (λ x. IsTrue (int_le x s))) first.1 (next_break-start i.from s first.0 start behind.2) in
      both_ways (covers t i) (and_right (is_after i.from t) (is_within_end i.until t) (ended_before i.until s t ended before)) covers_i

  -- Two intervals that cover one instant are the same.
  pub covers-same : (i j : Interval) → IsMember (intervals_on line) i → IsMember (intervals_on line) j → (t : ℤ)
      → IsTrue (covers t i) → IsTrue (covers t j) → i ≡ j
  covers-same i j member_i member_j t covers_i covers_j =
      ⊎_elim
      (λ same.
      ap₂ (λ from until. let k : Interval = record { from = from; until = until } in k) same
      (sym (intervals_on-is line i member_i).1 ∙ ap (next_break line) same ∙ (intervals_on-is line j member_j).1))
      (λ apart. absurd (⊎_elim
      (covering_not_behind i j member_i member_j t covers_i covers_j)
      (covering_not_behind j i member_j member_i t covers_j covers_i)
      apart))
      (cases_begin i.from j.from)

-- ---- holding through a stretch

-- what `is_followed` says of an end within the stretch
followed_at : (line : Timeline) (a b x : ℤ) → IsTrue (int_le a x) → IsTrue (int_lt x b) → IsTrue (is_followed (intervals_on line) a b (Some x))
    → IsTrue (has_begin (intervals_on line) x)
followed_at line a b x from_a to_b followed = grind arith

-- an interval that begins at t covers the next whole number
covers_first : (line : Timeline) (i : Interval) → IsMember (intervals_on line) i → (t : ℤ) → IsTrue (begins_at t i.from)
    → IsTrue (covers (t +ℤ pos 1) i)
covers_first line i member t at_t = covered i.from i.until (intervals_on-is line i member).1 at_t
  where
    reaches : (r : ℤ) (until : Option ℤ) → next_break line (begin_at r) ≡ until → r ≡ t → IsTrue (is_within_end until (t +ℤ pos 1))
    reaches r None next here = refl
    reaches r (Some x) next here = int_le-next t x (subst (λ s. IsTrue (int_lt s x)) here (next_break-is line (begin_at r) x next).1)

    covered : (begin : Begin) (until : Option ℤ) → next_break line begin ≡ until → IsTrue (begins_at t begin)
        → IsTrue (is_after begin (t +ℤ pos 1) && is_within_end until (t +ℤ pos 1))
    covered before_all until next at_t = absurd (false≢true at_t)
    covered (begin_at r) until next at_t =
        let here = int_eq-is r t at_t in
        and_from (int_lt r (t +ℤ pos 1)) (is_within_end until (t +ℤ pos 1))
        (subst (λ s. IsTrue (int_lt s (t +ℤ pos 1))) (sym here) (int_lt-next t)) (reaches r until next here)

-- held at t, and held through a stretch that goes on behind t, is held at the next whole number
held_next : (line : Timeline) (a b : ℤ) → IsTrue (is_held_through (intervals_on line) a b)
    → (t : ℤ) → IsTrue (int_le a t) → IsTrue (int_lt t b) → IsTrue (is_held_at (intervals_on line) t)
    → IsTrue (is_held_at (intervals_on line) (t +ℤ pos 1))
held_next line a b through t from_a to_b held =
    let intervals = intervals_on line in
    let followed = (and_parts (is_held_at intervals a) (list_all (λ i. is_followed intervals a b i.until) intervals) through).1 in
    let found = list_any-member (covers t) intervals held in
    next found.0 found.1 found.0.until refl
    (and_parts (is_after found.0.from t) (is_within_end found.0.until t) found.2)
    (list_all-member (λ i. is_followed intervals a b i.until) intervals found.0 followed found.1)
  where
    goes_on : (i : Interval) → IsMember (intervals_on line) i → IsTrue (is_after i.from t) → IsTrue (is_within_end i.until (t +ℤ pos 1))
        → IsTrue (is_held_at (intervals_on line) (t +ℤ pos 1))
    goes_on i member after within =
        member-list_any (covers (t +ℤ pos 1)) (intervals_on line) i member
        (and_from (is_after i.from (t +ℤ pos 1)) (is_within_end i.until (t +ℤ pos 1)) (is_after-later i.from t (t +ℤ pos 1) after (int_lt-next t)) within)

    begins : (x : ℤ) → t ≡ x → IsTrue (has_begin (intervals_on line) x) → IsTrue (is_held_at (intervals_on line) (t +ℤ pos 1))
    begins x here begun =
        let found = list_any-member (λ i. begins_at x i.from) (intervals_on line) begun in
        member-list_any (covers (t +ℤ pos 1)) (intervals_on line) found.0 found.1
        (covers_first line found.0 found.1 t (subst (λ s. IsTrue (begins_at s found.0.from)) (sym here) found.2))

    next : (i : Interval) → IsMember (intervals_on line) i → (until : Option ℤ) → i.until ≡ until
        → IsTrue (is_after i.from t) × IsTrue (is_within_end until t)
        → IsTrue (is_followed (intervals_on line) a b until) → IsTrue (is_held_at (intervals_on line) (t +ℤ pos 1))
    next i member None end covered followed = goes_on i member covered.0 (ap (λ o. is_within_end o (t +ℤ pos 1)) end)
    next i member (Some x) end covered followed =
        ⊎_elim
        (λ here. begins x here
        (followed_at line a b x (subst (λ s. IsTrue (int_le a s)) here from_a) (subst (λ s. IsTrue (int_lt s b)) here to_b) followed))
        (λ before. goes_on i member covered.0 (ap (λ o. is_within_end o (t +ℤ pos 1)) end ∙ int_le-next t x before))
        (cases_int_le t x covered.1)

module _ (line : Timeline) (ascending : IsTrue (is_ascending line.instants)) where
  -- where the property is held at each number of a stretch, an interval that ends within it is followed by one that begins there
  followed_from_each : (a b : ℤ) → ((t : ℤ) → IsTrue (int_le a t) → IsTrue (int_le t b) → IsTrue (is_held_at (intervals_on line) t))
      → (begin : Begin) (until : Option ℤ) → next_break line begin ≡ until → IsTrue (is_followed (intervals_on line) a b until)
  followed_from_each a b each begin None next = refl
  followed_from_each a b each begin (Some x) next =
      cond_both (int_le a x && int_lt x b) (has_begin (intervals_on line) x) true IsTrue
      (λ inside.
      let ends = and_parts (int_le a x) (int_lt x b) inside in
      let break = next_break-is line begin x next in
      let held = each (x +ℤ pos 1) (int_le-from_lt a (x +ℤ pos 1) (int_le_lt-trans a x (x +ℤ pos 1) ends.0 (int_lt-next x))) (int_le-next x b ends.1) in
      let found = list_any-member (covers (x +ℤ pos 1)) (intervals_on line) held in
      let after = (and_parts (is_after found.0.from (x +ℤ pos 1)) (is_within_end found.0.until (x +ℤ pos 1)) found.2).0 in
      ⊎_elim
      (λ begun. member-list_any (λ i. begins_at x i.from) (intervals_on line) found.0 found.1 begun)
      (λ behind. absurd (both_ways (covers (x +ℤ pos 1) found.0)
      (covers-unbroken line ascending found.0 found.1 x (x +ℤ pos 1) break.0 break.2 behind (int_lt-next x)) found.2))
      (cases_begin_next found.0.from x after))
      (λ _. refl)

  -- Holding through a stretch is holding at each whole number of it.
  pub is_held_through-each : (a b : ℤ) → IsTrue (int_le a b)
      → IsTrue (is_held_through (intervals_on line) a b)
      ↔ ((t : ℤ) → IsTrue (int_le a t) → IsTrue (int_le t b) → IsTrue (is_held_at (intervals_on line) t))
  is_held_through-each a b stretch =
      let intervals = intervals_on line in
      let followed : Interval → Bool = λ i. is_followed intervals a b i.until in (
        λ through. each_of_stretch (λ t. IsTrue (is_held_at intervals t)) a b
            (and_parts (is_held_at intervals a) (list_all followed intervals) through).0 (held_next line a b through),
        λ each. and_from (is_held_at intervals a) (list_all followed intervals) (each a (int_le-same a) stretch)
            (list_all-from_members followed intervals (λ i member. followed_from_each a b each i.from i.until (intervals_on-is line i member).1)),
      )

-- ---- two timelines

-- the first timeline breaks wherever the second one begins
abbrev pub IsBrokenBy : Timeline → Timeline → Type 0
IsBrokenBy first second = (s : ℤ) → IsBegin second (begin_at s) → IsMember first.instants s × IsTrue (first.breaks s)

-- where both cover one instant, no interval of the second begins behind one of the first
begins_not_behind : (first second : Timeline) → IsTrue (is_ascending first.instants) → IsBrokenBy first second
    → (i j : Interval) → IsMember (intervals_on first) i → IsMember (intervals_on second) j → (t : ℤ) → IsTrue (covers t i) → IsTrue (covers t j)
    → IsBehind i.from j.from → ⊥
begins_not_behind first second ascending broken i j member_i member_j t covers_i covers_j behind =
    let s = behind.0 in
    let break = broken s (subst (IsBegin second) behind.1 (intervals_on-is second j member_j).0) in
    let before = subst (λ begin. IsTrue (is_after begin t)) behind.1 (and_parts (is_after j.from t) (is_within_end j.until t) covers_j).0 in
    both_ways (covers t i) (covers-unbroken first ascending i member_i s t break.0 break.1 behind.2 before) covers_i

-- Two timelines of which each breaks where the other begins cover one instant only by intervals with one beginning.
pub covers-same_begin : (first second : Timeline) → IsTrue (is_ascending first.instants) → IsTrue (is_ascending second.instants)
    → IsBrokenBy first second → IsBrokenBy second first
    → (i j : Interval) → IsMember (intervals_on first) i → IsMember (intervals_on second) j → (t : ℤ) → IsTrue (covers t i) → IsTrue (covers t j)
    → i.from ≡ j.from
covers-same_begin first second ascending_first ascending_second first_broken second_broken i j member_i member_j t covers_i covers_j =
    ⊎_elim (λ same. same)
    (λ apart. absurd (⊎_elim
    (begins_not_behind first second ascending_first first_broken i j member_i member_j t covers_i covers_j)
    (begins_not_behind second first ascending_second second_broken j i member_j member_i t covers_j covers_i)
    apart))
    (cases_begin i.from j.from)
