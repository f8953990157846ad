-- Two timelines with the same currency, which agree wherever the property is current or initiated, have the same intervals.
use Rattle.std.proofs.Common.{◌≡◌, ◌⊎◌, ℤ, cond, not, ◌||◌, List, [], ◌∷◌, ◌++◌, map, filter, filter_map, Option, Some, None, IsTrue, IsSomeAnd, refl, sym, ap, ap₂, subst, ◌∙◌, inl, inr, ⊎_elim, arith}
use Rattle.std.specs.Prelude.{int_lt, int_le}
use Rattle.std.specs.List.{cons_option}
use Rattle.std.proofs.lemmas.Bool.{cases_Bool, and_parts, false≢true}
use Rattle.std.proofs.lemmas.Int.{ints}
use Rattle.ec_lists.proofs.Integers.{int_lt-same, int_lt-not_after, int_le-not_before}
use Rattle.ec_axioms.specs.Timeline.{Timeline, Begin, begin_at, is_current_on, is_start, initial_begins, begins_of, next_break, interval_from, broken_from, intervals_on, broken_on}
use Rattle.ec_axioms.proofs.Members.{IsMember, IsMember-filter, IsMember-from_filter, IsPairwise-filter}
use Rattle.ec_axioms.proofs.Instants.{is_ascending, IsPairwise-from_ascending}
use Rattle.ec_axioms.proofs.TimelineLaws.{IsBegin, IsBegin-from_member, next_break-is, broken_between, next_break-least}
use Rattle.ec_changes.proofs.KeptEvents.{same_from_members}

-- functions that agree at each member give the same
filter_map_agree : {X Y : Type 0} (f g : X → Option Y) (xs : List X) → ((x : X) → IsMember xs x → f x ≡ g x) → filter_map f xs ≡ filter_map g xs
filter_map_agree f g [] agree = refl
filter_map_agree f g (x ∷ xs) agree = ap₂ cons_option (agree x (inl refl)) (filter_map_agree f g xs (λ y later. agree y (inr later)))

-- ranks with nothing between are the same
int_le-both : (s t : ℤ) → IsTrue (int_le s t) → IsTrue (int_le t s) → s ≡ t
int_le-both s t below above = grind (arith, ints)

-- two timelines agree wherever the property is current or initiated, and have the same currency; each has its instants
-- wherever something happens
pub record AgreeInLife (first second : Timeline) : Type 0 where
  pub ascending : IsTrue (is_ascending first.instants)
  pub initial : first.initial ≡ second.initial
  pub current : (t : ℤ) → is_current_on first t ≡ is_current_on second t
  pub initiated : (t : ℤ) → first.initiated t ≡ second.initiated t
  pub breaks : (t : ℤ) → IsTrue (is_current_on first t) ⊎ IsTrue (first.initiated t) → first.breaks t ≡ second.breaks t
  pub terminated : (t : ℤ) → IsTrue (is_current_on first t) → first.terminated t ≡ second.terminated t
  pub has_initiated : (t : ℤ) → IsTrue (first.initiated t) → IsMember first.instants t
  pub has_broken : (t : ℤ) → IsTrue (first.breaks t) → IsMember first.instants t

-- what a first timeline says goes over to a second one
module _ (first second : Timeline) (agree : AgreeInLife first second) where
  -- a start of the one is a start of the other
  start-over : (s : ℤ) → IsTrue (is_start first s) → IsTrue (is_start second s)
  start-over s start =
      let begun = (and_parts (first.initiated s) (first.breaks s || not (is_current_on first s)) start).0 in
      let initiated = agree.initiated s in
      let breaks = agree.breaks s (inr begun) in
      let current = agree.current s in grind arith

  -- the property is current at the next break after a begin
  current_at_break : (begin : Begin) (x : ℤ) → IsBegin first begin → next_break first begin ≡ Some x → IsTrue (is_current_on first x)
  current_at_break begin x begun next =
      let is = next_break-is first begin x next in
      ⊎_elim (λ current. current)
      (λ ended.
      let y = broken_between first begin x begun is.1 ended in
      let least : IsTrue (int_le x y.0) = subst (λ o. IsSomeAnd o (λ z. IsTrue (int_le z y.0))) next (next_break-least first agree.ascending begin y.0 y.1 y.2 y.3) in
      absurd (false≢true (sym (int_le-not_before y.0 x y.4) ∙ least)))
      (cases_Bool (is_current_on first x))

-- both ways
pub record AgreeBothWays (first second : Timeline) : Type 0 where
  pub into : AgreeInLife first second
  pub back : AgreeInLife second first

module _ (first second : Timeline) (agree : AgreeBothWays first second) where
  -- the same instants start
  starts-same : filter (is_start first) first.instants ≡ filter (is_start second) second.instants
  starts-same =
      same_from_members (λ s t. IsTrue (int_lt s t)) (λ s before. false≢true (sym (int_lt-same s) ∙ before))
      (λ s t before after. false≢true (sym (int_lt-not_after s t before) ∙ after))
      (filter (is_start first) first.instants) (filter (is_start second) second.instants)
      (IsPairwise-filter (λ s t. IsTrue (int_lt s t)) (is_start first) first.instants (IsPairwise-from_ascending first.instants agree.into.ascending))
      (IsPairwise-filter (λ s t. IsTrue (int_lt s t)) (is_start second) second.instants (IsPairwise-from_ascending second.instants agree.back.ascending))
      (over first second agree.into agree.back)
      (over second first agree.back agree.into)
    where
      over : (these those : Timeline) → AgreeInLife these those → AgreeInLife those these → (s : ℤ)
          → IsMember (filter (is_start these) these.instants) s → IsMember (filter (is_start those) those.instants) s
      over these those to from s member =
          let start = (IsMember-from_filter (is_start these) these.instants s member).1 in
          let there = start-over these those to s start in
          let begun = (and_parts (those.initiated s) (those.breaks s || not (is_current_on those s)) there).0 in
          IsMember-filter (is_start those) those.instants s (from.has_initiated s begun) there

  -- so the same begins
  begins-same : begins_of first ≡ begins_of second
  begins-same = ap₂ (λ initial starts. initial_begins initial ++ map begin_at starts) agree.into.initial starts-same

-- the next break of one timeline is not before that of the other
next_break-over : (first second : Timeline) → AgreeInLife first second → AgreeInLife second first → (begin : Begin) (x : ℤ) → IsBegin first begin
    → next_break first begin ≡ Some x → IsSomeAnd (next_break second begin) (λ y. IsTrue (int_le y x))
next_break-over first second to from begin x begun next =
    let is = next_break-is first begin x next in
    let breaks : IsTrue (second.breaks x) = sym (to.breaks x (inl (current_at_break first second to begin x begun next))) ∙ is.2 in
    next_break-least second from.ascending begin x (from.has_broken x breaks) is.1 breaks

-- so it is the same
next_break-same : (first second : Timeline) → AgreeBothWays first second → (begin : Begin) → IsBegin first begin → IsBegin second begin
    → next_break first begin ≡ next_break second begin
next_break-same first second agree begin begun_first begun_second = by_both (next_break first begin) (next_break second begin) refl refl
  where
    by_both : (o q : Option ℤ) → next_break first begin ≡ o → next_break second begin ≡ q → o ≡ q
    by_both None None is_first is_second = refl
    by_both (Some x) None is_first is_second =
        absurd (subst (λ o. IsSomeAnd o (λ y. IsTrue (int_le y x))) is_second (next_break-over first second agree.into agree.back begin x begun_first is_first))
    by_both None (Some y) is_first is_second =
        absurd (subst (λ o. IsSomeAnd o (λ x. IsTrue (int_le x y))) is_first (next_break-over second first agree.back agree.into begin y begun_second is_second))
    by_both (Some x) (Some y) is_first is_second =
        let below = subst (λ o. IsSomeAnd o (λ z. IsTrue (int_le z x))) is_second (next_break-over first second agree.into agree.back begin x begun_first is_first) in
        let above = subst (λ o. IsSomeAnd o (λ z. IsTrue (int_le z y))) is_first (next_break-over second first agree.back agree.into begin y begun_second is_second) in
        ap Some (int_le-both x y above below)

module _ (first second : Timeline) (agree : AgreeBothWays first second) where
  -- a begin has the same next break, and is ended or broken by it alike
  ends-same : (begin : Begin) → IsMember (begins_of first) begin
      → (interval_from first begin (next_break first begin) ≡ interval_from second begin (next_break second begin))
      × (broken_from first begin (next_break first begin) ≡ broken_from second begin (next_break second begin))
  ends-same begin member =
      let begun = IsBegin-from_member first begin member in
      let begun_second = IsBegin-from_member second begin (subst (λ begins. IsMember begins begin) (begins-same first second agree) member) in
      let same = next_break-same first second agree begin begun begun_second in
      by_break (next_break first begin) begun refl same
    where
      by_break : (o : Option ℤ) → IsBegin first begin → next_break first begin ≡ o → next_break first begin ≡ next_break second begin
          → (interval_from first begin (next_break first begin) ≡ interval_from second begin (next_break second begin))
          × (broken_from first begin (next_break first begin) ≡ broken_from second begin (next_break second begin))
      by_break None begun is same =
          let there : next_break second begin ≡ None = sym same ∙ is in
          (ap (interval_from first begin) is ∙ sym (ap (interval_from second begin) there), ap (broken_from first begin) is ∙ sym (ap (broken_from second begin) there))
      by_break (Some x) begun is same =
          let there : next_break second begin ≡ Some x = sym same ∙ is in
          let ends = agree.into.terminated x (current_at_break first second agree.into begin x begun is) in (
            ap (interval_from first begin) is ∙ ap (λ b. cond b (Some (record { from = begin; until = Some x })) None) ends ∙ sym (ap (interval_from second begin) there),
            ap (broken_from first begin) is ∙ ap (λ b. cond b None (Some (begin, x))) ends ∙ sym (ap (broken_from second begin) there),
          )

  pub intervals_on-same : intervals_on first ≡ intervals_on second
  intervals_on-same =
      filter_map_agree (λ begin. interval_from first begin (next_break first begin)) (λ begin. interval_from second begin (next_break second begin))
      (begins_of first) (λ begin member. (ends-same begin member).0)
      ∙ ap (filter_map (λ begin. interval_from second begin (next_break second begin))) (begins-same first second agree)

  pub broken_on-same : broken_on first ≡ broken_on second
  broken_on-same =
      filter_map_agree (λ begin. broken_from first begin (next_break first begin)) (λ begin. broken_from second begin (next_break second begin))
      (begins_of first) (λ begin member. (ends-same begin member).1)
      ∙ ap (filter_map (λ begin. broken_from second begin (next_break second begin))) (begins-same first second agree)
