-- A walk over the events at a time, from the first that is not before it.
use Rattle.std.proofs.Common.{◌≡◌, ℕ, zero, suc, ℤ, Bool, true, false, cond, not, List, [], ◌∷◌, length, filter, take, drop, refl, sym, ap, ◌∙◌, arith}
use Rattle.std.specs.Prelude.{int_lt}
use Rattle.std.specs.List.{list_all}
use Rattle.std.specs.Ordering.{int_eq}
use Rattle.std.proofs.lemmas.Bool.{and_parts}
use Rattle.std.proofs.lemmas.Int.{ints}
use Rattle.ec_lists.proofs.Filters.{filter-filter_wider, list_all-kept}
use Rattle.ec_axioms.specs.Calculus.{PlainEvent}
use Rattle.ec_axioms.specs.Changes.{comes_before, is_history}
use Rattle.ec_axioms.specs.Plain.{events_at}
use Rattle.ec_axioms.proofs.Members.{IsPairwise, filter_all, filter_none, list_all-member}

-- ---- lists in which those that pass stand in front

-- those that pass stand in front of the others
module _ {X : Type 0} (p : X → Bool) where
  -- where a member fails, so do those behind it
  abbrev pub StandInFront : List X → Type 0
  StandInFront xs = IsPairwise (λ x y. p x ≡ false → p y ≡ false) xs

  pub take-passing : (xs : List X) → StandInFront xs → take (length (filter p xs)) xs ≡ filter p xs
  take-passing [] pairs = refl
  take-passing (x ∷ xs) pairs = by_test (p x) refl (take-passing xs pairs.1)
    where
      by_test : (b : Bool) → p x ≡ b → take (length (filter p xs)) xs ≡ filter p xs
          → take (length (cond b (x ∷ filter p xs) (filter p xs))) (x ∷ xs) ≡ cond b (x ∷ filter p xs) (filter p xs)
      by_test true is rest = ap (λ ys. x ∷ ys) rest
      by_test false is rest =
          let none = filter_none p xs (λ y member. pairs.0 y member is) in
          ap (λ (ys : List X). take (length ys) (x ∷ xs)) none ∙ sym none

  pub drop-passing : (xs : List X) → StandInFront xs → drop (length (filter p xs)) xs ≡ filter (λ x. not (p x)) xs
  drop-passing [] pairs = refl
  drop-passing (x ∷ xs) pairs = by_test (p x) refl (drop-passing xs pairs.1)
    where
      by_test : (b : Bool) → p x ≡ b → drop (length (filter p xs)) xs ≡ filter (λ x. not (p x)) xs
          → drop (length (cond b (x ∷ filter p xs) (filter p xs))) (x ∷ xs) ≡ cond (not b) (x ∷ filter (λ x. not (p x)) xs) (filter (λ x. not (p x)) xs)
      by_test true is rest = rest
      by_test false is rest =
          let none = filter_none p xs (λ y member. pairs.0 y member is) in
          let all = filter_all (λ y. not (p y)) xs (λ y member. ap not (pairs.0 y member is)) in
          ap (λ (ys : List X). drop (length ys) (x ∷ xs)) none ∙ ap (λ ys. x ∷ ys) (sym all)

-- ---- the events of a history

-- what comes before has no later rank
not_before-later : (e f : PlainEvent) (t : ℤ) → comes_before e f ≡ true → int_lt e.rank t ≡ false → int_lt f.rank t ≡ false
unfolding comes_before
not_before-later e f t before late = grind (arith, ints)

pub is_history-pairs : (t : ℤ) (es : List PlainEvent) → is_history es ≡ true → StandInFront (λ (e : PlainEvent). int_lt e.rank t) es
unfolding is_history
is_history-pairs t [] history = tt
is_history-pairs t (e ∷ es) history =
    let parts = and_parts _ (is_history es) history in
    let order = and_parts (list_all (comes_before e) es) _ parts.0 in
    (λ f member late. not_before-later e f t (list_all-member (comes_before e) es f order.0 member) late, is_history-pairs t es parts.1)

pub is_history-drop : (n : ℕ) (es : List PlainEvent) → is_history es ≡ true → is_history (drop n es) ≡ true
unfolding is_history
is_history-drop zero es history = history
is_history-drop (suc n) [] history = history
is_history-drop (suc n) (e ∷ es) history = is_history-drop n es (and_parts _ (is_history es) history).1

module _ (t : ℤ) where
  -- an event is not before t
  abbrev pub is_from : PlainEvent → Bool
  is_from e = not (int_lt e.rank t)

  -- the events from the first on that is not before t
  pub events_from-first : (es : List PlainEvent) → is_history es ≡ true → list_all is_from (drop (length (filter (λ (e : PlainEvent). int_lt e.rank t) es)) es) ≡ true
  events_from-first es history = ap (list_all is_from) (drop-passing (λ (e : PlainEvent). int_lt e.rank t) es (is_history-pairs t es history)) ∙ list_all-kept is_from es

  at_is_from : (e : PlainEvent) → int_eq e.rank t ≡ true → is_from e ≡ true
  at_is_from e at = grind (arith, ints)

  pub events_at-first : (es : List PlainEvent) → is_history es ≡ true → events_at t (drop (length (filter (λ (e : PlainEvent). int_lt e.rank t) es)) es) ≡ events_at t es
  events_at-first es history =
      ap (events_at t) (drop-passing (λ (e : PlainEvent). int_lt e.rank t) es (is_history-pairs t es history))
      ∙ filter-filter_wider (λ (e : PlainEvent). int_eq e.rank t) is_from es at_is_from

  -- an event that is not at t, nor before it, has none at t behind it
  later-not_at : (e f : PlainEvent) → comes_before e f ≡ true → is_from e ≡ true → int_eq e.rank t ≡ false → int_eq f.rank t ≡ false
  unfolding comes_before
  later-not_at e f before late other = grind (arith, ints)

  pub events_at-behind : (e : PlainEvent) (es : List PlainEvent) → is_history (e ∷ es) ≡ true → is_from e ≡ true → int_eq e.rank t ≡ false → events_at t (e ∷ es) ≡ []
  unfolding is_history
  events_at-behind e es history late other =
      let parts = and_parts _ (is_history es) history in
      let order = and_parts (list_all (comes_before e) es) _ parts.0 in
      ap (λ b. cond b (e ∷ events_at t es) (events_at t es)) other
      ∙ filter_none (λ (f : PlainEvent). int_eq f.rank t) es (λ f member. later-not_at e f (list_all-member (comes_before e) es f order.0 member) late other)

  pub events_at-other : (e : PlainEvent) (es : List PlainEvent) → int_eq e.rank t ≡ false → events_at t (e ∷ es) ≡ events_at t es
  events_at-other e es other = ap (λ b. cond b (e ∷ events_at t es) (events_at t es)) other

  pub events_at-here : (e : PlainEvent) (es : List PlainEvent) → int_eq e.rank t ≡ true → events_at t (e ∷ es) ≡ e ∷ events_at t es
  events_at-here e es here = ap (λ b. cond b (e ∷ events_at t es) (events_at t es)) here
