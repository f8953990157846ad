-- The list that a batch leaves, update by update.
use Rattle.std.proofs.Common.{◌≡◌, ◌<◌, ◌+◌, ℕ, true, List, [], ◌∷◌, ◌++◌, length, suc, refl, sym, ap, ap₂, subst, ◌∙◌, arith}
use Rattle.std.specs.Prelude.{Result, Ok, Err, MatchResult}
use Rattle.ec_terms.specs.declared.theory.Theory.{Theory}
use Rattle.ec_axioms.specs.declared.event.Cut.{Cut}
use Rattle.ec_axioms.specs.Calculus.{PlainEvent}
use Rattle.ec_axioms.specs.Changes.{PlainUpdate, PlacedCut, after_update}
use Rattle.ec_replies.specs.Runs.{batch_may_want_memory, may_want_by}
use Rattle.ec_replies.specs.Updates.{updated, updated_from}

-- the first updates of a batch leave a list, and the rest goes on from it
pub updated_from-front : (theory : Theory) (place : ℕ) (soon mid : List PlainEvent) (front rest : List PlainUpdate) → updated_from theory place soon front ≡ Ok mid
    → updated_from theory place soon (front ++ rest) ≡ updated_from theory (place + length front) mid rest
unfolding updated_from
updated_from-front theory place soon mid [] rest is =
    let same : soon ≡ mid = cc in let none : place ≡ place + 0 = omega arith in ap₂ (λ n events. updated_from theory n events rest) none same
updated_from-front theory place soon mid (update ∷ front) rest is =
    by_first (updated theory soon update) (λ after so. updated_from-front theory (place + 1) after mid front rest so) is
  where
    by_first : (r : Result (List PlainEvent) Cut)
        → ((after : List PlainEvent) → updated_from theory (place + 1) after front ≡ Ok mid → updated_from theory (place + 1) after (front ++ rest) ≡ updated_from theory ((place + 1) + length front) mid rest)
        → after_update place r (λ after. updated_from theory (place + 1) after front) ≡ Ok mid
        → after_update place r (λ after. updated_from theory (place + 1) after (front ++ rest)) ≡ updated_from theory (place + length (update ∷ front)) mid rest
    by_first (Ok after) goes_on so =
        let later : (place + 1) + length front ≡ place + suc (length front) = omega arith in goes_on after so ∙ ap (λ n. updated_from theory n mid rest) later
    by_first (Err cut) goes_on so = cc

-- the next update leaves a list
pub updated_from-next : (theory : Theory) (place : ℕ) (soon mid after : List PlainEvent) (front : List PlainUpdate) (update : PlainUpdate) → updated_from theory place soon front ≡ Ok mid
    → updated theory mid update ≡ Ok after → updated_from theory place soon (front ++ update ∷ []) ≡ Ok after
unfolding updated_from
updated_from-next theory place soon mid after front update is next =
    updated_from-front theory place soon mid front (update ∷ []) is ∙ ap (λ r. after_update (place + length front) r (λ later. updated_from theory (place + length front + 1) later [])) next

-- or is refused
pub updated_from-refused : (theory : Theory) (place : ℕ) (soon mid : List PlainEvent) (cut : Cut) (front rest : List PlainUpdate) (update : PlainUpdate) → updated_from theory place soon front ≡ Ok mid
    → updated theory mid update ≡ Err cut → updated_from theory place soon (front ++ update ∷ rest) ≡ Err (place + length front, cut)
unfolding updated_from
updated_from-refused theory place soon mid cut front rest update is next =
    updated_from-front theory place soon mid front (update ∷ rest) is ∙ ap (λ r. after_update (place + length front) r (λ later. updated_from theory (place + length front + 1) later rest)) next

-- a result that is what is said is there
pub goes_ok : {A E : Type 0} (r : Result A E) (P : A → Type 0) → MatchResult r P (λ e. ⊥) → (a : A) × (r ≡ Ok a) × P a
goes_ok (Ok a) P so = (a, refl, so)
goes_ok (Err e) P so = absurd so

-- what holds of it holds of the answer
pub goes_on : {A E : Type 0} (r : Result A E) (a : A) (P : A → Type 0) → r ≡ Ok a → P a → MatchResult r P (λ e. ⊥)
goes_on r a P is so = subst (λ s. MatchResult s P (λ e. ⊥)) (sym is) so

-- ---- where memory may run out for a batch

-- where it may for the first update
may_want-accepted : (r : Result (List PlainEvent) Cut) (place : ℕ) (after : List PlainEvent) (rest : List PlainEvent → Result (List PlainEvent) PlacedCut) → after_update place r rest ≡ Ok after
    → may_want_by r ≡ true
may_want-accepted (Ok events) place after rest is = refl
may_want-accepted (Err cut) place after rest is = cc

-- so where it may for the next one behind those that are accepted
pub batch_may_want-next : (theory : Theory) (soon mid : List PlainEvent) (front rest : List PlainUpdate) (update : PlainUpdate) → updated_from theory 1 soon front ≡ Ok mid
    → may_want_by (updated theory mid update) ≡ true → batch_may_want_memory theory soon (front ++ update ∷ rest) ≡ true
unfolding batch_may_want_memory updated_from
batch_may_want-next theory soon mid [] rest update is may =
    let same : soon ≡ mid = cc in ap (λ es. may_want_by (updated theory es update)) same ∙ may
batch_may_want-next theory soon mid (first ∷ front) rest update is may = may_want-accepted (updated theory soon first) 1 mid _ is

-- and where all of it is accepted, and there is some of it
pub batch_may_want-accepted : (theory : Theory) (before after : List PlainEvent) (updates : List PlainUpdate) → 0 < length updates → updated_from theory 1 before updates ≡ Ok after
    → batch_may_want_memory theory before updates ≡ true
unfolding batch_may_want_memory updated_from
batch_may_want-accepted theory before after [] some is = let none : ⊥ = omega arith in absurd none
batch_may_want-accepted theory before after (update ∷ updates) some is = may_want-accepted (updated theory before update) 1 after _ is

-- a result is not both
pub not_both : {A E : Type 0} (r : Result A E) (a : A) (e : E) → r ≡ Ok a → r ≡ Err e → ⊥
not_both r a e ok err = cc
