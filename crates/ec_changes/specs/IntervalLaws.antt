-- The law of changes that leave the intervals, as a statement.
use Rattle.std.specs.Prelude.{◌≡◌, ◌⊎◌, List, ℤ, IsTrue, IsFalse}
use Rattle.ec_terms.specs.declared.ground.Ground.{Ground}
use Rattle.ec_terms.specs.declared.theory.Theory.{Theory}
use Rattle.ec_axioms.specs.Calculus.{PlainEvent, is_current, intervals_of, broken_of}
use Rattle.ec_axioms.specs.Marks.{mark_at}
use Rattle.ec_axioms.specs.Changes.{is_history}

-- At an instant the marks of a property may differ and matter to no interval: it is current there in neither list, and
-- neither mark initiates it.
pub record IsInert (theory : Theory) (old new : List PlainEvent) (p : Ground) (t : ℤ) : Type 0 where
  pub not_in_old : IsFalse (is_current theory old p t)
  pub not_in_new : IsFalse (is_current theory new p t)
  pub no_inits_in_old : (mark_at theory old p t).inits ≡ 0
  pub no_inits_in_new : (mark_at theory new p t).inits ≡ 0

-- what a property keeps between two lists
pub record KeepsIntervals (theory : Theory) (old new : List PlainEvent) (p : Ground) : Type 0 where
  pub currency : (t : ℤ) → is_current theory old p t ≡ is_current theory new p t
  pub intervals : intervals_of theory old p ≡ intervals_of theory new p
  pub broken : broken_of theory old p ≡ broken_of theory new p

-- Where each instant has the same mark in both lists, or is inert, the intervals are the same.
abbrev pub InertChangesKeepIntervals : Type 0
InertChangesKeepIntervals =
    (theory : Theory) (old new : List PlainEvent) (p : Ground) → IsTrue (is_history old) → IsTrue (is_history new)
    → ((t : ℤ) → (mark_at theory old p t ≡ mark_at theory new p t) ⊎ IsInert theory old new p t)
    → KeepsIntervals theory old new p
