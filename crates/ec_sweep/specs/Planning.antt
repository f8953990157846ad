-- What it is for a change to lead from the list of a store to a new list.
use Rattle.std.specs.Prelude.{ℤ, List}
use Rattle.ec_terms.specs.declared.theory.Theory.{Theory}
use Rattle.ec_axioms.specs.Calculus.{PlainEvent}
use Rattle.ec_parts.specs.declared.tally.Tally.{Tally}
use Rattle.ec_parts.specs.StandFor.{View}
use Rattle.ec_revise.specs.declared.change.Change.{Change}
use Rattle.ec_sweep.specs.State.{IsUnderway}

-- there is a new list to which the change leads
pub record LeadsSomewhere {T : Type 0} (rank : T → ℤ) (theory : Theory) (view : View T) (change : Change T) : Type 0 where
  pub new : List PlainEvent
  pub tally : Tally
  pub underway : IsUnderway rank theory new view tally change
