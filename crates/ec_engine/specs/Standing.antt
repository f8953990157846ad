-- What an engine stands for: a theory and a list of events within the limits.
use Rattle.std.specs.Prelude.{ℤ, List}
use Rattle.ec_terms.specs.declared.theory.Theory.{Theory}
use Rattle.ec_axioms.specs.Calculus.{PlainEvent}
use Rattle.ec_store.specs.Store.{history_of}
use Rattle.ec_parts.specs.declared.tally.Tally.{Tally}
use Rattle.ec_parts.specs.StandFor.{StandFor, View}
use Rattle.ec_batch.specs.Limits.{IsWithinLimits}

-- a theory and a list of events
pub record Standing : Type 0 where
  pub theory : Theory
  pub events : List PlainEvent

-- the parts stand for a list, with some tally of its mentions and links
pub record IsStanding {T : Type 0} (rank : T → ℤ) (theory : Theory) (events : List PlainEvent) (view : View T) : Type 0 where
  pub tally : Tally
  pub stand : StandFor rank theory events view tally
  pub within : IsWithinLimits theory events

-- the fields of an engine: the parts stand for the list of their store, which is within the limits
pub record IsEngine {T : Type 0} (rank : T → ℤ) (theory : Theory) (view : View T) (tally : Tally) : Type 0 where
  pub stand : StandFor rank theory (history_of rank view.store.events) view tally
  pub within : IsWithinLimits theory (history_of rank view.store.events)
