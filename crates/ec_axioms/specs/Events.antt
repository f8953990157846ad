-- How the program's events and updates look to the calculus, by the ranks of their times.
use Rattle.std.specs.Prelude.{ℤ}
use Rattle.ec_axioms.specs.declared.event.Event.{Event}
use Rattle.ec_axioms.specs.declared.event.Update.{Update}
use Rattle.ec_axioms.specs.declared.event.Update.TheVariants.{Assert, Retract}
use Rattle.ec_axioms.specs.Calculus.{PlainEvent}
use Rattle.ec_axioms.specs.Changes.{PlainUpdate, asserting, retracting}

-- an event, with its time as a whole number
abbrev pub event_of : {T : Type 0} → (T → ℤ) → Event T → PlainEvent
event_of rank e = record { id = e.id; rank = rank e.at; term = e.term }

-- an update, with its event's time as a whole number
abbrev pub plain_update : {T : Type 0} → (T → ℤ) → Update T → PlainUpdate
plain_update rank (Assert e) = asserting (event_of rank e)
plain_update rank (Retract id) = retracting id
