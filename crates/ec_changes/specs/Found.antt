-- What is found in a list of events by its identity.
use Rattle.std.specs.Prelude.{ℕ, List, find, Option, bytes_eq}
use Rattle.ec_axioms.specs.Calculus.{PlainEvent}

-- the event of an identity, if it is present
abbrev pub event_with : List ℕ → List PlainEvent → Option PlainEvent
event_with id events = find (λ e. bytes_eq e.id id) events
