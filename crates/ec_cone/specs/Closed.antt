-- Sets of properties that are closed: what happens to a property inside rests on properties inside alone. And the events that
-- matter to the properties inside.
use Rattle.std.specs.Prelude.{◌≡◌, Bool, List, ℤ, filter, Contains, IsTrue}
use Rattle.std.specs.List.{list_any}
use Rattle.ec_terms.specs.declared.ground.Ground.{Ground}
use Rattle.ec_terms.specs.declared.theory.Theory.{Theory}
use Rattle.ec_terms.specs.Domain.{GroundLiteral, GroundEntry, entries_of, are_exclusive}
use Rattle.ec_axioms.specs.Calculus.{PlainEvent, holds_at}
use Rattle.ec_axioms.specs.Changes.{is_history}
use Rattle.ec_changes.specs.IntervalLaws.{KeepsIntervals}

-- A set of properties is closed: with the head of an entry it has the property of each of its literals, and with a property
-- each one that is exclusive to it.
pub record IsClosed (theory : Theory) (inside : Ground → Bool) : Type 0 where
  pub literals : (event : Ground) (entry : GroundEntry) (literal : GroundLiteral) → Contains (entries_of theory event) entry
      → Contains entry.literals literal → IsTrue (inside entry.head) → IsTrue (inside literal.prop)
  pub exclusives : (p q : Ground) → IsTrue (are_exclusive theory p q) → IsTrue (inside p) → IsTrue (inside q)

-- an event has an entry whose head is inside
unfoldable pub has_entry_inside : Theory → (Ground → Bool) → PlainEvent → Bool
has_entry_inside theory inside e = list_any (λ (entry : GroundEntry). inside entry.head) (entries_of theory e.term)

-- the events that have one
abbrev pub events_inside : Theory → (Ground → Bool) → List PlainEvent → List PlainEvent
events_inside theory inside events = filter (has_entry_inside theory inside) events

-- two lists of events say the same of a property
pub record SaysTheSame (theory : Theory) (old new : List PlainEvent) (p : Ground) : Type 0 where
  pub kept : KeepsIntervals theory old new p
  pub holding : (t : ℤ) → holds_at theory old p t ≡ holds_at theory new p t

-- Of the properties of a closed set, the events with an entry in it say what the whole history says.
abbrev pub ClosedSetSuffices : Type 0
ClosedSetSuffices =
    (theory : Theory) (inside : Ground → Bool) (events : List PlainEvent) (p : Ground) → IsTrue (is_history events)
    → IsClosed theory inside → IsTrue (inside p) → SaysTheSame theory events (events_inside theory inside events) p
