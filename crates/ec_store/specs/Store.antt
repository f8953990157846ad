-- What a store of events shows: the events in order, each with its slot, and the history that they are.
use Rattle.std.specs.Prelude.{ℕ, not, if◌then◌else◌, ◌==◌, List, [], ◌∷◌, map, filter, find, ℤ, int_lt, Option, option_map, bytes_eq}
use Rattle.ec_terms.specs.declared.ids.Slot.{Slot}
use Rattle.ec_axioms.specs.Calculus.{PlainEvent}
use Rattle.ec_axioms.specs.Changes.{comes_before}
use Rattle.ec_axioms.specs.Events.{event_of}
use Rattle.ec_axioms.specs.declared.event.Event.{Event}

-- an event of a store, with its slot
abbrev pub Kept : Type 0 → Type 0
Kept T = Slot × Event T

-- the events by rank, then identity, each with its slot; how many further events the store takes without memory;
-- and the number that all their slots are below
pub record Store (T : Type 0) : Type 0 where
  pub events : List (Slot × Event T)
  pub spare : ℕ
  pub places : ℕ

-- an event of a store, as the calculus sees it
abbrev pub plain_of : {T : Type 0} → (T → ℤ) → Kept T → PlainEvent
plain_of rank kept = event_of rank kept.1

-- the history that the events are
abbrev pub history_of : {T : Type 0} → (T → ℤ) → List (Kept T) → List PlainEvent
history_of rank events = map (plain_of rank) events

-- the slot of the event with an identity, if there is one
abbrev pub slot_of : {T : Type 0} → List ℕ → List (Kept T) → Option Slot
slot_of id events = option_map (λ kept. kept.0) (find (λ kept. bytes_eq kept.1.id id) events)

-- the event under a slot, if there is one
abbrev pub event_at : {T : Type 0} → Slot → List (Kept T) → Option (Event T)
event_at slot events = option_map (λ kept. kept.1) (find (λ kept. kept.0.0 == slot.0) events)

-- the events before t
abbrev pub kept_before : {T : Type 0} → (T → ℤ) → ℤ → List (Kept T) → List (Kept T)
kept_before rank t events = filter (λ kept. int_lt (rank kept.1.at) t) events

-- the events with one more, in its place
unfoldable pub with_kept : {T : Type 0} → (T → ℤ) → Kept T → List (Kept T) → List (Kept T)
with_kept rank kept [] = kept ∷ []
with_kept rank kept (k ∷ events) = if comes_before (plain_of rank kept) (plain_of rank k) then kept ∷ k ∷ events else k ∷ with_kept rank kept events

-- the events without the one of an identity
abbrev pub without_kept : {T : Type 0} → List ℕ → List (Kept T) → List (Kept T)
without_kept id events = filter (λ kept. not (bytes_eq kept.1.id id)) events
