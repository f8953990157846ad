-- How the tables go back from the list that a change leads to, to the list of the store: first the added events are taken out,
-- then the removed ones are put back.
use Rattle.std.specs.Prelude.{ℕ, ℤ, List, [], map}
use Rattle.std.specs.Option.{option_map_or}
use Rattle.ec_terms.specs.declared.ids.Slot.{Slot}
use Rattle.ec_terms.specs.declared.theory.Theory.{Theory}
use Rattle.ec_axioms.specs.declared.event.Event.{Event}
use Rattle.ec_axioms.specs.Calculus.{PlainEvent}
use Rattle.ec_store.specs.Store.{Kept, event_at, history_of}
use Rattle.ec_parts.specs.declared.tally.Tally.{Tally}
use Rattle.ec_parts.specs.StandFor.{View, StandForBoth}
use Rattle.ec_revise.specs.declared.change.Change.{Change}
use Rattle.ec_revise.specs.declared.change.Removal.{Removal}
use Rattle.ec_revise.specs.Change.{IsChange}

-- the identity of the event in a slot
abbrev pub id_in : {T : Type 0} → List (Kept T) → Slot → List ℕ
id_in events slot = option_map_or (λ event. event.id) (event_at slot events) []

-- removals, each with the identity of its event
abbrev pub removals_by_id : {T : Type 0} → List (Kept T) → List (Removal T) → List (List ℕ × Removal T)
removals_by_id events removals = map (λ removal. (id_in events removal.slot, removal)) removals

-- events, each with its identity
abbrev pub events_by_id : {T : Type 0} → List (Event T) → List (List ℕ × Event T)
events_by_id events = map (λ event. (event.id, event)) events

-- the parts stand for the list of the store and for the list that a change leads to
pub record IsLedTo {T : Type 0} (rank : T → ℤ) (theory : Theory) (view : View T) (tally : Tally) (change : Change T) (soon : List PlainEvent) : Type 0 where
  pub both : StandForBoth rank theory (history_of rank view.store.events) soon view tally
  pub change_is : IsChange rank theory view.table view.store.events soon change

-- and there is such a list
pub record IsLedSomewhere {T : Type 0} (rank : T → ℤ) (theory : Theory) (view : View T) (tally : Tally) (change : Change T) : Type 0 where
  pub soon : List PlainEvent
  pub to : IsLedTo rank theory view tally change soon
