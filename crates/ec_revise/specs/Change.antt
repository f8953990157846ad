-- What it is to be the change between the list of a store and a new list: the events of either list alone.
use Rattle.std.specs.Prelude.{Contains, ◌≡◌, Bool, not, ◌==◌, ◌&&◌, ◌||◌, nat_lt, List, map, ℤ, int_lt, Option, Some, option_map, IsTrue}
use Rattle.std.specs.List.{All, list_any}
use Rattle.std.specs.Ordering.{int_eq}
use Rattle.ec_terms.specs.declared.ids.Slot.{Slot}
use Rattle.ec_terms.specs.declared.theory.Theory.{Theory}
use Rattle.ec_terms.specs.Domain.{GroundEntry, entries_of}
use Rattle.ec_axioms.specs.declared.event.Event.{Event}
use Rattle.ec_axioms.specs.Calculus.{PlainEvent}
use Rattle.ec_axioms.specs.Changes.{events_only_in, has_event, is_history}
use Rattle.ec_axioms.specs.Events.{event_of}
use Rattle.ec_context.specs.Entries.{shown_entries}
use Rattle.ec_store.specs.Store.{Kept, event_at, history_of, plain_of}
use Rattle.ec_store.specs.Table.{KeptProp}
use Rattle.ec_rows.specs.Ordered.{is_ascending}
use Rattle.ec_revise.specs.declared.change.Change.{Change}
use Rattle.ec_revise.specs.declared.change.Removal.{Removal}

-- a removal comes before another: by time, then by slot
abbrev pub removal_before : {T : Type 0} → (T → ℤ) → Removal T → Removal T → Bool
removal_before rank r s = int_lt (rank r.at) (rank s.at) || (int_eq (rank r.at) (rank s.at) && nat_lt r.slot.0 s.slot.0)

-- a slot is to be taken out
abbrev pub has_slot : {T : Type 0} → Slot → List (Removal T) → Bool
has_slot slot removals = list_any (λ removal. removal.slot.0 == slot.0) removals

-- the entries of an event, once a table keeps all that they mention
abbrev pub entries_to_show : {T : Type 0} → Theory → Event T → Option (List GroundEntry)
entries_to_show theory event = Some (entries_of theory event.term)

-- A change is that between the events of a store and a new history: it takes out each event that does not stand in the new
-- list, by its time and slot, and puts in those that stand there alone, each with its entries as a table shows them.
pub record IsChange {T : Type 0} (rank : T → ℤ) (theory : Theory) (table : List KeptProp) (events : List (Kept T)) (new : List PlainEvent) (change : Change T) : Type 0 where
  pub history : IsTrue (is_history new)
  pub removed : (kept : Kept T) → Contains events kept → has_slot kept.0 change.remove ≡ not (has_event new (plain_of rank kept))
  pub times : All (λ (removal : Removal T). option_map (λ event. event.at) (event_at removal.slot events) ≡ Some removal.at) change.remove
  pub order : IsTrue (is_ascending (removal_before rank) change.remove)
  pub added : map (event_of rank) change.add ≡ events_only_in new (history_of rank events)
  pub entries : map (shown_entries table) change.entries ≡ map (entries_to_show theory) change.add
