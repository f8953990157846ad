-- What becomes of the events of a store, and of what is kept of them by slot, when events are taken out and put in.
use Rattle.std.specs.Prelude.{◌≡◌, ◌≢◌, ◌⊎◌, ℕ, ℤ, Bool, not, ◌==◌, List, Option, Some, None, option_map, is_some, filter, slice_get, bytes_eq, IsTrue}
use Rattle.ec_terms.specs.declared.ids.Slot.{Slot}
use Rattle.ec_axioms.specs.declared.event.Event.{Event}
use Rattle.ec_rows.specs.Ordered.{is_ascending}
use Rattle.ec_store.specs.Store.{Kept, event_at, slot_of, with_kept}
use Rattle.ec_numbered.specs.ByNumber.{kept_at}
use Rattle.ec_context.specs.declared.entry.Entry.{Entry}
use Rattle.ec_entries.specs.declared.event_entries.EventEntries.{EventEntries}
use Rattle.ec_revise.specs.declared.change.Removal.{Removal}
use Rattle.ec_revise.specs.Change.{has_slot}
use Rattle.ec_delta.specs.declared.flips.Flip.{Flip}
use Rattle.ec_delta.specs.Looked.{active_found}

-- something is kept under each slot that has an event, and under no other
abbrev pub AreAligned : {T : Type 0} → List (Kept T) → List (Option (EventEntries T)) → Type 0
AreAligned events slots = (slot : Slot) → is_some (kept_at slot.0 slots) ≡ is_some (event_at slot events)

-- ---- flips

-- what is kept of an event, with the new bits of its slot, if there are some
abbrev pub with_flips : {T : Type 0} → Slot → List Flip → Option (EventEntries T) → Option (EventEntries T)
with_flips slot flips kept = option_map (λ (k : EventEntries _). record k { active = active_found slot flips (Some k) }) kept

-- ---- events that are taken out

-- no slot is to be taken out twice
abbrev pub are_slots_apart : {T : Type 0} → List (Removal T) → Bool
are_slots_apart removals = is_ascending (λ (r s : Removal _). not (r.slot.0 == s.slot.0)) removals

-- the events without that of a slot
abbrev pub without_slot : {T : Type 0} → Slot → List (Kept T) → List (Kept T)
without_slot slot events = filter (λ (kept : Kept _). not (slot.0 == kept.0.0)) events

-- the events without those of some slots
abbrev pub without_slots : {T : Type 0} → List (Removal T) → List (Kept T) → List (Kept T)
without_slots removals events = filter (λ (kept : Kept _). not (has_slot kept.0 removals)) events

-- ---- events that are put in

-- the identities of these events are new to a store, and no two of them are the same
pub record AreFresh {T : Type 0} (add : List (Event T)) (events : List (Kept T)) : Type 0 where
  pub absent : (i : ℕ) (event : Event T) → slice_get add i ≡ Some event → slot_of event.id events ≡ None
  pub apart : IsTrue (is_ascending (λ (e f : Event T). not (bytes_eq e.id f.id)) add)

-- what is kept of an event, by its entries and which of them are active
abbrev pub entries_kept : {T : Type 0} → Event T → List Entry → ℕ → EventEntries T
entries_kept event list active = record { at = event.at; list = list; active = active }

-- an event is put in under a slot that was free, and what is kept of it under that slot; what is kept under others stays
pub record IsPutIn {T : Type 0} (rank : T → ℤ) (event : Event T) (list : List Entry) (active : ℕ) (old : List (Kept T)) (before : List (Option (EventEntries T))) (new : List (Kept T)) (after : List (Option (EventEntries T))) : Type 0 where
  pub slot : Slot
  pub free : event_at slot old ≡ None
  pub events : new ≡ with_kept rank (slot, event) old
  pub kept : kept_at slot.0 after ≡ Some (entries_kept event list active)
  pub others : (other : ℕ) → other ≢ slot.0 → kept_at other after ≡ kept_at other before

-- a slot has the event that it had, and what was kept of it
pub record Stays {T : Type 0} (slot : Slot) (old : List (Kept T)) (before : List (Option (EventEntries T))) (new : List (Kept T)) (after : List (Option (EventEntries T))) : Type 0 where
  pub event : event_at slot new ≡ event_at slot old
  pub kept : kept_at slot.0 after ≡ kept_at slot.0 before

-- a slot has one of some added events, with its entries and with which of them are active
pub record IsAdded {T : Type 0} (add : List (Event T)) (lists : List (List Entry)) (bits : List ℕ) (slot : Slot) (new : List (Kept T)) (after : List (Option (EventEntries T))) : Type 0 where
  pub place : ℕ
  pub added : Event T
  pub list : List Entry
  pub active : ℕ
  pub is_added : slice_get add place ≡ Some added
  pub is_list : slice_get lists place ≡ Some list
  pub is_active : slice_get bits place ≡ Some active
  pub event : event_at slot new ≡ Some added
  pub kept : kept_at slot.0 after ≡ Some (entries_kept added list active)

-- one or the other
abbrev pub StaysOrIsAdded : {T : Type 0} → List (Event T) → List (List Entry) → List ℕ → Slot → List (Kept T) → List (Option (EventEntries T)) → List (Kept T) → List (Option (EventEntries T)) → Type 0
StaysOrIsAdded add lists bits slot old before new after = Stays slot old before new after ⊎ IsAdded add lists bits slot new after
