-- How a store keeps its events: records under slots, the slots in the order of time, and the slots by identities.
use Rattle.std.specs.Prelude.{◌≡◌, ℕ, List, map, filter_map, ℤ, Option, option_map, IsTrue}
use Rattle.ec_terms.specs.Term.{name_cmp}
use Rattle.ec_terms.specs.declared.ids.Slot.{Slot}
use Rattle.ec_axioms.specs.Changes.{is_history}
use Rattle.ec_axioms.specs.declared.event.Event.{Event}
use Rattle.ec_rows.specs.Times.{Entry}
use Rattle.ec_store.specs.Held.{AreKeyed, slot_under}
use Rattle.ec_store.specs.declared.slots.KeyedSlot.{KeyedSlot}
use Rattle.ec_store.specs.Identities.{key_of}
use Rattle.ec_store.specs.Store.{Kept, history_of, slot_of}

-- the events under the slots that members of a list have, from the records by slot
abbrev pub events_under : {T A : Type 0} → (A → Slot) → (ℕ → Option (Event T)) → List A → List (Kept T)
events_under slot record_at members = filter_map (λ member. option_map (λ event. (slot member, event)) (record_at (slot member).0)) members

-- ---- in the order of time

-- the entry of a row of times that an event has
abbrev pub entry_of : {T : Type 0} → Kept T → Entry T
entry_of kept = (kept.1.at, kept.1.id, kept.0)

-- the events whose entries these are
abbrev pub kept_of : {T : Type 0} → (ℕ → Option (Event T)) → List (Entry T) → List (Kept T)
kept_of record_at times = events_under (λ entry. entry.2) record_at times

-- ---- by identities

-- the identities of the records, by slot
abbrev pub identity_at : {T : Type 0} → (ℕ → Option (Event T)) → ℕ → Option (List ℕ)
identity_at record_at slot = option_map (λ event. event.id) (record_at slot)

-- ---- a store

-- Each entry is that of the record under its slot; the slots stand under the keys of the identities, and find the same events; and
-- the events are a history.
pub record IsStore {T : Type 0} (rank : T → ℤ) (record_at : ℕ → Option (Event T)) (slots : List KeyedSlot) (times : List (Entry T)) : Type 0 where
  pub entries : times ≡ map entry_of (kept_of record_at times)
  pub keyed : AreKeyed key_of name_cmp (identity_at record_at) slots
  pub found : (id : List ℕ) → slot_under name_cmp (identity_at record_at) slots id ≡ option_map (λ slot. slot.0) (slot_of id (kept_of record_at times))
  pub history : IsTrue (is_history (history_of rank (kept_of record_at times)))
