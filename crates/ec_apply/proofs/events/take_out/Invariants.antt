use Rattle.std.proofs.Common.{◌≡◌, ℕ, ◌+◌, ◌≤◌, None, IsSome, IsTrue, length}
use Rattle.std.specs.Prelude.{if◌then◌else◌}
use Rattle.std.specs.List.{All}
use Rattle.ec_terms.specs.declared.ids.Slot.{Slot}
use Rattle.ec_store.specs.Store.{event_at}
use Rattle.ec_numbered.specs.ByNumber.{kept_at}
use Rattle.ec_entries.specs.Dependents.{room_of}
use Rattle.ec_revise.specs.Change.{has_slot}
use Rattle.ec_apply.specs.Events.{AreAligned, are_slots_apart, without_slots}
use Rattle.ec_apply.proofs.events.take_out.Given as goal

abbrev pub invariant-loop-removal : goal.invariant-loop-removal
invariant-loop-removal g l = record {
  aligned : AreAligned l.store.events l.entries.slots;
  live : All (λ removal. IsSome (event_at removal.slot l.store.events)) l.removals;
  apart : IsTrue (are_slots_apart l.removals);
  events : without_slots l.removals l.store.events ≡ without_slots l.initial.removals l.initial.store.events;
  spare : l.initial.store.spare ≤ l.store.spare;
  places : l.store.places ≡ l.initial.store.places;
  slots : (slot : Slot) → (if has_slot slot l.removals then None else kept_at slot.0 l.entries.slots) ≡ (if has_slot slot l.initial.removals then None else kept_at slot.0 l.initial.entries.slots);
  kept_places : length l.entries.slots ≡ length l.initial.entries.slots;
  room : (q : ℕ) → room_of q l.initial.entries.rows ≤ room_of q l.entries.rows;
  steps : l.steps + length l.removals ≡ l.initial.steps + length l.initial.removals;
}

abbrev pub decreases-loop-removal : goal.decreases-loop-removal
decreases-loop-removal g l = length l.removals
