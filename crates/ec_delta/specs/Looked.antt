-- Which entries are active in the new list, by the bits of slots and of added events.
use Rattle.std.specs.Prelude.{◌≡◌, ℕ, ℤ, ◌==◌, Bool, not, List, Option, Some, None, option_map, unwrap_or, find, slice_get, length}
use Rattle.ec_terms.specs.declared.ids.Slot.{Slot}
use Rattle.ec_terms.specs.declared.theory.Theory.{Theory}
use Rattle.ec_axioms.specs.declared.event.Event.{Event}
use Rattle.ec_axioms.specs.Calculus.{Currency}
use Rattle.ec_axioms.specs.Events.{event_of}
use Rattle.ec_rows.specs.Ordered.{is_ascending}
use Rattle.ec_entries.specs.declared.event_entries.EventEntries.{EventEntries}
use Rattle.ec_parts.specs.Activity.{AreActiveBits}
use Rattle.ec_delta.specs.declared.flips.Flip.{Flip}

-- the new bits of a slot, if they are among these
abbrev pub flip_at : Slot → List Flip → Option ℕ
flip_at slot flips = option_map (λ (flip : Flip). flip.active) (find (λ (flip : Flip). flip.slot.0 == slot.0) flips)

-- the bits that are kept of a slot; none where nothing is kept
abbrev pub active_of : {T : Type 0} → Option (EventEntries T) → ℕ
active_of None = 0
active_of (Some kept) = kept.active

-- the bits of a slot in the new list: the new ones, or else those that are kept
abbrev pub active_found : {T : Type 0} → Slot → List Flip → Option (EventEntries T) → ℕ
active_found slot flips kept = unwrap_or (flip_at slot flips) (active_of kept)

-- no slot stands there twice
abbrev pub are_apart : List Flip → Bool
are_apart flips = is_ascending (λ (f g : Flip). not (f.slot.0 == g.slot.0)) flips

-- each added event has its bits in the new list
pub record AreAddedBits {T : Type 0} (rank : T → ℤ) (theory : Theory) (current : Currency) (add : List (Event T)) (bits : List ℕ) : Type 0 where
  pub each : length bits ≡ length add
  pub active : (i word : ℕ) (event : Event T) → slice_get add i ≡ Some event → slice_get bits i ≡ Some word → AreActiveBits theory current (event_of rank event) word
