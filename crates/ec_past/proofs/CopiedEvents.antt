-- The events of a store, read one behind the other.
use Rattle.std.proofs.Common.{◌≡◌, ◌<◌, ◌≤◌, ◌+◌, ℕ, ℤ, List, [], ◌∷◌, ◌++◌, length, map, take, Option, Some, None, refl, sym, ap, ap₂, ◌∙◌}
use Rattle.std.specs.Prelude.{slice_get, option_map}
use Rattle.std.proofs.lemmas.List.{map-append, take_more}
use Rattle.std.proofs.lemmas.Option.{get_or_from_slice_get, slice_get_within}
use Rattle.ec_lists.proofs.Options.{None-from_option_map}
use Rattle.ec_lists.proofs.Places.{slice_get-none}
use Rattle.ec_terms.specs.declared.ids.Slot.{Slot}
use Rattle.ec_axioms.specs.declared.event.Event.{Event}
use Rattle.ec_axioms.specs.Calculus.{PlainEvent}
use Rattle.ec_axioms.specs.Events.{event_of}
use Rattle.ec_store.specs.Store.{Kept, event_at, history_of, plain_of}

-- a slot and the position behind it
abbrev placed : {T : Type 0} → ℕ → Kept T → Slot × ℕ
placed i k = (k.0, i + 1)

same_Some : {X : Type 0} (x y : X) → Some x ≡ Some y → x ≡ y
same_Some x y is = cc

module _ {T : Type 0} (kept : List (Kept T)) (i : ℕ) (slot : Slot) (next : ℕ) (event : Event T) where
  -- what is read at a position stands there
  pub read_at : ◌≡◌ {A = Option (Slot × ℕ)} (Some (slot, next)) (option_map (placed i) (slice_get kept i)) → event_at slot kept ≡ option_map (λ (k : Kept T). k.1) (slice_get kept i)
      → event_at slot kept ≡ Some event → (◌≡◌ {A = Option (Kept T)} (slice_get kept i) (Some (slot, event))) × (next ≡ i + 1) × (i < length kept)
  read_at found named read = by_member (slice_get kept i) refl found named
    where
      found_at : Slot → Event T → Option (Kept T)
      found_at s e = Some (s, e)

      by_member : (o : Option (Kept T)) → slice_get kept i ≡ o → ◌≡◌ {A = Option (Slot × ℕ)} (Some (slot, next)) (option_map (placed i) o) → event_at slot kept ≡ option_map (λ (k : Kept T). k.1) o
          → (◌≡◌ {A = Option (Kept T)} (slice_get kept i) (Some (slot, event))) × (next ≡ i + 1) × (i < length kept)
      by_member None there found named = absurd (let no_event = found in cc)
      by_member (Some k) there found named =
          let both : ◌≡◌ {A = Slot × ℕ} (slot, next) (placed i k) = same_Some (slot, next) (placed i k) found in
          let own : k.0 ≡ slot = sym (ap (λ (p : Slot × ℕ). p.0) both) in
          let behind : next ≡ i + 1 = ap (λ (p : Slot × ℕ). p.1) both in
          let same : k.1 ≡ event = cc in
          (there ∙ ap₂ found_at own same, behind, slice_get_within kept i k there)

  -- its copy is one more
  pub copied-more : (rank : T → ℤ) (list pushed : List (Event T)) (copy : Event T) → ◌≡◌ {A = Option (Kept T)} (slice_get kept i) (Some (slot, event)) → i < length kept → pushed ≡ list ++ copy ∷ [] → event_of rank copy ≡ event_of rank event
      → map (event_of rank) list ≡ history_of rank (take i kept) → map (event_of rank) pushed ≡ history_of rank (take (i + 1) kept)
  copied-more rank list pushed copy there inside more same so_far =
      let here = get_or_from_slice_get kept i member member there in
      let one : take (i + 1) kept ≡ take i kept ++ member ∷ [] = take_more kept i member inside ∙ ap (λ (k : Kept T). take i kept ++ k ∷ []) here in
      ap (map (event_of rank)) more ∙ map-append (event_of rank) list (copy ∷ []) ∙ ap₂ (λ (es : List PlainEvent) (e : PlainEvent). es ++ e ∷ []) so_far same
      ∙ sym (ap (history_of rank) one ∙ map-append (plain_of rank) (take i kept) (member ∷ []))
    where
      member : Kept T
      member = (slot, event)

-- where nothing is read the position is behind all events
pub none-left : {T : Type 0} (kept : List (Kept T)) (i : ℕ) → ◌≡◌ {A = Option (Slot × ℕ)} None (option_map (placed i) (slice_get kept i)) → length kept ≤ i
none-left kept i none = slice_get-none kept i (None-from_option_map (placed i) (slice_get kept i) (sym none))
