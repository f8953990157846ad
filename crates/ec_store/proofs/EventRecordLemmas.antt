-- Events under their slots: what the records hold of a list of events, and what other records do.
use Rattle.std.proofs.Common.{◌≡◌, ℕ, ◌<◌, zero, suc, Bool, true, false, cond, not, get_or, slice_get, List, [], ◌∷◌, ℤ, Option, Some, None, refl, sym, ap, ap₂, subst, ◌∙◌, ⊎_elim, map, length, arith}
use Rattle.std.specs.Prelude.{option_map, bytes_eq, ◌==◌, if◌then◌else◌}
use Rattle.std.specs.List.{cons_option, list_any}
use Rattle.std.proofs.lemmas.Bool.{cases_Bool, false≢true, or_left, or_right, eqb-true, eq-eqb}
use Rattle.std.proofs.lemmas.Slice.Eq.{bytes_eq-Decides}
use Rattle.ec_terms.specs.declared.ids.Slot.{Slot}
use Rattle.ec_axioms.specs.Changes.{comes_before}
use Rattle.ec_axioms.specs.declared.event.Event.{Event}
use Rattle.ec_rows.specs.Times.{Entry}
use Rattle.ec_lists.proofs.Booleans.{or_second}
use Rattle.ec_store.specs.Store.{Kept, plain_of, slot_of, event_at, with_kept, without_kept}
use Rattle.ec_store.specs.EventRecords.{entry_of, kept_of, events_under}
use Rattle.ec_store.proofs.EventLemmas.{same_bytes, event_at-same, event_at-other, slot_of-cons}

module _ {T : Type 0} where
  -- ---- events under their slots

  -- each event is the record under its slot
  abbrev pub AllHeld : (ℕ → Option (Event T)) → List (Kept T) → Type 0
  AllHeld record_at [] = Unit {0}
  AllHeld record_at (k ∷ ks) = (record_at k.0.0 ≡ Some k.1) × AllHeld record_at ks

  held-one : (record_at : ℕ → Option (Event T)) (slot : Slot) (found : Option (Event T)) (rest : List (Kept T)) → record_at slot.0 ≡ found → AllHeld record_at rest →
      AllHeld record_at (cons_option (option_map (λ event. (slot, event)) found) rest)
  held-one record_at slot None rest is held = held
  held-one record_at slot (Some event) rest is held = (is, held)

  -- what is read from the records is held there
  pub AllHeld-events_under : {A : Type 0} (slot : A → Slot) (record_at : ℕ → Option (Event T)) (members : List A) → AllHeld record_at (events_under slot record_at members)
  AllHeld-events_under slot record_at [] = tt
  AllHeld-events_under slot record_at (member ∷ members) =
      held-one record_at (slot member) (record_at (slot member).0) (events_under slot record_at members) refl (AllHeld-events_under slot record_at members)

  -- and events that are held are read under their slots
  pub events_under-slots : {A : Type 0} (slot : A → Slot) (member_of : Kept T → A) → ((k : Kept T) → slot (member_of k) ≡ k.0) →
      (record_at : ℕ → Option (Event T)) (ks : List (Kept T)) → AllHeld record_at ks → events_under slot record_at (map member_of ks) ≡ ks
  events_under-slots slot member_of own record_at [] held = refl
  events_under-slots slot member_of own record_at (k ∷ ks) held =
      ap (λ s. cons_option (option_map (λ event. (s, event)) (record_at s.0)) (events_under slot record_at (map member_of ks))) (own k)
      ∙ ap₂ (λ found rest. cons_option (option_map (λ event. (k.0, event)) found) rest) held.0 (events_under-slots slot member_of own record_at ks held.1)

  pub AllHeld-kept_of : (record_at : ℕ → Option (Event T)) (times : List (Entry T)) → AllHeld record_at (kept_of record_at times)
  AllHeld-kept_of record_at times = AllHeld-events_under (λ (entry : Entry T). entry.2) record_at times

  pub kept_of-entries : (record_at : ℕ → Option (Event T)) (ks : List (Kept T)) → AllHeld record_at ks → kept_of record_at (map entry_of ks) ≡ ks
  kept_of-entries record_at ks held = events_under-slots (λ (entry : Entry T). entry.2) entry_of (λ k. refl) record_at ks held

  -- the event under a slot is the record there
  pub record-event_at : (record_at : ℕ → Option (Event T)) (slot : Slot) (event : Event T) (ks : List (Kept T)) → AllHeld record_at ks →
      event_at slot ks ≡ Some event → record_at slot.0 ≡ Some event
  record-event_at record_at slot event [] held is = cc
  record-event_at record_at slot event (k ∷ ks) held is =
      ⊎_elim (λ e. ap record_at (sym (eqb-true k.0.0 slot.0 e)) ∙ held.0 ∙ sym (event_at-same slot k ks e) ∙ is)
      (λ e. record-event_at record_at slot event ks held.1 (sym (event_at-other slot k ks e) ∙ is)) (cases_Bool (k.0.0 == slot.0))

  -- under a slot without a record there is no event
  pub none-event_at : (record_at : ℕ → Option (Event T)) (slot : Slot) (ks : List (Kept T)) → AllHeld record_at ks → record_at slot.0 ≡ None → event_at slot ks ≡ None
  none-event_at record_at slot [] held none = refl
  none-event_at record_at slot (k ∷ ks) held none =
      ⊎_elim (λ e. let both : Some k.1 ≡ None = sym held.0 ∙ ap record_at (eqb-true k.0.0 slot.0 e) ∙ none in cc)
      (λ e. event_at-other slot k ks e ∙ none-event_at record_at slot ks held.1 none) (cases_Bool (k.0.0 == slot.0))

  -- ---- slots that events have

  -- some event has the slot
  abbrev pub has_slot : Slot → List (Kept T) → Bool
  has_slot slot ks = list_any (λ (k : Kept T). k.0.0 == slot.0) ks

  -- the event under a slot that some event has is the record there
  pub event_at-held : (record_at : ℕ → Option (Event T)) (slot : Slot) (event : Event T) (ks : List (Kept T)) → AllHeld record_at ks → record_at slot.0 ≡ Some event →
      has_slot slot ks ≡ true → event_at slot ks ≡ Some event
  event_at-held record_at slot event [] held is there = absurd (false≢true there)
  event_at-held record_at slot event (k ∷ ks) held is there =
      ⊎_elim (λ e. event_at-same slot k ks e ∙ sym held.0 ∙ ap record_at (eqb-true k.0.0 slot.0 e) ∙ is)
      (λ e. event_at-other slot k ks e ∙ event_at-held record_at slot event ks held.1 is (or_second (k.0.0 == slot.0) (has_slot slot ks) e there))
      (cases_Bool (k.0.0 == slot.0))

  -- an event that was added has its slot
  pub has_slot-if : (slot : Slot) (b : Bool) (xs ys : List (Kept T)) → has_slot slot xs ≡ true → has_slot slot ys ≡ true → has_slot slot (if b then xs else ys) ≡ true
  has_slot-if slot true xs ys left right = left
  has_slot-if slot false xs ys left right = right

  pub has_slot-with_kept : (rank : T → ℤ) (k : Kept T) (ks : List (Kept T)) → has_slot k.0 (with_kept rank k ks) ≡ true
  unfolding with_kept
  has_slot-with_kept rank k [] = or_left (k.0.0 == k.0.0) false (eq-eqb k.0.0 k.0.0 refl)
  has_slot-with_kept rank k (j ∷ js) =
      has_slot-if k.0 (comes_before (plain_of rank k) (plain_of rank j)) (k ∷ j ∷ js) (j ∷ with_kept rank k js)
      (or_left (k.0.0 == k.0.0) (has_slot k.0 (j ∷ js)) (eq-eqb k.0.0 k.0.0 refl))
      (or_right (j.0.0 == k.0.0) (has_slot k.0 (with_kept rank k js)) (has_slot-with_kept rank k js))

  -- a slot, the record there, and that some event has it
  abbrev pub IsHeldAt : (ℕ → Option (Event T)) → List (Kept T) → Slot → Event T → Type 0
  IsHeldAt record_at ks slot event = (record_at slot.0 ≡ Some event) × (has_slot slot ks ≡ true)

  pub later-IsHeldAt : (record_at : ℕ → Option (Event T)) (k : Kept T) (ks : List (Kept T)) (slot : Slot) (event : Event T) → IsHeldAt record_at ks slot event →
      IsHeldAt record_at (k ∷ ks) slot event
  later-IsHeldAt record_at k ks slot event at = (at.0, or_right (k.0.0 == slot.0) (has_slot slot ks) at.1)

  pub first-IsHeldAt : (record_at : ℕ → Option (Event T)) (k : Kept T) (ks : List (Kept T)) → AllHeld record_at (k ∷ ks) → IsHeldAt record_at (k ∷ ks) k.0 k.1
  first-IsHeldAt record_at k ks held = (held.0, or_left (k.0.0 == k.0.0) (has_slot k.0 ks) (eq-eqb k.0.0 k.0.0 refl))

  pub at-IsHeldAt : (record_at : ℕ → Option (Event T)) (ks : List (Kept T)) (i : ℕ) (d : Kept T) → AllHeld record_at ks → i < length ks →
      IsHeldAt record_at ks (get_or ks i d).0 (get_or ks i d).1
  at-IsHeldAt record_at [] i d held within = absurd (omega arith)
  at-IsHeldAt record_at (k ∷ ks) zero d held within = first-IsHeldAt record_at k ks held
  at-IsHeldAt record_at (k ∷ ks) (suc i) d held within =
      later-IsHeldAt record_at k ks (get_or ks i d).0 (get_or ks i d).1 (at-IsHeldAt record_at ks i d held.1 (omega arith))

  pub get-IsHeldAt : (record_at : ℕ → Option (Event T)) (ks : List (Kept T)) (i : ℕ) (found : Kept T) → AllHeld record_at ks → slice_get ks i ≡ Some found →
      IsHeldAt record_at ks found.0 found.1
  get-IsHeldAt record_at [] i found held is = cc
  get-IsHeldAt record_at (k ∷ ks) zero found held is =
      let same : k ≡ found = cc in subst (λ (j : Kept T). IsHeldAt record_at (k ∷ ks) j.0 j.1) same (first-IsHeldAt record_at k ks held)
  get-IsHeldAt record_at (k ∷ ks) (suc i) found held is = later-IsHeldAt record_at k ks found.0 found.1 (get-IsHeldAt record_at ks i found held.1 is)

  -- the event with an identity
  pub found-IsHeldAt : (record_at : ℕ → Option (Event T)) (ks : List (Kept T)) (id : List ℕ) (slot : Slot) → AllHeld record_at ks → slot_of id ks ≡ Some slot →
      (event : Event T) × IsHeldAt record_at ks slot event × (event.id ≡ id)
  found-IsHeldAt record_at [] id slot held is = cc
  found-IsHeldAt record_at (k ∷ ks) id slot held is =
      ⊎_elim
      (λ e. let found : Some k.0 ≡ Some slot = sym (ap (λ b. cond b (Some k.0) (slot_of id ks)) e) ∙ sym (slot_of-cons id k ks) ∙ is in
      let same : k.0 ≡ slot = cc in
      (k.1, subst (λ s. IsHeldAt record_at (k ∷ ks) s k.1) same (first-IsHeldAt record_at k ks held), same_bytes k.1.id id e))
      (λ e. let rest : slot_of id ks ≡ Some slot = sym (ap (λ b. cond b (Some k.0) (slot_of id ks)) e) ∙ sym (slot_of-cons id k ks) ∙ is in
      let later = found-IsHeldAt record_at ks id slot held.1 rest in
      (later.0, later-IsHeldAt record_at k ks slot later.0 later.1, later.2))
      (cases_Bool (bytes_eq k.1.id id))

  -- ---- other records

  -- another record elsewhere
  pub AllHeld-others : (record_at new : ℕ → Option (Event T)) (s : ℕ) (ks : List (Kept T)) → AllHeld record_at ks → record_at s ≡ None →
      ((n : ℕ) → (n ≡ s → ⊥) → new n ≡ record_at n) → AllHeld new ks
  AllHeld-others record_at new s [] held none others = tt
  AllHeld-others record_at new s (k ∷ ks) held none others =
      (others k.0.0 (λ is. let both : Some k.1 ≡ None = sym held.0 ∙ ap record_at is ∙ none in cc) ∙ held.0, AllHeld-others record_at new s ks held.1 none others)

  pub AllHeld-if : (record_at : ℕ → Option (Event T)) (b : Bool) (xs ys : List (Kept T)) → AllHeld record_at xs → AllHeld record_at ys → AllHeld record_at (if b then xs else ys)
  AllHeld-if record_at true xs ys left right = left
  AllHeld-if record_at false xs ys left right = right

  pub AllHeld-with_kept : (rank : T → ℤ) (record_at : ℕ → Option (Event T)) (k : Kept T) (ks : List (Kept T)) → record_at k.0.0 ≡ Some k.1 → AllHeld record_at ks →
      AllHeld record_at (with_kept rank k ks)
  unfolding with_kept
  AllHeld-with_kept rank record_at k [] here held = (here, tt)
  AllHeld-with_kept rank record_at k (j ∷ js) here held =
      AllHeld-if record_at (comes_before (plain_of rank k) (plain_of rank j)) (k ∷ j ∷ js) (j ∷ with_kept rank k js) (here, held)
      (held.0, AllHeld-with_kept rank record_at k js here held.1)

  pub AllHeld-without_kept : (record_at new : ℕ → Option (Event T)) (slot : Slot) (event : Event T) (ks : List (Kept T)) → AllHeld record_at ks →
      record_at slot.0 ≡ Some event → ((n : ℕ) → (n ≡ slot.0 → ⊥) → new n ≡ record_at n) → AllHeld new (without_kept event.id ks)
  AllHeld-without_kept record_at new slot event [] held there others = tt
  AllHeld-without_kept record_at new slot event (k ∷ ks) held there others =
      let rest : List (Kept T) = without_kept event.id ks in
      let ih : AllHeld new rest = AllHeld-without_kept record_at new slot event ks held.1 there others in
      ⊎_elim
      (λ e. subst (λ b. AllHeld new (cond (not b) (k ∷ rest) rest)) (sym e) ih)
      (λ e. subst (λ b. AllHeld new (cond (not b) (k ∷ rest) rest)) (sym e) (
        others k.0.0 (λ is. let both : Some k.1 ≡ Some event = sym held.0 ∙ ap record_at is ∙ there in
            let same : k.1 ≡ event = cc in
            false≢true (sym e ∙ ap (λ (j : Event T). bytes_eq j.id event.id) same ∙ (bytes_eq-Decides event.id event.id).1 refl)) ∙ held.0,
        ih,
      ))
      (cases_Bool (bytes_eq k.1.id event.id))
