-- How a store keeps its events: an event more or less leaves a store.
use Rattle.std.proofs.Common.{◌≡◌, ℕ, ◌+◌, true, false, cond, ◌<◌, ◌≤◌, All, IfSome, get_or, slice_get, List, [], ℤ, Option, Some, None, Bor, refl, sym, ap, subst, ◌∙◌, map, is_some, length, arith}
use Rattle.std.specs.Prelude.{option_map, bytes_eq}
use Rattle.std.specs.List.{insert, remove}
use Rattle.std.specs.Option.{option_copied}
use Rattle.std.proofs.lemmas.Bool.{false≢true}
use Rattle.std.proofs.lemmas.Cmp.{nat_list_cmp_total}
use Rattle.std.proofs.lemmas.Map.Lookups.{exact_bytes}
use Rattle.ec_lists.proofs.Options.{is_some-option_map}
use Rattle.ec_terms.specs.Term.{name_cmp}
use Rattle.std.proofs.lemmas.List.{length-map}
use Rattle.ec_terms.specs.declared.ids.Slot.{Slot}
use Rattle.ec_axioms.specs.Changes.{is_history, with_event, without_event}
use Rattle.ec_axioms.specs.declared.event.Event.{Event}
use Rattle.ec_axioms.proofs.Histories.{is_history-with_event, is_history-without_event}
use Rattle.ec_rows.specs.Ordered.{is_ascending}
use Rattle.ec_rows.specs.Times.{Entry, has_entry, with_entry, without_entry, entries_before}
use Rattle.ec_store.specs.Store.{Kept, plain_of, history_of, slot_of, event_at, kept_before, with_kept, without_kept}
use Rattle.ec_store.specs.Held.{slot_under}
use Rattle.ec_store.specs.declared.slots.KeyedSlot.{KeyedSlot}
use Rattle.ec_store.proofs.HeldLemmas.{AreKeyed-nil, AreKeyed-insert, slot_under-insert, AreKeyed-remove, slot_under-remove, place-within}
use Rattle.ec_store.specs.Identities.{key_of}
use Rattle.ec_store.specs.EventRecords.{entry_of, kept_of, identity_at, IsStore}
use Rattle.ec_store.proofs.EventRecordLemmas.{AllHeld-kept_of, kept_of-entries, record-event_at, none-event_at, has_slot, event_at-held, has_slot-with_kept, at-IsHeldAt, get-IsHeldAt, found-IsHeldAt, AllHeld-others, AllHeld-with_kept, AllHeld-without_kept}
use Rattle.ec_store.proofs.IdentityLemmas.{IsCutAt, number_of, number_of-cond, is_eq-identity}
use Rattle.ec_store.proofs.EventLemmas.{has_id-event_at, slot_of-with_kept, history_of-with_kept, has_id-slot_of, with_entry-with_kept, has_entry-none, slot_of-without_kept, history_of-without_kept, has_entry-event_at, without_entry-without_kept, entries_before-kept, slice_get-entries, slice_get-end}

module _ {T : Type 0} where
  -- ---- a store

  -- what a look-up lends is there where the value is
  pub IsSome-from_copied : (o : Option (Bor (Event T))) (p : Option (Event T)) → option_copied o ≡ p → is_some p ≡ true → is_some o ≡ true
  IsSome-from_copied None p is some = absurd (false≢true (ap is_some is ∙ some))
  IsSome-from_copied (Some x) p is some = refl

  -- an answer that is there
  some-value : (o : Option (Event T)) → is_some o ≡ true → (x : Event T) × (o ≡ Some x)
  some-value None some = absurd (false≢true some)
  some-value (Some x) some = (x, refl)

  -- the event that has an entry
  some-entry : (o : Option (Kept T)) (entry : Entry T) → option_map entry_of o ≡ Some entry → (found : Kept T) × (o ≡ Some found) × (entry_of found ≡ entry)
  some-entry None entry is = cc
  some-entry (Some k) entry is = let same : entry_of k ≡ entry = cc in (k, refl, same)

  pub if_some_event : (answer : Option (Event T)) (P : Event T → Type 0) (event : Event T) → answer ≡ Some event → P event → IfSome answer P
  if_some_event answer P event is holds = subst (λ o. IfSome o P) (sym is) holds

  module _ (rank : T → ℤ) where
    -- with no entries
    pub IsStore-nil : (record_at : ℕ → Option (Event T)) (slots : List KeyedSlot) (times : List (Entry T)) → times ≡ [] → slots ≡ [] → IsStore rank record_at slots times
    unfolding is_history is_ascending
    IsStore-nil record_at slots times empty none =
        subst (λ ms. IsStore rank record_at ms times) (sym none)
        (subst (IsStore rank record_at []) (sym empty) (record { entries = refl; keyed = AreKeyed-nil key_of name_cmp nat_list_cmp_total exact_bytes (identity_at record_at) [] refl; found = λ id. refl; history = refl }))

    -- what a store answers
    pub length-kept_of : (record_at : ℕ → Option (Event T)) (slots : List KeyedSlot) (times : List (Entry T)) → IsStore rank record_at slots times →
        length times ≡ length (kept_of record_at times)
    length-kept_of record_at slots times store = ap length store.entries ∙ length-map (kept_of record_at times) entry_of

    pub record-live : (record_at : ℕ → Option (Event T)) (times : List (Entry T)) (slot : Slot) (event : Event T) →
        event_at slot (kept_of record_at times) ≡ Some event → record_at slot.0 ≡ Some event
    record-live record_at times slot event is = record-event_at record_at slot event (kept_of record_at times) (AllHeld-kept_of record_at times) is

    pub event_at-free : (record_at : ℕ → Option (Event T)) (times : List (Entry T)) (slot : Slot) → record_at slot.0 ≡ None → event_at slot (kept_of record_at times) ≡ None
    event_at-free record_at times slot none = none-event_at record_at slot (kept_of record_at times) (AllHeld-kept_of record_at times) none

    pub length-before : (record_at : ℕ → Option (Event T)) (slots : List KeyedSlot) (times : List (Entry T)) (t : ℤ) → IsStore rank record_at slots times →
        length (entries_before rank t times) ≡ length (kept_before rank t (kept_of record_at times))
    length-before record_at slots times t store =
        ap (λ es. length (entries_before rank t es)) store.entries ∙ ap length (entries_before-kept rank t (kept_of record_at times))
        ∙ length-map (kept_before rank t (kept_of record_at times)) entry_of

    pub has_entry-absent : (record_at : ℕ → Option (Event T)) (slots : List KeyedSlot) (times : List (Entry T)) (t : ℤ) (id : List ℕ) →
        IsStore rank record_at slots times → slot_of id (kept_of record_at times) ≡ None → has_entry rank t id times ≡ false
    has_entry-absent record_at slots times t id store none =
        ap (has_entry rank t id) store.entries ∙ has_entry-none rank t id (kept_of record_at times) none

    pub has_entry-live : (record_at : ℕ → Option (Event T)) (slots : List KeyedSlot) (times : List (Entry T)) (slot : Slot) (event : Event T) →
        IsStore rank record_at slots times → event_at slot (kept_of record_at times) ≡ Some event → has_entry rank (rank event.at) event.id times ≡ true
    has_entry-live record_at slots times slot event store is =
        ap (has_entry rank (rank event.at) event.id) store.entries ∙ has_entry-event_at rank slot event (kept_of record_at times) is

    -- each event is the one under its slot
    pub own_slots : (record_at : ℕ → Option (Event T)) (times : List (Entry T)) (events : List (Kept T)) → kept_of record_at times ≡ events →
        All (λ (k : Kept T). event_at k.0 events ≡ Some k.1) events
    own_slots record_at times events is =
        let held = AllHeld-kept_of record_at times in
        let own : All (λ (k : Kept T). event_at k.0 (kept_of record_at times) ≡ Some k.1) (kept_of record_at times) =
        λ i d within. let at = at-IsHeldAt record_at (kept_of record_at times) i d held within in
        event_at-held record_at (get_or (kept_of record_at times) i d).0 (get_or (kept_of record_at times) i d).1 (kept_of record_at times) held at.0 at.1 in
        subst (λ ks. All (λ (k : Kept T). event_at k.0 ks ≡ Some k.1) ks) is own

    -- the event with an identity is under the slot that it has
    pub event_at-slot_of : (record_at : ℕ → Option (Event T)) (times : List (Entry T)) (events : List (Kept T)) (id : List ℕ) (slot : Slot) →
        kept_of record_at times ≡ events → slot_of id events ≡ Some slot → (event : Event T) × (event_at slot events ≡ Some event) × (event.id ≡ id)
    event_at-slot_of record_at times events id slot is found =
        let held = AllHeld-kept_of record_at times in
        let at = found-IsHeldAt record_at (kept_of record_at times) id slot held (ap (slot_of id) is ∙ found) in
        (at.0, ap (event_at slot) (sym is) ∙ event_at-held record_at slot at.0 (kept_of record_at times) held at.1.0 at.1.1, at.2)

    -- and so is the event at a position
    pub event_at-slice_get : (record_at : ℕ → Option (Event T)) (times : List (Entry T)) (events : List (Kept T)) (i : ℕ) (found : Kept T) →
        kept_of record_at times ≡ events → slice_get events i ≡ Some found → event_at found.0 events ≡ Some found.1
    event_at-slice_get record_at times events i found is there =
        let held = AllHeld-kept_of record_at times in
        let at = get-IsHeldAt record_at (kept_of record_at times) i found held (ap (λ ks. slice_get ks i) is ∙ there) in
        ap (event_at found.0) (sym is) ∙ event_at-held record_at found.0 found.1 (kept_of record_at times) held at.0 at.1

    -- what an entry at a position shows
    next-event : (record_at : ℕ → Option (Event T)) (slots : List KeyedSlot) (times : List (Entry T)) (events : List (Kept T)) (i : ℕ) (entry : Entry T) →
        IsStore rank record_at slots times → kept_of record_at times ≡ events → slice_get times i ≡ Some entry →
        (found : Kept T) × (slice_get events i ≡ Some found) × (entry_of found ≡ entry)
    next-event record_at slots times events i entry store is there =
        some-entry (slice_get events i) entry
        (ap (λ ks. option_map entry_of (slice_get ks i)) (sym is) ∙ sym (slice_get-entries (kept_of record_at times) i)
        ∙ ap (λ es. slice_get es i) (sym store.entries) ∙ there)

    pub next-event_at : (record_at : ℕ → Option (Event T)) (slots : List KeyedSlot) (times : List (Entry T)) (events : List (Kept T)) (i : ℕ) (entry : Entry T) →
        IsStore rank record_at slots times → kept_of record_at times ≡ events → slice_get times i ≡ Some entry →
        event_at entry.2 events ≡ option_map (λ (k : Kept T). k.1) (slice_get events i)
    next-event_at record_at slots times events i entry store is there =
        let at = next-event record_at slots times events i entry store is there in
        ap (λ (e : Entry T). event_at e.2 events) (sym at.2) ∙ event_at-slice_get record_at times events i at.0 is at.1
        ∙ ap (λ o. option_map (λ (k : Kept T). k.1) o) (sym at.1)

    pub next-live : (record_at : ℕ → Option (Event T)) (slots : List KeyedSlot) (times : List (Entry T)) (events : List (Kept T)) (i : ℕ) (entry : Entry T) →
        IsStore rank record_at slots times → kept_of record_at times ≡ events → slice_get times i ≡ Some entry → is_some (event_at entry.2 events) ≡ true
    next-live record_at slots times events i entry store is there =
        let at = next-event record_at slots times events i entry store is there in
        ap is_some (ap (λ (e : Entry T). event_at e.2 events) (sym at.2) ∙ event_at-slice_get record_at times events i at.0 is at.1)

    -- its slot, and the position behind it
    pub next-slot : (record_at : ℕ → Option (Event T)) (slots : List KeyedSlot) (times : List (Entry T)) (events : List (Kept T)) (i : ℕ) (entry : Entry T) →
        IsStore rank record_at slots times → kept_of record_at times ≡ events → slice_get times i ≡ Some entry →
        option_map {U = Slot × ℕ} (λ (k : Kept T). (k.0, i + 1)) (slice_get events i) ≡ Some (entry.2, i + 1)
    next-slot record_at slots times events i entry store is there =
        let at = next-event record_at slots times events i entry store is there in
        let behind : Kept T → Slot × ℕ = λ k. (k.0, i + 1) in
        let first : Entry T → Slot × ℕ = λ e. (e.2, i + 1) in
        ap (λ o. option_map behind o) at.1 ∙ ap (λ e. Some (first e)) at.2

    pub next-end : (record_at : ℕ → Option (Event T)) (slots : List KeyedSlot) (times : List (Entry T)) (events : List (Kept T)) (i : ℕ) →
        IsStore rank record_at slots times → kept_of record_at times ≡ events → length times ≤ i → slice_get events i ≡ None
    next-end record_at slots times events i store is end =
        let long : length times ≡ length events = length-kept_of record_at slots times store ∙ ap length is in
        slice_get-end events i (omega arith)

    -- the same store in other fields
    pub IsStore-same : (record_at new_record : ℕ → Option (Event T)) (slots new_slots : List KeyedSlot) (times new : List (Entry T)) →
        ((n : ℕ) → new_record n ≡ record_at n) → new_slots ≡ slots → new ≡ times → IsStore rank record_at slots times → IsStore rank new_record new_slots new
    IsStore-same record_at new_record slots new_slots times new records listed is store =
        subst (λ f. IsStore rank f new_slots new) (λ i n. sym (records n) i)
        (subst (λ ms. IsStore rank record_at ms new) (sym listed) (subst (IsStore rank record_at slots) (sym is) store))

    -- a live slot has a record
    pub IsSome-record : (record_at : ℕ → Option (Event T)) (times : List (Entry T)) (events : List (Kept T)) (slot : Slot) → kept_of record_at times ≡ events →
        is_some (event_at slot events) ≡ true → is_some (record_at slot.0) ≡ true
    IsSome-record record_at times events slot is live =
        let found = some-value (event_at slot (kept_of record_at times)) (ap (λ ks. is_some (event_at slot ks)) is ∙ live) in
        ap is_some (record-live record_at times slot found.0 found.1)

    -- which is the event under the slot
    pub event_at-record : (record_at : ℕ → Option (Event T)) (times : List (Entry T)) (events : List (Kept T)) (slot : Slot) (event : Event T) → kept_of record_at times ≡ events →
        is_some (event_at slot events) ≡ true → record_at slot.0 ≡ Some event → event_at slot events ≡ Some event
    event_at-record record_at times events slot event is live read =
        let found = some-value (event_at slot (kept_of record_at times)) (ap (λ ks. is_some (event_at slot ks)) is ∙ live) in
        ap (event_at slot) (sym is) ∙ found.1 ∙ sym (record-live record_at times slot found.0 found.1) ∙ read

    -- the identities have each event
    pub is_listed : (record_at : ℕ → Option (Event T)) (slots : List KeyedSlot) (times : List (Entry T)) (slot : Slot) (event : Event T) →
        IsStore rank record_at slots times → event_at slot (kept_of record_at times) ≡ Some event → is_some (slot_under name_cmp (identity_at record_at) slots event.id) ≡ true
    is_listed record_at slots times slot event store live =
        ap is_some (store.found event.id) ∙ is_some-option_map (λ (s : Slot). s.0) (slot_of event.id (kept_of record_at times))
        ∙ sym (has_id-slot_of rank event.id (kept_of record_at times)) ∙ has_id-event_at rank slot event (kept_of record_at times) live

    -- an event that is kept has a slot among the identities
    pub listed-within : (record_at new_record : ℕ → Option (Event T)) (slots : List KeyedSlot) (times : List (Entry T)) → IsStore rank record_at slots times →
        (slot : Slot) (event : Event T) → event_at slot (kept_of record_at times) ≡ Some event → ((n : ℕ) → (n ≡ slot.0 → ⊥) → new_record n ≡ record_at n) →
        (i : ℕ) → i ≤ length slots → IsCutAt record_at slots event.id i → i < length slots
    listed-within record_at new_record slots times store slot event live others i within cut =
        place-within key_of name_cmp nat_list_cmp_total exact_bytes (identity_at record_at) (identity_at new_record) slots slots store.keyed i within slot.0 event.id cut
        (λ n other. ap (option_map (λ (e : Event T). e.id)) (others n other)) (is_listed record_at slots times slot event store live)

    -- ---- an event more

    module _ (record_at new_record : ℕ → Option (Event T)) (slots : List KeyedSlot) (times new : List (Entry T)) (store : IsStore rank record_at slots times) where
      module _ (k : Kept T) (absent : slot_of k.1.id (kept_of record_at times) ≡ None) (free : record_at k.0.0 ≡ None) (there : new_record k.0.0 ≡ Some k.1)
          (others : (n : ℕ) → (n ≡ k.0.0 → ⊥) → new_record n ≡ record_at n) (is : new ≡ with_entry rank (entry_of k) times) where
        inserted_entries : new ≡ map entry_of (with_kept rank k (kept_of record_at times))
        inserted_entries = is ∙ ap (with_entry rank (entry_of k)) store.entries ∙ with_entry-with_kept rank k (kept_of record_at times) store.history absent

        pub kept_of-insert : kept_of new_record new ≡ with_kept rank k (kept_of record_at times)
        kept_of-insert =
            ap (kept_of new_record) inserted_entries
            ∙ kept_of-entries new_record (with_kept rank k (kept_of record_at times))
            (AllHeld-with_kept rank new_record k (kept_of record_at times) there
            (AllHeld-others record_at new_record k.0.0 (kept_of record_at times) (AllHeld-kept_of record_at times) free others))

        pub event_at-insert : event_at k.0 (kept_of new_record new) ≡ Some k.1
        event_at-insert =
            event_at-held new_record k.0 k.1 (kept_of new_record new) (AllHeld-kept_of new_record new) there
            (ap (has_slot k.0) kept_of-insert ∙ has_slot-with_kept rank k (kept_of record_at times))

        pub history_of-insert : history_of rank (kept_of new_record new) ≡ with_event (plain_of rank k) (history_of rank (kept_of record_at times))
        history_of-insert = ap (history_of rank) kept_of-insert ∙ history_of-with_kept rank k (kept_of record_at times)

        pub IsStore-insert : (new_slots : List KeyedSlot) (i : ℕ) → i ≤ length slots → IsCutAt record_at slots k.1.id i →
            new_slots ≡ insert slots i (record { key = key_of k.1.id; slot = k.0.0 }) → IsStore rank new_record new_slots new
        IsStore-insert new_slots i within cut placed =
            let unlisted : slot_under name_cmp (identity_at record_at) slots k.1.id ≡ None = store.found k.1.id ∙ ap number_of absent in
            let id_of : Option (Event T) → Option (List ℕ) = option_map (λ event. event.id) in
            record {
              entries = inserted_entries ∙ ap (map entry_of) (sym kept_of-insert);
              keyed = AreKeyed-insert key_of name_cmp nat_list_cmp_total exact_bytes (identity_at record_at) (identity_at new_record) slots new_slots store.keyed i within k.0.0 k.1.id cut
                  (λ n other. ap id_of (others n other)) unlisted (ap id_of free) (ap id_of there) placed;
              found = λ id. slot_under-insert key_of name_cmp nat_list_cmp_total exact_bytes (identity_at record_at) (identity_at new_record) slots new_slots store.keyed i within k.0.0 k.1.id cut
                  (λ n other. ap id_of (others n other)) unlisted (ap id_of free) (ap id_of there) placed id
                  ∙ ap (λ b. cond b (Some k.0.0) (slot_under name_cmp (identity_at record_at) slots id)) (is_eq-identity k.1.id id)
                  ∙ ap (λ o. cond (bytes_eq k.1.id id) (Some k.0.0) o) (store.found id)
                  ∙ number_of-cond (bytes_eq k.1.id id) (Some k.0) (slot_of id (kept_of record_at times))
                  ∙ ap number_of (sym (slot_of-with_kept rank k (kept_of record_at times) id absent) ∙ ap (slot_of id) (sym kept_of-insert));
              history = ap is_history history_of-insert
                  ∙ is_history-with_event (plain_of rank k) (history_of rank (kept_of record_at times)) store.history
                  (has_id-slot_of rank k.1.id (kept_of record_at times) ∙ ap is_some absent);
            }

      -- ---- an event less

      module _ (slot : Slot) (event : Event T) (live : event_at slot (kept_of record_at times) ≡ Some event)
          (others : (n : ℕ) → (n ≡ slot.0 → ⊥) → new_record n ≡ record_at n) (is : new ≡ without_entry rank (rank event.at) event.id times) where
        removed_entries : new ≡ map entry_of (without_kept event.id (kept_of record_at times))
        removed_entries =
            is ∙ ap (without_entry rank (rank event.at) event.id) store.entries ∙ without_entry-without_kept rank slot event (kept_of record_at times) store.history live

        pub kept_of-remove : kept_of new_record new ≡ without_kept event.id (kept_of record_at times)
        kept_of-remove =
            ap (kept_of new_record) removed_entries
            ∙ kept_of-entries new_record (without_kept event.id (kept_of record_at times))
            (AllHeld-without_kept record_at new_record slot event (kept_of record_at times) (AllHeld-kept_of record_at times)
            (record-live record_at times slot event live) others)

        pub history_of-remove : history_of rank (kept_of new_record new) ≡ without_event event.id (history_of rank (kept_of record_at times))
        history_of-remove = ap (history_of rank) kept_of-remove ∙ history_of-without_kept rank event.id (kept_of record_at times)

        pub IsStore-remove : (new_slots : List KeyedSlot) (i : ℕ) → i ≤ length slots → IsCutAt record_at slots event.id i → new_slots ≡ remove slots i →
            IsStore rank new_record new_slots new
        IsStore-remove new_slots i within cut taken =
            let id_of : Option (Event T) → Option (List ℕ) = option_map (λ event. event.id) in
            let record-there : record_at slot.0 ≡ Some event = record-live record_at times slot event live in
            record {
              entries = removed_entries ∙ ap (map entry_of) (sym kept_of-remove);
              keyed = AreKeyed-remove key_of name_cmp nat_list_cmp_total exact_bytes (identity_at record_at) (identity_at new_record) slots new_slots store.keyed i within slot.0 event.id cut
                  (λ n other. ap id_of (others n other)) (is_listed record_at slots times slot event store live) (ap id_of record-there) taken;
              found = λ id. slot_under-remove key_of name_cmp nat_list_cmp_total exact_bytes (identity_at record_at) (identity_at new_record) slots new_slots store.keyed i within slot.0 event.id cut
                  (λ n other. ap id_of (others n other)) (is_listed record_at slots times slot event store live) (ap id_of record-there) taken id
                  ∙ ap (λ b. cond b None (slot_under name_cmp (identity_at record_at) slots id)) (is_eq-identity event.id id)
                  ∙ ap (λ o. cond (bytes_eq event.id id) None o) (store.found id)
                  ∙ number_of-cond (bytes_eq event.id id) None (slot_of id (kept_of record_at times))
                  ∙ ap number_of (sym (slot_of-without_kept event.id (kept_of record_at times) id) ∙ ap (slot_of id) (sym kept_of-remove));
              history = ap is_history history_of-remove
                  ∙ is_history-without_event event.id (history_of rank (kept_of record_at times)) store.history;
            }
