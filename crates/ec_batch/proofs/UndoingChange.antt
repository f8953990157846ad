-- The lists on the way back from a change.
use Rattle.std.proofs.Common.{◌≡◌, ◌+◌, ℕ, ℤ, zero, suc, Bool, true, false, not, List, [], ◌∷◌, length, map, filter, take, Option, Some, None, All, IsTrue, IsFalse, is_some, refl, sym, ap, subst, ◌∙◌, ⊎_elim, arith}
use Rattle.std.specs.Prelude.{bytes_eq, find, nat_lt, option_map, slice_get, ◌==◌}
use Rattle.std.specs.List.{IsDistinct, list_any}
use Rattle.std.specs.Map.{keys_of}
use Rattle.std.specs.Option.{option_map_or}
use Rattle.std.proofs.lemmas.Bool.{cases_Bool, cond-false, eq-eqb, eqb-true, false≢true, false_from_ne_true}
use Rattle.std.proofs.lemmas.List.{length-map}
use Rattle.std.proofs.lemmas.List.Elements.{All-contains}
use Rattle.std.proofs.lemmas.Slice.Eq.{bytes_eq-Decides}
use Rattle.std.proofs.Math.Bool.{not-not}
use Rattle.ec_lists.proofs.Integers.{int_lt-same}
use Rattle.ec_lists.proofs.Numbers.{bytes_eq_comm}
use Rattle.ec_lists.proofs.Tests.{list_any-map, list_any-same}
use Rattle.ec_lists.proofs.Places.{slice_get-map_at}
use Rattle.ec_terms.specs.declared.ids.Slot.{Slot}
use Rattle.ec_terms.specs.declared.theory.Theory.{Theory}
use Rattle.ec_terms.specs.Domain.{entries_of}
use Rattle.ec_axioms.specs.declared.event.Event.{Event}
use Rattle.ec_axioms.specs.Calculus.{PlainEvent}
use Rattle.ec_axioms.specs.Changes.{events_only_in, has_event, has_id, is_history, kept_events, without_event}
use Rattle.ec_axioms.proofs.Histories.{history_parts}
use Rattle.ec_axioms.specs.Events.{event_of}
use Rattle.ec_axioms.proofs.Members.{Contains-from_member, IsMember, IsMember-filter, IsMember-from_filter, IsMember-from_map, IsMember-map, IsPairwise, IsPairwise-map, IsPairwise-weaker, filter_agree, find-Some, list_any-false, list_any-member, list_any_agree, member-list_any, IsMember-slice_get}
use Rattle.ec_axioms.proofs.OrderedEvents.{is_history-filter}
use Rattle.ec_changes.proofs.DistinctLists.{IsDistinct-from_pairwise}
use Rattle.ec_changes.proofs.KeptEvents.{kept_events-both}
use Rattle.ec_context.specs.declared.entry.Entry.{Entry}
use Rattle.ec_context.specs.Entries.{shown_entries}
use Rattle.ec_store.specs.Store.{Kept, event_at, history_of, plain_of, slot_of}
use Rattle.ec_parts.specs.declared.tally.Tally.{Tally}
use Rattle.ec_parts.specs.StandFor.{View}
use Rattle.ec_parts.proofs.CachesKept.{shown_entries-moved}
use Rattle.ec_store.specs.Table.{term_at}
use Rattle.ec_revise.specs.declared.change.Change.{Change}
use Rattle.ec_revise.specs.declared.change.Removal.{Removal}
use Rattle.ec_revise.specs.Change.{entries_to_show, has_slot, removal_before}
use Rattle.ec_rows.specs.Ordered.{is_ascending}
use Rattle.ec_rows.proofs.OrderedPairs.{IsPairwise-ascending}
use Rattle.ec_batch.specs.Undo.{is_touched, untouched}
use Rattle.ec_batch.specs.UndoChange.{IsLedTo, events_by_id, id_in, removals_by_id}
use Rattle.ec_changes.specs.Found.{event_with}
use Rattle.ec_changes.proofs.FoundEvents.{event_with-member, found-has_event}
use Rattle.ec_batch.proofs.NetChanges.{slot_of-member}
use Rattle.ec_batch.proofs.Undoing.{apart_before, event_with-untouched, history-untouched, untouched-next}

-- ---- histories

-- no two events of a history have the same identity
identities_apart : (events : List PlainEvent) → IsTrue (is_history events) → IsPairwise (λ e f. IsFalse (bytes_eq e.id f.id)) events
unfolding is_history has_id
identities_apart [] history = tt
identities_apart (e ∷ events) history =
    let parts = history_parts e events history in (
      λ f later. bytes_eq_comm e.id f.id ∙ list_any-false (λ g. bytes_eq g.id e.id) events f parts.1 later,
      identities_apart events parts.2,
    )

-- an identity stays where its event passes
has_id-filter : (p : PlainEvent → Bool) (events : List PlainEvent) (e : PlainEvent) → IsTrue (is_history events) → IsMember events e → has_id e.id (filter p events) ≡ p e
unfolding has_id
has_id-filter p events e history member =
    ⊎_elim
    (λ passes. member-list_any (λ (f : PlainEvent). bytes_eq f.id e.id) (filter p events) e (IsMember-filter p events e member passes) ((bytes_eq-Decides e.id e.id).1 refl) ∙ sym passes)
    (λ fails. false_from_ne_true (has_id e.id (filter p events))
    (λ there. let hit = list_any-member (λ (f : PlainEvent). bytes_eq f.id e.id) (filter p events) there in
    let kept = IsMember-from_filter p events hit.0 hit.1 in
    let same : Some hit.0 ≡ Some e =
    sym (event_with-member events hit.0 history kept.0) ∙ ap (λ i. event_with i events) ((bytes_eq-Decides hit.0.id e.id).0 hit.2) ∙ event_with-member events e history member in
    let one : hit.0 ≡ e = cc in
    false≢true (sym fails ∙ ap p (sym one) ∙ kept.1))
    ∙ sym fails)
    (cases_Bool (p e))

-- an identity is among others where it is one of theirs
is_touched-of_values : {N : Type 0} (f : N → List ℕ) (xs : List N) (id : List ℕ) → is_touched id (map (λ x. (f x, x)) xs) ≡ list_any (λ x. bytes_eq id (f x)) xs
is_touched-of_values f xs id = list_any-map (λ entry. bytes_eq id entry.0) (λ x. (f x, x)) xs

-- the keys of members with their keys
keys_of-values : {N : Type 0} (f : N → List ℕ) (xs : List N) → keys_of (map (λ x. (f x, x)) xs) ≡ map f xs
keys_of-values f [] = refl
keys_of-values f (x ∷ xs) = ap (λ ks. f x ∷ ks) (keys_of-values f xs)

-- where two lists have the same values, there is a member of the second at each place of the first, with the same value
same_value_at : {X Y Z : Type 0} (f : X → Z) (g : Y → Z) (xs : List X) (ys : List Y) (i : ℕ) (x : X) → map f xs ≡ map g ys → slice_get xs i ≡ Some x → (y : Y) × (slice_get ys i ≡ Some y) × (f x ≡ g y)
same_value_at f g [] ys i x same there = cc
same_value_at f g (a ∷ xs) [] i x same there = cc
same_value_at {X} {Y} {Z} f g (a ∷ xs) (b ∷ ys) zero x same there = let one : a ≡ x = cc in let value : f a ≡ g b = cc in (b, refl, ap f (sym one) ∙ value)
same_value_at f g (a ∷ xs) (b ∷ ys) (suc i) x same there = let rest : map f xs ≡ map g ys = cc in same_value_at f g xs ys i x rest there

-- ---- removals

module _ {T : Type 0} (rank : T → ℤ) (events : List (Kept T)) (history : IsTrue (is_history (history_of rank events))) where
  -- the event in a slot is a member with it
  member_in : (slot : Slot) (event : Event T) → event_at slot events ≡ Some event → IsMember events (slot, event)
  member_in slot event is = by_find (find (λ (k : Kept T). k.0.0 == slot.0) events) refl is
    where
      by_find : (o : Option (Kept T)) → find (λ (k : Kept T). k.0.0 == slot.0) events ≡ o → option_map (λ (k : Kept T). k.1) o ≡ Some event → IsMember events (slot, event)
      by_find None none given = absurd (false≢true (ap is_some given))
      by_find (Some kept) some given =
          let there = find-Some (λ (k : Kept T). k.0.0 == slot.0) events kept some in
          let made : ℕ → Slot = λ n. record { 0 = n } in
          let own : kept.0 ≡ slot = ap made (eqb-true kept.0.0 slot.0 there.1) in
          let one : kept.1 ≡ event = cc in
          let made_pair : Slot → Event T → Kept T = λ s e. (s, e) in
          subst (IsMember events) (ap (λ s. made_pair s kept.1) own ∙ ap (made_pair slot) one) there.0

  -- a removal with its event
  record IsStored (removal : Removal T) : Type 0 where
    event : Event T
    at_slot : event_at removal.slot events ≡ Some event
    member : IsMember events (removal.slot, event)
    time : event.at ≡ removal.at
    slot : slot_of event.id events ≡ Some removal.slot

  stored_at : (removal : Removal T) → option_map (λ (event : Event T). event.at) (event_at removal.slot events) ≡ Some removal.at → IsStored removal
  stored_at removal is = by_event (event_at removal.slot events) refl is
    where
      by_event : (o : Option (Event T)) → event_at removal.slot events ≡ o → option_map (λ (event : Event T). event.at) o ≡ Some removal.at → IsStored removal
      by_event None none given = absurd (false≢true (ap is_some given))
      by_event (Some event) some given =
          let member = member_in removal.slot event some in
          let time : event.at ≡ removal.at = cc in
          record { event = event; at_slot = some; member = member; time = time; slot = slot_of-member rank events (removal.slot, event) history member }

  module _ (removals : List (Removal T)) (times : All (λ removal. option_map (λ (event : Event T). event.at) (event_at removal.slot events) ≡ Some removal.at) removals) where
    stored_removal : (removal : Removal T) → IsMember removals removal → IsStored removal
    stored_removal removal member =
        stored_at removal (All-contains (λ (r : Removal T). option_map (λ (event : Event T). event.at) (event_at r.slot events) ≡ Some r.at) removals removal times (Contains-from_member removals removal member))

    -- the identity of a removal is that of its event
    id_of : (removal : Removal T) (is : IsStored removal) → id_in events removal.slot ≡ is.event.id
    id_of removal is = ap (λ o. option_map_or (λ (event : Event T). event.id) o []) is.at_slot

    -- and leads back to its slot
    pub slot_of-removal : (removal : Removal T) → IsMember removals removal → Some removal.slot ≡ slot_of (id_in events removal.slot) events
    slot_of-removal removal member = let is = stored_removal removal member in sym is.slot ∙ ap (λ i. slot_of i events) (sym (id_of removal is))

    -- removals in order have different identities
    pub removals_distinct : IsTrue (is_ascending (removal_before rank) removals) → IsDistinct bytes_eq (keys_of (removals_by_id events removals))
    removals_distinct order =
        subst (IsDistinct bytes_eq) (sym (keys_of-values (λ (removal : Removal T). id_in events removal.slot) removals))
        (IsDistinct-from_pairwise bytes_eq (map (λ (removal : Removal T). id_in events removal.slot) removals)
        (IsPairwise-map (λ a b. IsFalse (bytes_eq a b)) (λ (removal : Removal T). id_in events removal.slot) removals
        (IsPairwise-weaker (λ r s. IsTrue (removal_before rank r s)) (λ r s. IsFalse (bytes_eq (id_in events r.slot) (id_in events s.slot))) removals
        (IsPairwise-ascending (removal_before rank) removals order)
        (λ r s left right before. false_from_ne_true (bytes_eq (id_in events r.slot) (id_in events s.slot))
        (λ same. never r s (stored_removal r left) (stored_removal s right) left right ((bytes_eq-Decides (id_in events r.slot) (id_in events s.slot)).0 same) before)))))
      where
        itself : (r : Removal T) → removal_before rank r r ≡ false
        itself r = let never_before = int_lt-same (rank r.at) in let never_less = nat_lt-same r.slot.0 in grind arith
          where
            nat_lt-same : (n : ℕ) → nat_lt n n ≡ false
            nat_lt-same n = grind arith

        never : (r s : Removal T) → IsStored r → IsStored s → IsMember removals r → IsMember removals s → id_in events r.slot ≡ id_in events s.slot → IsTrue (removal_before rank r s) → ⊥
        never r s one two left right same before =
            let slots : Some r.slot ≡ Some s.slot = slot_of-removal r left ∙ ap (λ i. slot_of i events) same ∙ sym (slot_of-removal s right) in
            let slot_same : r.slot ≡ s.slot = cc in
            let events_same : Some one.event ≡ Some two.event = sym one.at_slot ∙ ap (λ q. event_at q events) slot_same ∙ two.at_slot in
            let event_same : one.event ≡ two.event = cc in
            let time_same : r.at ≡ s.at = sym one.time ∙ ap (λ (e : Event T). e.at) event_same ∙ two.time in
            let made : T → Slot → Removal T = λ t q. record { at = t; slot = q } in
            let removal_same : r ≡ s = ap (λ t. made t r.slot) time_same ∙ ap (made s.at) slot_same in
            false≢true (sym (itself s) ∙ subst (λ q. IsTrue (removal_before rank q s)) removal_same before)

    -- an event of the store has the identity of a removal where its slot is among them
    is_touched-removals : All (λ kept. event_at kept.0 events ≡ Some kept.1) events → (kept : Kept T) → IsMember events kept → is_touched kept.1.id (removals_by_id events removals) ≡ has_slot kept.0 removals
    is_touched-removals slots kept member =
        is_touched-of_values (λ (removal : Removal T). id_in events removal.slot) removals kept.1.id
        ∙ list_any_agree (λ (removal : Removal T). bytes_eq kept.1.id (id_in events removal.slot)) (λ (removal : Removal T). removal.slot.0 == kept.0.0) removals agree
      where
        slot_same : (removal : Removal T) → IsMember removals removal → kept.1.id ≡ id_in events removal.slot → removal.slot.0 ≡ kept.0.0
        slot_same removal among same =
            let found : Some removal.slot ≡ Some kept.0 = slot_of-removal removal among ∙ ap (λ i. slot_of i events) (sym same) ∙ slot_of-member rank events kept history member in
            let one : removal.slot ≡ kept.0 = cc in ap (λ (q : Slot). q.0) one

        id_same : (removal : Removal T) → IsStored removal → removal.slot.0 ≡ kept.0.0 → kept.1.id ≡ id_in events removal.slot
        id_same removal is same =
            let made : ℕ → Slot = λ n. record { 0 = n } in
            let found : Some kept.1 ≡ Some is.event =
            sym (All-contains (λ (k : Kept T). event_at k.0 events ≡ Some k.1) events kept slots (Contains-from_member events kept member)) ∙ ap (λ n. event_at (made n) events) (sym same) ∙ is.at_slot in
            let one : kept.1 ≡ is.event = cc in ap (λ (e : Event T). e.id) one ∙ sym (id_of removal is)

        agree : (removal : Removal T) → IsMember removals removal → bytes_eq kept.1.id (id_in events removal.slot) ≡ (removal.slot.0 == kept.0.0)
        agree removal among =
            ⊎_elim
            (λ same. same ∙ sym (eq-eqb removal.slot.0 kept.0.0 (slot_same removal among ((bytes_eq-Decides kept.1.id (id_in events removal.slot)).0 same))))
            (λ other. other ∙ sym (false_from_ne_true (removal.slot.0 == kept.0.0)
            (λ same. false≢true (sym other ∙ (bytes_eq-Decides kept.1.id (id_in events removal.slot)).1 (id_same removal (stored_removal removal among) (eqb-true removal.slot.0 kept.0.0 same))))))
            (cases_Bool (bytes_eq kept.1.id (id_in events removal.slot)))

-- ---- from end to end

-- the identities of events, as the calculus sees them
ids_of : {T : Type 0} (rank : T → ℤ) (events : List (Event T)) → map (λ (e : Event T). e.id) events ≡ map (λ (e : PlainEvent). e.id) (map (event_of rank) events)
ids_of rank [] = refl
ids_of rank (e ∷ events) = ap (λ ids. e.id ∷ ids) (ids_of rank events)

module _ {T : Type 0} {rank : T → ℤ} {theory : Theory} {view : View T} {tally : Tally} {change : Change T} {soon : List PlainEvent} (led : IsLedTo rank theory view tally change soon) where
  -- the added events have different identities
  pub additions_distinct : IsDistinct bytes_eq (keys_of (events_by_id change.add))
  unfolding events_only_in
  additions_distinct =
      let only = filter (λ e. not (has_event (history_of rank view.store.events) e)) soon in
      subst (IsDistinct bytes_eq)
      (sym (keys_of-values (λ (e : Event T). e.id) change.add ∙ ids_of rank change.add ∙ ap (map (λ (e : PlainEvent). e.id)) led.change_is.added))
      (IsDistinct-from_pairwise bytes_eq (map (λ (e : PlainEvent). e.id) only)
      (IsPairwise-map (λ a b. IsFalse (bytes_eq a b)) (λ (e : PlainEvent). e.id) only (identities_apart only (is_history-filter (λ e. not (has_event (history_of rank view.store.events) e)) soon led.change_is.history))))

  -- an event of the list to come is added where it does not stand in the list of the store
  is_touched-additions : (e : PlainEvent) → IsMember soon e → is_touched e.id (events_by_id change.add) ≡ not (has_event (history_of rank view.store.events) e)
  unfolding has_id events_only_in
  is_touched-additions e member =
      is_touched-of_values (λ (d : Event T). d.id) change.add e.id
      ∙ list_any-same (λ (d : Event T). bytes_eq e.id d.id) (λ (d : Event T). bytes_eq d.id e.id) (λ d. bytes_eq_comm e.id d.id) change.add
      ∙ sym (list_any-map (λ (f : PlainEvent). bytes_eq f.id e.id) (event_of rank) change.add)
      ∙ ap (list_any (λ (f : PlainEvent). bytes_eq f.id e.id)) led.change_is.added
      ∙ has_id-filter (λ f. not (has_event (history_of rank view.store.events) f)) soon e led.change_is.history member

  -- what is left of the list to come without the added events is what is left of the list of the store without the removed ones
  pub untouched-both : All (λ kept. event_at kept.0 view.store.events ≡ Some kept.1) view.store.events
      → untouched (events_by_id change.add) soon ≡ untouched (removals_by_id view.store.events change.remove) (history_of rank view.store.events)
  unfolding kept_events
  untouched-both slots =
      filter_agree (λ e. not (is_touched e.id (events_by_id change.add))) (has_event hist) soon (λ e member. ap not (is_touched-additions e member) ∙ not-not (has_event hist e))
      ∙ sym (kept_events-both hist soon led.both.caches.history led.change_is.history)
      ∙ sym (filter_agree (λ e. not (is_touched e.id (removals_by_id view.store.events change.remove))) (has_event soon) hist stays)
    where
      hist : List PlainEvent
      hist = history_of rank view.store.events

      stays : (e : PlainEvent) → IsMember hist e → not (is_touched e.id (removals_by_id view.store.events change.remove)) ≡ has_event soon e
      stays e member =
          let from = IsMember-from_map (plain_of rank) view.store.events e member in
          subst (λ f. not (is_touched f.id (removals_by_id view.store.events change.remove)) ≡ has_event soon f) from.2
          (ap not (is_touched-removals rank view.store.events led.both.caches.history change.remove led.change_is.times slots from.0 from.1
          ∙ led.change_is.removed from.0 (Contains-from_member view.store.events from.0 from.1))
          ∙ not-not (has_event soon (plain_of rank from.0)))

  -- as many lists of entries as added events
  pub length-entries : length change.entries ≡ length (events_by_id change.add)
  length-entries = sym (length-map _ _) ∙ ap length led.change_is.entries ∙ length-map _ _ ∙ sym (length-map _ _)

  -- the entries at a place are those of an event that is there when its turn comes
  pub record IsDue (later : View T) (list : List Entry) (i : ℕ) : Type 0 where
    pub event : PlainEvent
    pub shown : shown_entries later.table list ≡ Some (entries_of theory event.term)
    pub history : IsTrue (is_history (untouched (take i (events_by_id change.add)) soon))
    pub there : IsTrue (has_event (untouched (take i (events_by_id change.add)) soon) event)
    pub next : without_event event.id (untouched (take i (events_by_id change.add)) soon) ≡ untouched (take (i + 1) (events_by_id change.add)) soon

  pub due_at : (i : ℕ) (list : List Entry) → slice_get change.entries i ≡ Some list → (later : View T) → ((id : ℕ) → term_at id later.table ≡ term_at id view.table) → IsDue later list i
  unfolding events_only_in
  due_at i list is later terms =
      let at = same_value_at (shown_entries view.table) (entries_to_show theory) change.entries change.add i list led.change_is.entries is in
      let event = at.0 in
      let hist = history_of rank view.store.events in
      let added = events_by_id change.add in
      let here : slice_get added i ≡ Some (event.id, event) = slice_get-map_at (λ (e : Event T). (e.id, e)) change.add i event at.1 in
      let among : IsMember change.add event = IsMember-slice_get change.add i event at.1 in
      let in_soon : IsMember soon (event_of rank event) =
      (IsMember-from_filter (λ e. not (has_event hist e)) soon (event_of rank event) (subst (λ es. IsMember es (event_of rank event)) led.change_is.added (IsMember-map (event_of rank) change.add event among))).0 in
      let found : event_with event.id (untouched (take i added) soon) ≡ Some (event_of rank event) =
      event_with-untouched event.id (take i added) soon ∙ cond-false (is_touched event.id (take i added)) _ _ (apart_before added i event.id event additions_distinct here)
      ∙ event_with-member soon (event_of rank event) led.change_is.history in_soon in
      record {
        event = event_of rank event;
        shown = shown_entries-moved view.table later.table (λ p. true) (λ id p was live. terms id ∙ was) list (entries_of theory event.term) (λ p member. refl) at.2;
        history = history-untouched (take i added) soon led.change_is.history;
        there = found-has_event event.id (event_of rank event) (untouched (take i added) soon) found;
        next = untouched-next added i event.id event soon here;
      }
