-- The events of the new list: what is taken out of the store and what is put in leaves them, and what is kept of them by slot.
use Rattle.std.proofs.Common.{◌≡◌, ℕ, ℤ, Bool, true, false, cond, not, ◌&&◌, ◌||◌, List, [], ◌∷◌, length, map, filter, find, Option, Some, None, option_map, is_some, IsTrue, IsFalse, IsSome, refl, sym, ap, ap₂, subst, ◌∙◌, inl, inr, ⊎_elim, slice_get, get_or, arith}
use Rattle.std.specs.Prelude.{◌==◌, bytes_eq, int_lt, nat_lt}
use Rattle.std.specs.List.{All, list_all, list_any}
use Rattle.std.specs.Ordering.{int_eq}
use Rattle.std.proofs.lemmas.Bool.{cases_Bool, and_parts, and_from, false≢true, not-true, not_from_false, false_from_ne_true, eqb-true}
use Rattle.std.proofs.lemmas.Int.{ints}
use Rattle.std.proofs.lemmas.List.{length-map}
use Rattle.std.proofs.lemmas.Slice.Eq.{bytes_eq-Decides}
use Rattle.std.proofs.Math.Bool.{not-not}
use Rattle.ec_points.proofs.MadeChanges.{find-never}
use Rattle.ec_lists.proofs.Filters.{filter-map}
use Rattle.ec_lists.proofs.Finds.{find-filter, find_agree}
use Rattle.ec_lists.proofs.Options.{None-from_is_some}
use Rattle.ec_lists.proofs.Tests.{list_any-and, list_any-filter, list_any-same}
use Rattle.ec_lists.proofs.Places.{slice_get-map_at}
use Rattle.ec_terms.specs.declared.ids.Slot.{Slot}
use Rattle.ec_terms.specs.declared.theory.Theory.{Theory}
use Rattle.ec_terms.specs.Domain.{entries_of}
use Rattle.ec_axioms.specs.declared.event.Event.{Event}
use Rattle.ec_axioms.specs.Calculus.{PlainEvent, is_current}
use Rattle.ec_axioms.specs.Changes.{comes_before, event_eq, events_only_in, has_event, has_id, is_history}
use Rattle.ec_axioms.specs.Events.{event_of}
use Rattle.ec_axioms.proofs.Members.{IsMember, IsMember-from_filter, IsMember-map, Contains-from_member, filter_agree, list_all-from_members, list_all-member, list_any-member, member-list_any, IsMember-slice_get}
use Rattle.ec_changes.proofs.KeptEvents.{IsMember-from_has_event, SameEventsSameHistory-law, event_eq-is, has_event-member}
use Rattle.ec_rows.specs.Ordered.{is_ascending}
use Rattle.ec_rows.proofs.OrderedLemmas.{ascending-first, ascending-rest, is_ascending-filter}
use Rattle.ec_store.specs.Store.{Kept, Store, event_at, history_of, plain_of, slot_of}
use Rattle.ec_store.proofs.EventLemmas.{has_id-slot_of, kept_under}
use Rattle.ec_store.specs.Table.{KeptProp}
use Rattle.ec_numbered.specs.ByNumber.{kept_at}
use Rattle.ec_context.specs.Entries.{shown_entries}
use Rattle.ec_entries.specs.declared.event_entries.EventEntries.{EventEntries}
use Rattle.ec_entries.specs.Dependents.{Entered}
use Rattle.ec_parts.specs.Activity.{AreActiveBits}
use Rattle.ec_parts.specs.Caches.{AreEntriesOf, IsEnteredIn}
use Rattle.ec_revise.specs.declared.change.Change.{Change}
use Rattle.ec_revise.specs.declared.change.Removal.{Removal}
use Rattle.ec_revise.specs.Change.{IsChange, entries_to_show, has_slot, removal_before}
use Rattle.ec_delta.specs.declared.delta.Looked.{Looked}
use Rattle.ec_delta.specs.declared.flips.Flip.{Flip}
use Rattle.ec_delta.specs.Looked.{active_found}
use Rattle.ec_delta.specs.Ready.{AreBitsOf}
use Rattle.ec_apply.specs.Events.{AreAligned, AreFresh, IsAdded, StaysOrIsAdded, are_slots_apart, with_flips, without_slots}

-- ---- events of a history

-- two events of a history with one identity are one
same_event : (events : List PlainEvent) (e f : PlainEvent) → IsTrue (is_history events) → IsMember events e → IsMember events f → e.id ≡ f.id → e ≡ f
unfolding is_history has_id
same_event [] e f history left right same = absurd left
same_event (h ∷ events) e f history (inl first) (inl second) same = sym first ∙ second
same_event (h ∷ events) e f history (inl first) (inr later) same = absurd (false≢true (sym (own later (ap (λ (g : PlainEvent). g.id) first ∙ same)) ∙ absent))
  where
    absent : IsTrue (not (list_any (λ (g : PlainEvent). bytes_eq g.id h.id) events))
    absent = (and_parts (list_all (comes_before h) events) _ (and_parts _ (is_history events) history).0).1

    own : IsMember events f → h.id ≡ f.id → not (list_any (λ (g : PlainEvent). bytes_eq g.id h.id) events) ≡ false
    own member is = ap not (member-list_any (λ (g : PlainEvent). bytes_eq g.id h.id) events f member ((bytes_eq-Decides f.id h.id).1 (sym is)))
same_event (h ∷ events) e f history (inr later) (inl first) same = absurd (false≢true (sym (own later (ap (λ (g : PlainEvent). g.id) first ∙ sym same)) ∙ absent))
  where
    absent : IsTrue (not (list_any (λ (g : PlainEvent). bytes_eq g.id h.id) events))
    absent = (and_parts (list_all (comes_before h) events) _ (and_parts _ (is_history events) history).0).1

    own : IsMember events e → h.id ≡ e.id → not (list_any (λ (g : PlainEvent). bytes_eq g.id h.id) events) ≡ false
    own member is = ap not (member-list_any (λ (g : PlainEvent). bytes_eq g.id h.id) events e member ((bytes_eq-Decides e.id h.id).1 (sym is)))
same_event (h ∷ events) e f history (inr left) (inr right) same = same_event events e f (and_parts _ (is_history events) history).1 left right same

-- no two identities of a history are the same
apart-history : (events : List PlainEvent) → IsTrue (is_history events) → is_ascending (λ (e f : PlainEvent). not (bytes_eq e.id f.id)) events ≡ true
unfolding is_history has_id is_ascending
apart-history [] history = refl
apart-history (e ∷ events) history =
    let parts = and_parts _ (is_history events) history in
    let absent = (and_parts (list_all (comes_before e) events) _ parts.0).1 in
    and_from _ _
    (list_all-from_members (λ (f : PlainEvent). not (bytes_eq e.id f.id)) events
    (λ f member. not_from_false (bytes_eq e.id f.id) (false_from_ne_true (bytes_eq e.id f.id) (λ same. false≢true (sym (ap not (member-list_any (λ (g : PlainEvent). bytes_eq g.id e.id) events f member
    ((bytes_eq-Decides f.id e.id).1 (sym ((bytes_eq-Decides e.id f.id).0 same))))) ∙ absent)))))
    (apart-history events parts.1)

-- a list whose images ascend ascends by them
ascending-map : {X Y : Type 0} (before : Y → Y → Bool) (f : X → Y) (xs : List X) → is_ascending before (map f xs) ≡ true → is_ascending (λ x y. before (f x) (f y)) xs ≡ true
unfolding is_ascending
ascending-map before f [] ascending = refl
ascending-map {X} before f (x ∷ xs) ascending =
    let parts = and_parts _ _ ascending in and_from _ _ (each xs parts.0) (ascending-map before f xs parts.1)
  where
    each : (ys : List X) → list_all (before (f x)) (map f ys) ≡ true → list_all (λ y. before (f x) (f y)) ys ≡ true
    each [] all = refl
    each (y ∷ ys) all = let both = and_parts _ _ all in and_from _ _ both.0 (each ys both.1)

-- an event stands among those that pass a test
has_event-filter : (p : PlainEvent → Bool) (events : List PlainEvent) (e : PlainEvent) → has_event (filter p events) e ≡ (p e && has_event events e)
unfolding has_event
has_event-filter p events e =
    list_any-filter (event_eq e) p events
    ∙ list_any-same (λ f. p f && event_eq e f) (λ f. p e && event_eq e f) (λ f. at_same f) events
    ∙ sym (list_any-and (p e) (event_eq e) events)
  where
    never : (a b : Bool) → (a && false) ≡ (b && false)
    never a b = grind arith

    at_same : (f : PlainEvent) → (p f && event_eq e f) ≡ (p e && event_eq e f)
    at_same f =
        ⊎_elim (λ same. ap (λ g. p g && event_eq e f) (sym (event_eq-is e f same))) (λ other. ap (λ b. p f && b) other ∙ never (p f) (p e) ∙ sym (ap (λ b. p e && b) other)) (cases_Bool (event_eq e f))

module _ {T : Type 0} where
  -- what is told of a slot is told of its number
  has_slot-number : (slot other : Slot) (removals : List (Removal T)) → slot.0 ≡ other.0 → has_slot slot removals ≡ has_slot other removals
  has_slot-number slot other removals same = ap (λ n. list_any (λ (r : Removal T). r.slot.0 == n) removals) same

  -- the event under a slot where some are taken out
  pub event_at-without_slots : (removals : List (Removal T)) (slot : Slot) (events : List (Kept T)) → event_at slot (without_slots removals events) ≡ cond (has_slot slot removals) None (event_at slot events)
  event_at-without_slots removals slot events =
      ap (option_map (λ (k : Kept T). k.1))
      (find-filter (λ (k : Kept T). k.0.0 == slot.0) (λ k. not (has_slot k.0 removals)) events
      ∙ find_agree (λ (k : Kept T). not (has_slot k.0 removals) && (k.0.0 == slot.0)) (λ k. not (has_slot slot removals) && (k.0.0 == slot.0)) (λ k. at_number k.0) events)
      ∙ by_test (has_slot slot removals)
    where
      at_number : (other : Slot) → (not (has_slot other removals) && (other.0 == slot.0)) ≡ (not (has_slot slot removals) && (other.0 == slot.0))
      at_number other =
          ⊎_elim (λ here. ap (λ b. not b && (other.0 == slot.0)) (has_slot-number other slot removals (eqb-true other.0 slot.0 here)))
          (λ elsewhere. ap (λ b. not (has_slot other removals) && b) elsewhere ∙ never (not (has_slot other removals)) (not (has_slot slot removals)) ∙ sym (ap (λ b. not (has_slot slot removals) && b) elsewhere))
          (cases_Bool (other.0 == slot.0))
        where
          never : (a b : Bool) → (a && false) ≡ (b && false)
          never a b = grind arith

      by_test : (b : Bool) → option_map (λ (k : Kept T). k.1) (find (λ (k : Kept T). not b && (k.0.0 == slot.0)) events) ≡ cond b None (event_at slot events)
      by_test true = ap (option_map (λ (k : Kept T). k.1)) (find-never events)
      by_test false = refl

  -- entries that are those of the events stand where events stand
  pub AreAligned-entries : (rank : T → ℤ) (theory : Theory) (events : List PlainEvent) (table : List KeptProp) (store : Store T) (entered : Entered T)
      → AreEntriesOf rank theory events table store entered → AreAligned store.events entered.slots
  AreAligned-entries rank theory events table store entered entries slot = both (event_at slot store.events) (kept_at slot.0 entered.slots) (entries slot)
    where
      both : (e : Option (Event T)) (k : Option (EventEntries T)) → IsEnteredIn rank theory events table e k → is_some k ≡ is_some e
      both None None in_slot = refl
      both None (Some k) in_slot = absurd in_slot
      both (Some e) None in_slot = absurd in_slot
      both (Some e) (Some k) in_slot = refl

module _ {T : Type 0} (rank : T → ℤ) (theory : Theory) (table : List KeptProp) (new : List PlainEvent) (change : Change T) (looked : Looked) (store : Store T) (entered : Entered T)
    (history : IsTrue (is_history (history_of rank store.events))) (is_change : IsChange rank theory table store.events new change)
    (bits : AreBitsOf rank theory new store.events entered change looked)
    (entries : AreEntriesOf rank theory (history_of rank store.events) table store entered) where
  abbrev old : List PlainEvent
  old = history_of rank store.events

  aligned : AreAligned store.events entered.slots
  aligned = AreAligned-entries rank theory (history_of rank store.events) table store entered entries

  -- ---- what the three steps ask for

  -- each new word of bits is of a slot that keeps something
  pub live-flips : All (λ (flip : Flip). IsSome (kept_at flip.slot.0 entered.slots)) looked.flips
  live-flips i d within = aligned (get_or looked.flips i d).slot ∙ bits.of_events i d within

  -- each slot to be taken out has an event
  pub live-removals : All (λ (removal : Removal T). IsSome (event_at removal.slot store.events)) change.remove
  live-removals i d within = some_of (event_at (get_or change.remove i d).slot store.events) (is_change.times i d within)
    where
      some_of : (o : Option (Event T)) {t : T} → option_map (λ (e : Event T). e.at) o ≡ Some t → IsSome o
      some_of None is = cc
      some_of (Some e) is = refl

  -- no slot is to be taken out twice
  pub apart-removals : IsTrue (are_slots_apart change.remove)
  unfolding is_ascending
  apart-removals = all_apart change.remove is_change.order (λ r member. let at = Contains-from_member change.remove r member in
      subst (λ (s : Removal T). option_map (λ (e : Event T). e.at) (event_at s.slot store.events) ≡ Some s.at) at.2 (is_change.times at.0 r at.1))
    where
      not_before : (s t : ℤ) (a b : ℕ) → s ≡ t → (a == b) ≡ true → (int_lt s t || (int_eq s t && nat_lt a b)) ≡ false
      not_before s t a b same number = grind (arith, ints)

      two_apart : (r s : Removal T) → option_map (λ (e : Event T). e.at) (event_at r.slot store.events) ≡ Some r.at → option_map (λ (e : Event T). e.at) (event_at s.slot store.events) ≡ Some s.at
          → removal_before rank r s ≡ true → not (r.slot.0 == s.slot.0) ≡ true
      two_apart r s at_r at_s before =
          ⊎_elim
          (λ number.
          let found : event_at r.slot store.events ≡ event_at s.slot store.events = ap (λ n. option_map (λ (k : Kept T). k.1) (find (λ (k : Kept T). k.0.0 == n) store.events)) (eqb-true r.slot.0 s.slot.0 number) in
          let times : Some r.at ≡ Some s.at = sym at_r ∙ ap (option_map (λ (e : Event T). e.at)) found ∙ at_s in
          let at : r.at ≡ s.at = cc in
          absurd (false≢true (sym (not_before (rank r.at) (rank s.at) r.slot.0 s.slot.0 (ap rank at) number) ∙ before)))
          (λ other. ap not other) (cases_Bool (r.slot.0 == s.slot.0))

      all_apart : (rs : List (Removal T)) → is_ascending (removal_before rank) rs ≡ true → ((r : Removal T) → IsMember rs r → option_map (λ (e : Event T). e.at) (event_at r.slot store.events) ≡ Some r.at)
          → is_ascending (λ (r s : Removal T). not (r.slot.0 == s.slot.0)) rs ≡ true
      all_apart [] ascending times = refl
      all_apart (r ∷ rs) ascending times =
          and_from _ _
          (list_all-from_members (λ (s : Removal T). not (r.slot.0 == s.slot.0)) rs
          (λ s member. two_apart r s (times r (inl refl)) (times s (inr member)) (list_all-member (removal_before rank r) rs s (ascending-first (removal_before rank) r rs ascending) member)))
          (all_apart rs (ascending-rest (removal_before rank) r rs ascending) (λ s member. times s (inr member)))

  -- ---- the events that are left

  -- an event is left where it stands in the new list
  left : (k : Kept T) → IsMember store.events k → not (has_slot k.0 change.remove) ≡ has_event new (plain_of rank k)
  left k member = ap not (is_change.removed k (Contains-from_member store.events k member)) ∙ not-not (has_event new (plain_of rank k))

  -- so what is left is what stands in both lists
  history-left : history_of rank (without_slots change.remove store.events) ≡ filter (has_event new) old
  history-left =
      ap (map (plain_of rank)) (filter_agree (λ (k : Kept T). not (has_slot k.0 change.remove)) (λ k. has_event new (plain_of rank k)) store.events left)
      ∙ sym (filter-map (has_event new) (plain_of rank) store.events)

  -- an added event stands in the new list, and not in the old one
  added-event : (event : Event T) → IsMember change.add event → IsMember new (event_of rank event) × IsFalse (has_event old (event_of rank event))
  unfolding events_only_in
  added-event event member =
      let there = IsMember-from_filter (λ e. not (has_event old e)) new (event_of rank event) (subst (λ es. IsMember es (event_of rank event)) is_change.added (IsMember-map (event_of rank) change.add event member)) in
      (there.0, not-true (has_event old (event_of rank event)) there.1)

  -- the identity of an added event is not left in the store
  absent-id : (event : Event T) → IsMember change.add event → slot_of event.id (without_slots change.remove store.events) ≡ None
  unfolding has_id
  absent-id event member =
      let added = added-event event member in
      None-from_is_some (slot_of event.id (without_slots change.remove store.events))
      (sym (has_id-slot_of rank event.id (without_slots change.remove store.events)) ∙ ap (has_id event.id) history-left
      ∙ none added (filter (has_event new) old) (λ e kept. IsMember-from_filter (has_event new) old e kept))
    where
      none : IsMember new (event_of rank event) × IsFalse (has_event old (event_of rank event)) → (es : List PlainEvent) → ((e : PlainEvent) → IsMember es e → IsMember old e × IsTrue (has_event new e)) → has_id event.id es ≡ false
      none added es both =
          ⊎_elim
          (λ there.
          let found = list_any-member (λ (e : PlainEvent). bytes_eq e.id event.id) es there in
          let is = both found.0 found.1 in
          let same : found.0 ≡ event_of rank event = same_event new found.0 (event_of rank event) is_change.history (IsMember-from_has_event new found.0 is.1) added.0 ((bytes_eq-Decides found.0.id event.id).0 found.2) in
          absurd (false≢true (sym added.1 ∙ has_event-member old (event_of rank event) (subst (IsMember old) same is.0))))
          (λ absent. absent) (cases_Bool (list_any (λ (e : PlainEvent). bytes_eq e.id event.id) es))

  -- the added events are new to what is left
  pub fresh : (events : List (Kept T)) → events ≡ without_slots change.remove store.events → AreFresh change.add events
  unfolding events_only_in
  fresh events is = record {
    absent = λ i event there. ap (slot_of event.id) is ∙ absent-id event (IsMember-slice_get change.add i event there);
    apart = ascending-map (λ (e f : PlainEvent). not (bytes_eq e.id f.id)) (event_of rank) change.add
        (ap (is_ascending (λ (e f : PlainEvent). not (bytes_eq e.id f.id))) is_change.added
        ∙ is_ascending-filter (λ (e f : PlainEvent). not (bytes_eq e.id f.id)) (λ e. not (has_event old e)) new (apart-history new is_change.history));
  }

  -- there are as many lists of entries, and as many words of bits
  pub length-lists : length change.entries ≡ length change.add
  length-lists = sym (length-map change.entries (shown_entries table)) ∙ ap length is_change.entries ∙ length-map change.add (entries_to_show theory)

  -- ---- what they leave

  module _ (entered₁ : Entered T) (flipped : (slot : Slot) → kept_at slot.0 entered₁.slots ≡ with_flips slot looked.flips (kept_at slot.0 entered.slots)) where
    -- what is flipped is where events are
    pub aligned-flipped : AreAligned store.events entered₁.slots
    aligned-flipped slot = ap is_some (flipped slot) ∙ is_some-map (kept_at slot.0 entered.slots) ∙ aligned slot
      where
        is_some-map : (o : Option (EventEntries T)) → is_some (with_flips slot looked.flips o) ≡ is_some o
        is_some-map None = refl
        is_some-map (Some k) = refl

    module _ (entered₂ : Entered T) (middle : List (Kept T)) (events_left : middle ≡ without_slots change.remove store.events)
        (slots_left : (slot : Slot) → kept_at slot.0 entered₂.slots ≡ cond (has_slot slot change.remove) None (kept_at slot.0 entered₁.slots)) where
      -- and so is what is left
      pub aligned-left : AreAligned middle entered₂.slots
      aligned-left slot =
          ap is_some (slots_left slot) ∙ by_test (has_slot slot change.remove)
          ∙ sym (ap is_some (ap (event_at slot) events_left ∙ event_at-without_slots change.remove slot store.events))
        where
          by_test : (b : Bool) → is_some (cond b None (kept_at slot.0 entered₁.slots)) ≡ is_some (cond b None (event_at slot store.events))
          by_test true = refl
          by_test false = aligned-flipped slot

      module _ (store' : Store T) (entered' : Entered T) (has : (e : PlainEvent) → has_event (history_of rank store'.events) e ≡ (has_event (map (event_of rank) change.add) e || has_event (history_of rank middle) e))
          (slots : (slot : Slot) → StaysOrIsAdded change.add change.entries looked.bits slot middle entered₂.slots store'.events entered'.slots)
          (history' : IsTrue (is_history (history_of rank store'.events))) where
        -- the store has the events of the new list
        pub history-new : history_of rank store'.events ≡ new
        unfolding events_only_in
        history-new =
            SameEventsSameHistory-law (history_of rank store'.events) new history' is_change.history
            (λ e. has e ∙ ap₂ (λ a b. a || b) (added-has e) (left-has e) ∙ either (has_event new e) (has_event old e))
          where
            added-has : (e : PlainEvent) → has_event (map (event_of rank) change.add) e ≡ (not (has_event old e) && has_event new e)
            added-has e = ap (λ es. has_event es e) is_change.added ∙ has_event-filter (λ f. not (has_event old f)) new e

            left-has : (e : PlainEvent) → has_event (history_of rank middle) e ≡ (has_event new e && has_event old e)
            left-has e = ap (λ ks. has_event (history_of rank ks) e) events_left ∙ ap (λ es. has_event es e) history-left ∙ has_event-filter (has_event new) old e

            either : (a b : Bool) → ((not b && a) || (a && b)) ≡ a
            either a b = grind arith

        -- what is kept of an event that stays is what it is in the new list
        entered-stays : (slot : Slot) → IsFalse (has_slot slot change.remove) → IsEnteredIn rank theory new table (event_at slot store.events) (with_flips slot looked.flips (kept_at slot.0 entered.slots))
        entered-stays slot stays = by_slot (event_at slot store.events) (kept_at slot.0 entered.slots) refl refl (entries slot)
          where
            by_slot : (e : Option (Event T)) (k : Option (EventEntries T)) → event_at slot store.events ≡ e → kept_at slot.0 entered.slots ≡ k → IsEnteredIn rank theory old table e k
                → IsEnteredIn rank theory new table e (with_flips slot looked.flips k)
            by_slot None None is_event is_kept in_slot = tt
            by_slot None (Some k) is_event is_kept in_slot = absurd in_slot
            by_slot (Some e) None is_event is_kept in_slot = absurd in_slot
            by_slot (Some e) (Some k) is_event is_kept in_slot = record {
              time = in_slot.time;
              entries = in_slot.entries;
              active = subst (λ o. AreActiveBits theory (is_current theory new) (event_of rank e) (active_found slot looked.flips o)) is_kept (bits.stayed slot e is_event in_new);
            }
              where
                in_new : IsTrue (has_event new (event_of rank e))
                in_new =
                    let under = kept_under store.events slot e is_event in
                    ap (λ (f : Event T). has_event new (event_of rank f)) (sym under.3) ∙ sym (left under.0 under.1)
                    ∙ ap not (has_slot-number under.0.0 slot change.remove under.2 ∙ stays)

        -- the entries are those of the new list
        pub entries-new : AreEntriesOf rank theory new table store' entered'
        entries-new slot = by_case (slots slot)
          where
            left_there : IsEnteredIn rank theory new table (event_at slot middle) (kept_at slot.0 entered₂.slots)
            left_there =
                subst (λ e. IsEnteredIn rank theory new table e (kept_at slot.0 entered₂.slots)) (sym (ap (event_at slot) events_left ∙ event_at-without_slots change.remove slot store.events))
                (subst (λ k. IsEnteredIn rank theory new table (cond (has_slot slot change.remove) None (event_at slot store.events)) k) (sym (slots_left slot ∙ ap (cond (has_slot slot change.remove) None) (flipped slot)))
                (by_test (has_slot slot change.remove) refl))
              where
                by_test : (b : Bool) → has_slot slot change.remove ≡ b
                    → IsEnteredIn rank theory new table (cond b None (event_at slot store.events)) (cond b None (with_flips slot looked.flips (kept_at slot.0 entered.slots)))
                by_test true gone = tt
                by_test false stays = entered-stays slot stays

            by_case : StaysOrIsAdded change.add change.entries looked.bits slot middle entered₂.slots store'.events entered'.slots
                → IsEnteredIn rank theory new table (event_at slot store'.events) (kept_at slot.0 entered'.slots)
            by_case (inl stays) =
                subst (λ e. IsEnteredIn rank theory new table e (kept_at slot.0 entered'.slots)) (sym stays.event)
                (subst (λ k. IsEnteredIn rank theory new table (event_at slot middle) k) (sym stays.kept) left_there)
            by_case (inr added) =
                subst (λ e. IsEnteredIn rank theory new table e (kept_at slot.0 entered'.slots)) (sym added.event)
                (subst (λ k. IsEnteredIn rank theory new table (Some added.added) k) (sym added.kept) (record {
                  time = refl;
                  entries = shown added;
                  active = bits.added.active added.place added.active added.added added.is_added added.is_active;
                }))
              where
                shown : (a : IsAdded change.add change.entries looked.bits slot store'.events entered'.slots) → shown_entries table a.list ≡ Some (entries_of theory a.added.term)
                shown a =
                    let both : Some (shown_entries table a.list) ≡ Some (entries_to_show theory a.added) =
                    sym (slice_get-map_at (shown_entries table) change.entries a.place a.list a.is_list) ∙ ap (λ xs. slice_get xs a.place) is_change.entries
                    ∙ slice_get-map_at (entries_to_show theory) change.add a.place a.added a.is_added in cc
