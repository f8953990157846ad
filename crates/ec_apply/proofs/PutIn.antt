-- Events that are put into a store, and what is kept of them.
use Rattle.std.proofs.Common.{◌≡◌, ℕ, ◌+◌, ◌≤◌, ℤ, Bool, true, false, cond, not, ◌||◌, List, [], ◌∷◌, ◌++◌, length, map, find, Option, Some, None, is_some, refl, sym, ap, subst, ◌∙◌, inl, inr, ⊎_elim, slice_get, arith, length-append}
use Rattle.std.specs.Prelude.{◌==◌, bytes_eq}
use Rattle.std.specs.List.{list_any}
use Rattle.std.proofs.lemmas.Bool.{cases_Bool, false≢true, eq-eqb, not-true, eqb-true}
use Rattle.std.proofs.lemmas.List.Folds.{list_any-append}
use Rattle.std.proofs.lemmas.List.{map-append}
use Rattle.std.proofs.lemmas.List.Sums.{sum_by-append}
use Rattle.ec_lists.proofs.Booleans.{cond_comm, option_map-cond, or_left_comm}
use Rattle.ec_lists.proofs.Numbers.{bytes_eq_comm}
use Rattle.ec_lists.proofs.Places.{slice_get-behind}
use Rattle.ec_lists.proofs.Tests.{list_all-slice_get}
use Rattle.ec_terms.specs.declared.ids.Slot.{Slot}
use Rattle.ec_axioms.specs.declared.event.Event.{Event}
use Rattle.ec_axioms.specs.Calculus.{PlainEvent}
use Rattle.ec_axioms.specs.Changes.{comes_before, event_eq, has_event, with_event}
use Rattle.ec_axioms.specs.Events.{event_of}
use Rattle.ec_store.specs.Store.{Kept, Store, event_at, history_of, plain_of, slot_of, with_kept}
use Rattle.ec_store.proofs.EventLemmas.{history_of-with_kept, slot_of-with_kept}
use Rattle.ec_numbered.specs.ByNumber.{kept_at}
use Rattle.ec_context.specs.declared.entry.Entry.{Entry}
use Rattle.ec_entries.specs.declared.event_entries.EventEntries.{EventEntries}
use Rattle.ec_entries.specs.Dependents.{Entered, count_on, count_on_all, room_of}
use Rattle.ec_apply.specs.Events.{AreAligned, AreFresh, IsPutIn, StaysOrIsAdded, entries_kept}
use Rattle.ec_apply.proofs.LastMembers.{slice_get-last, ascending-last}

-- some event passes with one more
list_any-with_event : (p : PlainEvent → Bool) (e : PlainEvent) (es : List PlainEvent) → list_any p (with_event e es) ≡ (p e || list_any p es)
unfolding with_event
list_any-with_event p e [] = refl
list_any-with_event p e (f ∷ es) =
    ⊎_elim
    (λ before. ap (λ b. list_any p (cond b (e ∷ f ∷ es) (f ∷ with_event e es))) before)
    (λ later. ap (λ b. list_any p (cond b (e ∷ f ∷ es) (f ∷ with_event e es))) later ∙ ap (λ b. p f || b) (list_any-with_event p e es) ∙ or_left_comm (p f) (p e) (list_any p es))
    (cases_Bool (comes_before e f))

module _ {T : Type 0} where
  -- ---- one event

  event_at-cons : (slot : Slot) (k : Kept T) (ks : List (Kept T)) → event_at slot (k ∷ ks) ≡ cond (k.0.0 == slot.0) (Some k.1) (event_at slot ks)
  event_at-cons slot k ks = option_map-cond (λ (j : Kept T). j.1) (k.0.0 == slot.0) k (find (λ (j : Kept T). j.0.0 == slot.0) ks)

  free-parts : (slot : Slot) (k : Kept T) (ks : List (Kept T)) → event_at slot (k ∷ ks) ≡ None → ((k.0.0 == slot.0) ≡ false) × (event_at slot ks ≡ None)
  free-parts slot k ks free =
      ⊎_elim
      (λ here. let found : Some k.1 ≡ None = sym (ap (λ b. cond b (Some k.1) (event_at slot ks)) here) ∙ sym (event_at-cons slot k ks) ∙ free in cc)
      (λ elsewhere. (elsewhere, sym (ap (λ b. cond b (Some k.1) (event_at slot ks)) elsewhere) ∙ sym (event_at-cons slot k ks) ∙ free))
      (cases_Bool (k.0.0 == slot.0))

  -- what stands under a slot with an event more
  pub event_at-with_kept : (rank : T → ℤ) (k : Kept T) (ks : List (Kept T)) (slot : Slot) → event_at k.0 ks ≡ None
      → event_at slot (with_kept rank k ks) ≡ cond (k.0.0 == slot.0) (Some k.1) (event_at slot ks)
  unfolding with_kept
  event_at-with_kept rank k [] slot free = event_at-cons slot k []
  event_at-with_kept rank k (j ∷ js) slot free =
      let parts = free-parts k.0 j js free in
      let ih = event_at-with_kept rank k js slot parts.1 in
      let apart : (k.0.0 == slot.0) ≡ true → (j.0.0 == slot.0) ≡ false = λ here. other j.0.0 k.0.0 slot.0 parts.0 here in
      ⊎_elim
      (λ before. ap (λ b. event_at slot (cond b (k ∷ j ∷ js) (j ∷ with_kept rank k js))) before ∙ event_at-cons slot k (j ∷ js))
      (λ later. ap (λ b. event_at slot (cond b (k ∷ j ∷ js) (j ∷ with_kept rank k js))) later ∙ event_at-cons slot j (with_kept rank k js)
      ∙ ap (cond (j.0.0 == slot.0) (Some j.1)) ih
      ∙ cond_comm (j.0.0 == slot.0) (k.0.0 == slot.0) (Some j.1) (Some k.1) (event_at slot js) apart
      ∙ ap (cond (k.0.0 == slot.0) (Some k.1)) (sym (event_at-cons slot j js)))
      (cases_Bool (comes_before (plain_of rank k) (plain_of rank j)))
    where
      other : (a b n : ℕ) → (a == b) ≡ false → (b == n) ≡ true → (a == n) ≡ false
      other a b n apart here = grind arith

  -- ---- all events

  module _ (rank : T → ℤ) (add₀ : List (Event T)) (lists₀ : List (List Entry)) (bits₀ : List ℕ) (old : List (Kept T)) (before : List (Option (EventEntries T))) where
    -- Some events are left to be put in, the first ones of all; what they need is there, and each slot has what it had or one of those that were put in.
    pub record IsPutSoFar (add : List (Event T)) (lists : List (List Entry)) (bits : List ℕ) (store : Store T) (entered : Entered T) : Type 0 where
      pub lists_left : length lists ≡ length add
      pub bits_left : length bits ≡ length add
      pub add_front : (i : ℕ) (x : Event T) → slice_get add i ≡ Some x → slice_get add₀ i ≡ Some x
      pub lists_front : (i : ℕ) (x : List Entry) → slice_get lists i ≡ Some x → slice_get lists₀ i ≡ Some x
      pub bits_front : (i : ℕ) (x : ℕ) → slice_get bits i ≡ Some x → slice_get bits₀ i ≡ Some x
      pub fresh : AreFresh add store.events
      pub aligned : AreAligned store.events entered.slots
      pub spare : length add ≤ store.spare
      pub places : store.places ≤ length entered.slots
      pub dependents : (q : ℕ) → count_on_all q lists ≤ room_of q entered.rows
      pub history : (e : PlainEvent) → (has_event (map (event_of rank) add) e || has_event (history_of rank store.events) e) ≡ (has_event (map (event_of rank) add₀) e || has_event (history_of rank old) e)
      pub slots : (slot : Slot) → StaysOrIsAdded add₀ lists₀ bits₀ slot old before store.events entered.slots

    -- at first all are left
    pub IsPutSoFar-none : (store : Store T) (entered : Entered T) → store.events ≡ old → entered.slots ≡ before → length lists₀ ≡ length add₀ → length bits₀ ≡ length add₀ → AreFresh add₀ store.events
        → AreAligned store.events entered.slots → length add₀ ≤ store.spare → store.places ≤ length entered.slots → ((q : ℕ) → count_on_all q lists₀ ≤ room_of q entered.rows) → IsPutSoFar add₀ lists₀ bits₀ store entered
    IsPutSoFar-none store entered events slots lists bits fresh aligned spare places dependents = record {
      lists_left = lists;
      bits_left = bits;
      add_front = λ i x there. there;
      lists_front = λ i x there. there;
      bits_front = λ i x there. there;
      fresh = fresh;
      aligned = aligned;
      spare = spare;
      places = places;
      dependents = dependents;
      history = λ e. ap (λ ks. has_event (map (event_of rank) add₀) e || has_event (history_of rank ks) e) events;
      slots = λ slot. inl (record { event = ap (event_at slot) events; kept = ap (kept_at slot.0) slots });
    }

    -- the same of the same lists
    pub IsPutSoFar-last : (add add' : List (Event T)) (lists lists' : List (List Entry)) (bits bits' : List ℕ) (store : Store T) (entered : Entered T) → add ≡ add' → lists ≡ lists' → bits ≡ bits'
        → IsPutSoFar add lists bits store entered → IsPutSoFar add' lists' bits' store entered
    IsPutSoFar-last add add' lists lists' bits bits' store entered events entries words so_far =
        subst (λ xs. IsPutSoFar xs lists' bits' store entered) events (subst (λ xs. IsPutSoFar add xs bits' store entered) entries (subst (λ xs. IsPutSoFar add lists xs store entered) words so_far))

    -- at last all are put in
    pub history-end : (add : List (Event T)) (lists : List (List Entry)) (bits : List ℕ) (store : Store T) (entered : Entered T) → IsPutSoFar add lists bits store entered → add ≡ []
        → (e : PlainEvent) → has_event (history_of rank store.events) e ≡ (has_event (map (event_of rank) add₀) e || has_event (history_of rank old) e)
    unfolding has_event
    history-end add lists bits store entered so_far none e =
        sym (ap (λ xs. list_any (event_eq e) (map (event_of rank) xs) || list_any (event_eq e) (history_of rank store.events)) none) ∙ so_far.history e

    -- one event more is put in
    module _ (add : List (Event T)) (lists : List (List Entry)) (bits : List ℕ) (event : Event T) (list : List Entry) (active : ℕ) (store : Store T) (entered : Entered T)
        (so_far : IsPutSoFar (add ++ event ∷ []) (lists ++ list ∷ []) (bits ++ active ∷ []) store entered) where
      pub absent-last : slot_of event.id store.events ≡ None
      absent-last = so_far.fresh.absent (length add) event (slice_get-last add event)

      pub spare-last : 1 ≤ store.spare
      spare-last = omega (arith, so_far.spare, length-append add (event ∷ []))

      pub dependents-last : (q : ℕ) → count_on q list ≤ room_of q entered.rows
      dependents-last q = let all = so_far.dependents q in let parts = sum_by-append (count_on q) lists (list ∷ []) in omega (arith, all, parts)

      length-one : {X Y : Type 0} (xs : List X) (ys : List Y) (x : X) (y : Y) → length (xs ++ x ∷ []) ≡ length (ys ++ y ∷ []) → length xs ≡ length ys
      length-one xs ys x y same = omega (arith, same, length-append xs (x ∷ []), length-append ys (y ∷ []))

      module _ (store' : Store T) (entered' : Entered T) (put : IsPutIn rank event list active store.events entered.slots store'.events entered'.slots) where
        -- the identities of the others are new still
        fresh-rest : AreFresh add store'.events
        fresh-rest = record {
          absent = λ i e there.
              let apart = ascending-last (λ (x y : Event T). not (bytes_eq x.id y.id)) add event so_far.fresh.apart in
              let other : bytes_eq event.id e.id ≡ false = bytes_eq_comm event.id e.id ∙ not-true (bytes_eq e.id event.id) (list_all-slice_get (λ (x : Event T). not (bytes_eq x.id event.id)) add i e apart.1 there) in
              ap (slot_of e.id) put.events ∙ slot_of-with_kept rank (put.slot, event) store.events e.id absent-last
              ∙ ap (λ b. cond b (Some put.slot) (slot_of e.id store.events)) other
              ∙ so_far.fresh.absent i e (slice_get-behind add (event ∷ []) i e there);
          apart = (ascending-last (λ (x y : Event T). not (bytes_eq x.id y.id)) add event so_far.fresh.apart).0;
        }

        -- what stands under a slot now
        event-now : (slot : Slot) → event_at slot store'.events ≡ cond (put.slot.0 == slot.0) (Some event) (event_at slot store.events)
        event-now slot = ap (event_at slot) put.events ∙ event_at-with_kept rank (put.slot, event) store.events slot put.free

        event-elsewhere : (slot : Slot) → (put.slot.0 == slot.0) ≡ false → event_at slot store'.events ≡ event_at slot store.events
        event-elsewhere slot elsewhere = event-now slot ∙ ap (λ b. cond b (Some event) (event_at slot store.events)) elsewhere

        event-here : (slot : Slot) → (put.slot.0 == slot.0) ≡ true → event_at slot store'.events ≡ Some event
        event-here slot here = event-now slot ∙ ap (λ b. cond b (Some event) (event_at slot store.events)) here

        kept-elsewhere : (slot : Slot) → (put.slot.0 == slot.0) ≡ false → kept_at slot.0 entered'.slots ≡ kept_at slot.0 entered.slots
        kept-elsewhere slot elsewhere = put.others slot.0 (λ same. false≢true (sym elsewhere ∙ eq-eqb put.slot.0 slot.0 (sym same)))

        kept-here : (slot : Slot) → (put.slot.0 == slot.0) ≡ true → kept_at slot.0 entered'.slots ≡ Some (entries_kept event list active)
        kept-here slot here = ap (λ n. kept_at n entered'.slots) (sym (eqb-true put.slot.0 slot.0 here)) ∙ put.kept

        aligned-now : AreAligned store'.events entered'.slots
        aligned-now slot =
            ⊎_elim
            (λ here. ap is_some (kept-here slot here) ∙ sym (ap is_some (event-here slot here)))
            (λ elsewhere. ap is_some (kept-elsewhere slot elsewhere) ∙ so_far.aligned slot ∙ sym (ap is_some (event-elsewhere slot elsewhere)))
            (cases_Bool (put.slot.0 == slot.0))

        slots-now : (slot : Slot) → StaysOrIsAdded add₀ lists₀ bits₀ slot old before store'.events entered'.slots
        slots-now slot =
            ⊎_elim
            (λ here. inr (record {
              place = length add;
              added = event;
              list = list;
              active = active;
              is_added = so_far.add_front (length add) event (slice_get-last add event);
              is_list = subst (λ n. slice_get lists₀ n ≡ Some list) (length-one lists add list event so_far.lists_left) (so_far.lists_front (length lists) list (slice_get-last lists list));
              is_active = subst (λ n. slice_get bits₀ n ≡ Some active) (length-one bits add active event so_far.bits_left) (so_far.bits_front (length bits) active (slice_get-last bits active));
              event = event-here slot here;
              kept = kept-here slot here;
            }))
            (λ elsewhere. as_before elsewhere (so_far.slots slot))
            (cases_Bool (put.slot.0 == slot.0))
          where
            as_before : (put.slot.0 == slot.0) ≡ false → StaysOrIsAdded add₀ lists₀ bits₀ slot old before store.events entered.slots
                → StaysOrIsAdded add₀ lists₀ bits₀ slot old before store'.events entered'.slots
            as_before elsewhere (inl stays) = inl (record { event = event-elsewhere slot elsewhere ∙ stays.event; kept = kept-elsewhere slot elsewhere ∙ stays.kept })
            as_before elsewhere (inr added) = inr (record {
              place = added.place;
              added = added.added;
              list = added.list;
              active = added.active;
              is_added = added.is_added;
              is_list = added.is_list;
              is_active = added.is_active;
              event = event-elsewhere slot elsewhere ∙ added.event;
              kept = kept-elsewhere slot elsewhere ∙ added.kept;
            })

        history-now : (e : PlainEvent) → (has_event (map (event_of rank) add) e || has_event (history_of rank store'.events) e)
            ≡ (has_event (map (event_of rank) (add ++ event ∷ [])) e || has_event (history_of rank store.events) e)
        unfolding has_event
        history-now e =
            let now : list_any (event_eq e) (history_of rank store'.events) ≡ (event_eq e (event_of rank event) || list_any (event_eq e) (history_of rank store.events)) =
            ap (λ ks. list_any (event_eq e) (history_of rank ks)) put.events
            ∙ ap (list_any (event_eq e)) (history_of-with_kept rank (put.slot, event) store.events)
            ∙ list_any-with_event (event_eq e) (event_of rank event) (history_of rank store.events) in
            let all : list_any (event_eq e) (map (event_of rank) (add ++ event ∷ [])) ≡ (list_any (event_eq e) (map (event_of rank) add) || (event_eq e (event_of rank event) || false)) =
            ap (list_any (event_eq e)) (map-append (event_of rank) add (event ∷ [])) ∙ list_any-append (event_eq e) (map (event_of rank) add) (event_of rank event ∷ []) in
            regroup _ _ _ _ _ now all
          where
            regroup : (a b c new whole : Bool) → new ≡ (b || c) → whole ≡ (a || (b || false)) → (a || new) ≡ (whole || c)
            regroup a b c new whole is_new is_whole = grind arith

        pub IsPutSoFar-more : store.spare ≤ store'.spare + 1 → store'.places ≡ store.places → length entered'.slots ≡ length entered.slots
            → ((q : ℕ) → room_of q entered.rows ≤ room_of q entered'.rows + count_on q list) → IsPutSoFar add lists bits store' entered'
        IsPutSoFar-more spare places slots room = record {
          lists_left = length-one lists add list event so_far.lists_left;
          bits_left = length-one bits add active event so_far.bits_left;
          add_front = λ i x there. so_far.add_front i x (slice_get-behind add (event ∷ []) i x there);
          lists_front = λ i x there. so_far.lists_front i x (slice_get-behind lists (list ∷ []) i x there);
          bits_front = λ i x there. so_far.bits_front i x (slice_get-behind bits (active ∷ []) i x there);
          fresh = fresh-rest;
          aligned = aligned-now;
          spare = omega (arith, spare, so_far.spare, length-append add (event ∷ []));
          places = omega (arith, places, slots, so_far.places);
          dependents = λ q. let all = so_far.dependents q in let parts = sum_by-append (count_on q) lists (list ∷ []) in let less = room q in omega (arith, all, parts, less);
          history = λ e. history-now e ∙ so_far.history e;
          slots = slots-now;
        }
