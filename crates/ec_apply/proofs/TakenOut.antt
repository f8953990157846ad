-- Events that are taken out of a store by their slots.
use Rattle.std.proofs.Common.{◌≡◌, ◌≢◌, ℕ, ℤ, Bool, true, false, cond, not, ◌&&◌, ◌||◌, List, [], ◌∷◌, ◌++◌, filter, find, Option, Some, None, option_map, is_some, IsTrue, IsSome, refl, sym, ap, subst, ◌∙◌, inl, inr, ⊎_elim, get_or, arith}
use Rattle.std.specs.Prelude.{◌==◌, bytes_eq}
use Rattle.std.specs.List.{All, list_all}
use Rattle.std.proofs.lemmas.Bool.{cases_Bool, and_parts, false≢true, eq-eqb, eqb-true}
use Rattle.std.proofs.lemmas.List.Folds.{list_any-append}
use Rattle.std.proofs.lemmas.Slice.Eq.{bytes_eq-Decides}
use Rattle.std.proofs.Math.Bool.{or-false}
use Rattle.ec_points.proofs.MadeChanges.{find-never}
use Rattle.ec_lists.proofs.Booleans.{not-or_turned}
use Rattle.ec_lists.proofs.Filters.{filter-each, filter-filter}
use Rattle.ec_lists.proofs.Tests.{list_all-get_or}
use Rattle.ec_apply.proofs.LastMembers.{ascending-last, live-parts}
use Rattle.ec_lists.proofs.Finds.{find-filter, find_agree}
use Rattle.ec_terms.specs.declared.ids.Slot.{Slot}
use Rattle.ec_axioms.specs.declared.event.Event.{Event}
use Rattle.ec_axioms.specs.Changes.{is_history, has_id, comes_before}
use Rattle.ec_axioms.proofs.Members.{IsMember, Contains-from_member, IsMember-map, filter_agree, member-list_any}
use Rattle.ec_rows.specs.Ordered.{is_ascending}
use Rattle.ec_store.specs.Store.{Kept, event_at, history_of, plain_of, without_kept}
use Rattle.ec_store.proofs.EventLemmas.{kept_under}
use Rattle.ec_numbered.specs.ByNumber.{kept_at}
use Rattle.ec_revise.specs.declared.change.Removal.{Removal}
use Rattle.ec_revise.specs.Change.{has_slot}
use Rattle.ec_entries.specs.declared.event_entries.EventEntries.{EventEntries}
use Rattle.ec_apply.specs.Events.{AreAligned, without_slot, without_slots}

-- each event is the one under its slot
abbrev pub AreInSlots : {T : Type 0} → List (Kept T) → Type 0
AreInSlots events = All (λ (kept : Kept _). event_at kept.0 events ≡ Some kept.1) events

module _ {T : Type 0} where
  -- the first event of a history has an identity of its own
  own_id : (rank : T → ℤ) (h : Kept T) (events : List (Kept T)) (k : Kept T) → IsTrue (is_history (history_of rank (h ∷ events))) → IsMember events k → h.1.id ≡ k.1.id → ⊥
  unfolding is_history has_id
  own_id rank h events k history member same =
      let parts = and_parts _ (is_history (history_of rank events)) history in
      let absent = (and_parts (list_all (comes_before (plain_of rank h)) (history_of rank events)) (not (has_id h.1.id (history_of rank events))) parts.0).1 in
      let there : IsTrue (has_id h.1.id (history_of rank events)) =
      member-list_any (λ e. bytes_eq e.id h.1.id) (history_of rank events) (plain_of rank k) (IsMember-map (plain_of rank) events k member) ((bytes_eq-Decides k.1.id h.1.id).1 (sym same)) in
      false≢true (sym (ap not there) ∙ absent)

  -- and what follows it is a history
  history-rest : (rank : T → ℤ) (h : Kept T) (events : List (Kept T)) → IsTrue (is_history (history_of rank (h ∷ events))) → IsTrue (is_history (history_of rank events))
  unfolding is_history
  history-rest rank h events history = (and_parts _ (is_history (history_of rank events)) history).1

  -- two events of a history with one identity are one
  same_kept : (rank : T → ℤ) (events : List (Kept T)) (k j : Kept T) → IsTrue (is_history (history_of rank events)) → IsMember events k → IsMember events j → k.1.id ≡ j.1.id → k ≡ j
  same_kept rank [] k j history left right same = absurd left
  same_kept rank (h ∷ events) k j history (inl first) (inl second) same = sym first ∙ second
  same_kept rank (h ∷ events) k j history (inl first) (inr later) same =
      absurd (own_id rank h events j history later (ap (λ (i : Kept T). i.1.id) first ∙ same))
  same_kept rank (h ∷ events) k j history (inr later) (inl first) same =
      absurd (own_id rank h events k history later (ap (λ (i : Kept T). i.1.id) first ∙ sym same))
  same_kept rank (h ∷ events) k j history (inr left) (inr right) same = same_kept rank events k j (history-rest rank h events history) left right same

  -- what is told of a slot is told of its number
  event_at-number : (slot other : Slot) (events : List (Kept T)) → slot.0 ≡ other.0 → event_at slot events ≡ event_at other events
  event_at-number slot other events same = ap (λ n. option_map (λ (k : Kept T). k.1) (find (λ (k : Kept T). k.0.0 == n) events)) same

  -- the event under a slot
  module _ (rank : T → ℤ) (events : List (Kept T)) (history : IsTrue (is_history (history_of rank events))) (slots : AreInSlots events) (slot : Slot) (event : Event T)
      (found : event_at slot events ≡ Some event) where
    -- an event has its identity exactly where it stands under its slot
    id-slot : (k : Kept T) → IsMember events k → bytes_eq k.1.id event.id ≡ (slot.0 == k.0.0)
    id-slot k member =
        ⊎_elim
        (λ here.
        let same : event_at k.0 events ≡ event_at slot events = event_at-number k.0 slot events (sym (eqb-true slot.0 k.0.0 here)) in
        let own : event_at k.0 events ≡ Some k.1 = at_member k member in
        let one : k.1 ≡ event = cc in
        (bytes_eq-Decides k.1.id event.id).1 (ap (λ (e : Event T). e.id) one) ∙ sym here)
        (λ elsewhere.
        ⊎_elim
        (λ same.
        let under = kept_under events slot event found in
        let one : k ≡ under.0 = same_kept rank events k under.0 history member under.1 ((bytes_eq-Decides k.1.id event.id).0 same ∙ ap (λ (e : Event T). e.id) (sym under.3)) in
        let number : k.0.0 ≡ slot.0 = ap (λ (j : Kept T). j.0.0) one ∙ under.2 in
        absurd (false≢true (sym elsewhere ∙ eq-eqb slot.0 k.0.0 (sym number))))
        (λ apart. apart ∙ sym elsewhere) (cases_Bool (bytes_eq k.1.id event.id)))
        (cases_Bool (slot.0 == k.0.0))
      where
        at_member : (j : Kept T) → IsMember events j → event_at j.0 events ≡ Some j.1
        at_member j there = let at = Contains-from_member events j there in subst (λ (i : Kept T). event_at i.0 events ≡ Some i.1) at.2 (slots at.0 j at.1)

    -- so the events without it are those under other slots
    pub without_kept-slot : without_kept event.id events ≡ without_slot slot events
    without_kept-slot = filter_agree (λ (k : Kept T). not (bytes_eq k.1.id event.id)) (λ k. not (slot.0 == k.0.0)) events (λ k member. ap not (id-slot k member))

  -- the event under a slot where those under another are taken out
  pub event_at-without : (gone slot : Slot) (events : List (Kept T)) → event_at slot (filter (λ (k : Kept T). not (gone.0 == k.0.0)) events) ≡ cond (gone.0 == slot.0) None (event_at slot events)
  event_at-without gone slot events =
      ap (option_map (λ (k : Kept T). k.1)) (find-filter (λ (k : Kept T). k.0.0 == slot.0) (λ k. not (gone.0 == k.0.0)) events)
      ∙ ⊎_elim
      (λ here. ap (option_map (λ (k : Kept T). k.1))
      (find_agree (λ (k : Kept T). not (gone.0 == k.0.0) && (k.0.0 == slot.0)) (λ k. false) (λ k. none k.0.0 here) events ∙ find-never events)
      ∙ sym (ap (λ b. cond b None (event_at slot events)) here))
      (λ elsewhere. ap (option_map (λ (k : Kept T). k.1))
      (find_agree (λ (k : Kept T). not (gone.0 == k.0.0) && (k.0.0 == slot.0)) (λ k. k.0.0 == slot.0) (λ k. same k.0.0 elsewhere) events)
      ∙ sym (ap (λ b. cond b None (event_at slot events)) elsewhere))
      (cases_Bool (gone.0 == slot.0))
    where
      none : (n : ℕ) → (gone.0 == slot.0) ≡ true → (not (gone.0 == n) && (n == slot.0)) ≡ false
      none n here = grind arith

      same : (n : ℕ) → (gone.0 == slot.0) ≡ false → (not (gone.0 == n) && (n == slot.0)) ≡ (n == slot.0)
      same n elsewhere = grind arith

  -- ---- one removal less

  -- a slot is to be taken out by one removal more
  pub has_slot-last : (slot : Slot) (rest : List (Removal T)) (r : Removal T) → has_slot slot (rest ++ r ∷ []) ≡ (has_slot slot rest || (r.slot.0 == slot.0))
  has_slot-last slot rest r = list_any-append (λ (s : Removal T). s.slot.0 == slot.0) rest (r ∷ []) ∙ ap (λ b. has_slot slot rest || b) (or-false (r.slot.0 == slot.0))

  -- taking out the last slot, and then the others, takes out all
  pub without_slots-last : (rest : List (Removal T)) (r : Removal T) (events : List (Kept T))
      → without_slots rest (filter (λ (k : Kept T). not (r.slot.0 == k.0.0)) events) ≡ without_slots (rest ++ r ∷ []) events
  without_slots-last rest r events =
      filter-filter (λ (k : Kept T). not (has_slot k.0 rest)) (λ k. not (r.slot.0 == k.0.0)) (λ k. not (has_slot k.0 (rest ++ r ∷ []))) events
      (λ k. ap not (has_slot-last k.0 rest r) ∙ not-or_turned (has_slot k.0 rest) (r.slot.0 == k.0.0))

  -- with none to be taken out all are left
  pub without_slots-none : (removals : List (Removal T)) (events : List (Kept T)) → removals ≡ [] → without_slots removals events ≡ events
  without_slots-none removals events none = ap (λ rs. without_slots rs events) none ∙ filter-each events

  -- one slot is taken out, the last of some
  module _ (rest : List (Removal T)) (r : Removal T) (events events' : List (Kept T)) (slots slots' : List (Option (EventEntries T))) (left : events' ≡ without_slot r.slot events)
      (absent : kept_at r.slot.0 slots' ≡ None) (others : (n : ℕ) → n ≢ r.slot.0 → kept_at n slots' ≡ kept_at n slots) where
    event-left : (slot : Slot) → event_at slot events' ≡ cond (r.slot.0 == slot.0) None (event_at slot events)
    event-left slot = ap (event_at slot) left ∙ event_at-without r.slot slot events

    kept-left : (slot : Slot) → kept_at slot.0 slots' ≡ cond (r.slot.0 == slot.0) None (kept_at slot.0 slots)
    kept-left slot =
        ⊎_elim
        (λ here. ap (λ n. kept_at n slots') (sym (eqb-true r.slot.0 slot.0 here)) ∙ absent ∙ sym (ap (λ b. cond b None (kept_at slot.0 slots)) here))
        (λ elsewhere. others slot.0 (λ same. false≢true (sym elsewhere ∙ eq-eqb r.slot.0 slot.0 (sym same))) ∙ sym (ap (λ b. cond b None (kept_at slot.0 slots)) elsewhere))
        (cases_Bool (r.slot.0 == slot.0))

    pub aligned-left : AreAligned events slots → AreAligned events' slots'
    aligned-left aligned slot = ap is_some (kept-left slot) ∙ by_test (r.slot.0 == slot.0) ∙ sym (ap is_some (event-left slot))
      where
        by_test : (b : Bool) → is_some (cond b None (kept_at slot.0 slots)) ≡ is_some (cond b None (event_at slot events))
        by_test true = refl
        by_test false = aligned slot

    pub live-left : is_ascending (λ (a b : Removal T). not (a.slot.0 == b.slot.0)) (rest ++ r ∷ []) ≡ true → All (λ (s : Removal T). IsSome (event_at s.slot events)) (rest ++ r ∷ [])
        → All (λ (s : Removal T). IsSome (event_at s.slot events')) rest
    live-left apart live k d within =
        let s = get_or rest k d in
        let others = (ascending-last (λ (a b : Removal T). not (a.slot.0 == b.slot.0)) rest r apart).1 in
        let other : (r.slot.0 == s.slot.0) ≡ false = turned s.slot.0 r.slot.0 (list_all-get_or (λ (a : Removal T). not (a.slot.0 == r.slot.0)) rest k d others within) in
        subst IsSome (sym (event-left s.slot ∙ ap (λ b. cond b None (event_at s.slot events)) other)) ((live-parts (λ (a : Removal T). IsSome (event_at a.slot events)) rest r live).0 k d within)
      where
        turned : (a b : ℕ) → not (a == b) ≡ true → (b == a) ≡ false
        turned a b e = grind arith

    pub events-left : without_slots rest events' ≡ without_slots (rest ++ r ∷ []) events
    events-left = ap (without_slots rest) left ∙ without_slots-last rest r events

    pub slots-left : (slot : Slot) → cond (has_slot slot rest) None (kept_at slot.0 slots') ≡ cond (has_slot slot (rest ++ r ∷ [])) None (kept_at slot.0 slots)
    slots-left slot =
        ap (cond (has_slot slot rest) None) (kept-left slot) ∙ both (has_slot slot rest) (r.slot.0 == slot.0) (kept_at slot.0 slots)
        ∙ sym (ap (λ b. cond b None (kept_at slot.0 slots)) (has_slot-last slot rest r))
      where
        both : (a b : Bool) (o : Option (EventEntries T)) → cond a None (cond b None o) ≡ cond (a || b) None o
        both true b o = refl
        both false b o = refl
