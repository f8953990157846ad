-- Events with their slots: what is found among them, and what one more or one less leaves.
use Rattle.std.proofs.Common.{◌≡◌, ℕ, ◌≤◌, zero, suc, Bool, true, false, cond, not, ◌&&◌, ◌||◌, List, [], ◌∷◌, ℤ, Option, Some, None, refl, sym, ap, ap₂, subst, ◌∙◌, ⊎_elim, length, map, is_some, slice_get, arith}
use Rattle.std.specs.Prelude.{int_lt, find, option_map, unwrap_or, bytes_eq, ◌==◌, if◌then◌else◌}
use Rattle.std.specs.List.{list_any, list_all}
use Rattle.std.specs.Ordering.{int_cmp, int_eq, is_lt, is_eq, ordering_then}
use Rattle.std.specs.declared.cmp.Ordering.{Ordering}
use Rattle.std.specs.declared.cmp.Ordering.TheVariants.{Less, Equal, Greater}
use Rattle.std.proofs.lemmas.Bool.{cases_Bool, false≢true, and_parts, and_right, or_right, or_parts, not-true, eqb-true}
use Rattle.std.proofs.lemmas.Slice.Eq.{bytes_eq-Decides}
use Rattle.std.proofs.lemmas.Option.{none-some}
use Rattle.ec_terms.specs.declared.ids.Slot.{Slot}
use Rattle.ec_terms.specs.Term.{name_cmp}
use Rattle.ec_axioms.specs.Calculus.{PlainEvent}
use Rattle.ec_axioms.specs.Changes.{is_history, comes_before, has_id, with_event, without_event}
use Rattle.ec_axioms.specs.declared.event.Event.{Event}
use Rattle.ec_axioms.proofs.Histories.{comes_before-total}
use Rattle.ec_axioms.proofs.Members.{IsMember, find-Some}
use Rattle.ec_rows.specs.Ordered.{is_ascending}
use Rattle.ec_rows.specs.Times.{Entry, entry_before, entries_before, is_entry, has_entry, with_entry, without_entry, place_cmp, place_of}
use Rattle.ec_rows.proofs.OrderedLemmas.{IsOrder, IsOrder-by_key, with_member-front, with_member-later}
use Rattle.ec_rows.proofs.TimeLemmas.{place_cmp-total}
use Rattle.ec_store.specs.Store.{Kept, plain_of, history_of, slot_of, event_at, kept_before, with_kept, without_kept}
use Rattle.ec_store.specs.EventRecords.{entry_of}
use Rattle.ec_lists.proofs.Integers.{int_eq-same}
use Rattle.ec_lists.proofs.Booleans.{option_map-cond, is_some-cond, map-cond, cond_comm, cond-same, cond-again}
use Rattle.ec_lists.proofs.Filters.{filter-not_any, filter-map}
use Rattle.ec_lists.proofs.Numbers.{bytes_eq-turned}

-- what is under a slot is a member with that slot
pub kept_under : {T : Type 0} (events : List (Kept T)) (slot : Slot) (event : Event T) → event_at slot events ≡ Some event
    → (k : Kept T) × IsMember events k × (k.0.0 ≡ slot.0) × (k.1 ≡ event)
kept_under {T} events slot event there = of (find (λ (k : Kept T). k.0.0 == slot.0) events) refl there
  where
    of : (o : Option (Kept T)) → find (λ (k : Kept T). k.0.0 == slot.0) events ≡ o → option_map (λ (k : Kept T). k.1) o ≡ Some event
        → (k : Kept T) × IsMember events k × (k.0.0 ≡ slot.0) × (k.1 ≡ event)
    of None none both = absurd (none-some event both)
    of (Some kept) found both =
        let member = find-Some (λ (k : Kept T). k.0.0 == slot.0) events kept found in
        (kept, member.0, eqb-true kept.0.0 slot.0 member.1, ap (λ o. unwrap_or o event) both)

-- ---- tests

pub same_bytes : (a b : List ℕ) → bytes_eq a b ≡ true → a ≡ b
same_bytes a b = (bytes_eq-Decides a b).0

-- before in time, or at the same time and less: as an answer of two comparisons
pub before-then : (s t : ℤ) (o : Ordering) → (int_lt s t || (int_eq s t && is_lt o)) ≡ is_lt (ordering_then (int_cmp s t) o)
before-then s t o = by_tests (int_lt s t) (int_lt t s) o
  where
    by_tests : (a b : Bool) (r : Ordering) → (a || (is_eq (cond a Less (cond b Greater Equal)) && is_lt r)) ≡ is_lt (ordering_then (cond a Less (cond b Greater Equal)) r)
    by_tests true b r = refl
    by_tests false true r = refl
    by_tests false false r = refl

module _ {T : Type 0} where
  -- ---- what is found

  pub event_at-same : (slot : Slot) (k : Kept T) (ks : List (Kept T)) → (k.0.0 == slot.0) ≡ true → event_at slot (k ∷ ks) ≡ Some k.1
  event_at-same slot k ks e = ap (λ b. option_map (λ (j : Kept T). j.1) (cond b (Some k) (find (λ (j : Kept T). j.0.0 == slot.0) ks))) e

  pub event_at-other : (slot : Slot) (k : Kept T) (ks : List (Kept T)) → (k.0.0 == slot.0) ≡ false → event_at slot (k ∷ ks) ≡ event_at slot ks
  event_at-other slot k ks e = ap (λ b. option_map (λ (j : Kept T). j.1) (cond b (Some k) (find (λ (j : Kept T). j.0.0 == slot.0) ks))) e

  pub slot_of-cons : (id : List ℕ) (k : Kept T) (ks : List (Kept T)) → slot_of id (k ∷ ks) ≡ cond (bytes_eq k.1.id id) (Some k.0) (slot_of id ks)
  slot_of-cons id k ks = option_map-cond (λ (j : Kept T). j.0) (bytes_eq k.1.id id) k (find (λ (j : Kept T). bytes_eq j.1.id id) ks)

  -- no event has the identity
  pub absent-first : (id : List ℕ) (k : Kept T) (ks : List (Kept T)) → slot_of id (k ∷ ks) ≡ None → bytes_eq k.1.id id ≡ false
  absent-first id k ks none =
      ⊎_elim (λ e. let found : Some k.0 ≡ None = sym (ap (λ b. cond b (Some k.0) (slot_of id ks)) e) ∙ sym (slot_of-cons id k ks) ∙ none in cc) (λ e. e)
      (cases_Bool (bytes_eq k.1.id id))

  pub absent-rest : (id : List ℕ) (k : Kept T) (ks : List (Kept T)) → slot_of id (k ∷ ks) ≡ None → slot_of id ks ≡ None
  absent-rest id k ks none =
      sym (ap (λ b. cond b (Some k.0) (slot_of id ks)) (absent-first id k ks none)) ∙ sym (slot_of-cons id k ks) ∙ none

  -- ---- one more

  with_kept-front : (rank : T → ℤ) (k j : Kept T) (js : List (Kept T)) → comes_before (plain_of rank k) (plain_of rank j) ≡ true → with_kept rank k (j ∷ js) ≡ k ∷ j ∷ js
  unfolding with_kept
  with_kept-front rank k j js e = ap (λ b. if b then k ∷ j ∷ js else j ∷ with_kept rank k js) e

  with_kept-later : (rank : T → ℤ) (k j : Kept T) (js : List (Kept T)) → comes_before (plain_of rank k) (plain_of rank j) ≡ false →
      with_kept rank k (j ∷ js) ≡ j ∷ with_kept rank k js
  unfolding with_kept
  with_kept-later rank k j js e = ap (λ b. if b then k ∷ j ∷ js else j ∷ with_kept rank k js) e

  pub slot_of-with_kept : (rank : T → ℤ) (k : Kept T) (ks : List (Kept T)) (id : List ℕ) → slot_of k.1.id ks ≡ None →
      slot_of id (with_kept rank k ks) ≡ cond (bytes_eq k.1.id id) (Some k.0) (slot_of id ks)
  unfolding with_kept
  slot_of-with_kept rank k [] id none = slot_of-cons id k []
  slot_of-with_kept rank k (j ∷ js) id none =
      let ih : slot_of id (with_kept rank k js) ≡ cond (bytes_eq k.1.id id) (Some k.0) (slot_of id js) = slot_of-with_kept rank k js id (absent-rest k.1.id j js none) in
      let apart : bytes_eq k.1.id id ≡ true → bytes_eq j.1.id id ≡ false =
      λ e. subst (λ i. bytes_eq j.1.id i ≡ false) (same_bytes k.1.id id e) (absent-first k.1.id j js none) in
      ⊎_elim
      (λ e. ap (slot_of id) (with_kept-front rank k j js e) ∙ slot_of-cons id k (j ∷ js))
      (λ e. ap (slot_of id) (with_kept-later rank k j js e) ∙ slot_of-cons id j (with_kept rank k js)
      ∙ ap (λ o. cond (bytes_eq j.1.id id) (Some j.0) o) ih
      ∙ cond_comm (bytes_eq j.1.id id) (bytes_eq k.1.id id) (Some j.0) (Some k.0) (slot_of id js) apart
      ∙ ap (λ o. cond (bytes_eq k.1.id id) (Some k.0) o) (sym (slot_of-cons id j js)))
      (cases_Bool (comes_before (plain_of rank k) (plain_of rank j)))

  pub history_of-with_kept : (rank : T → ℤ) (k : Kept T) (ks : List (Kept T)) →
      history_of rank (with_kept rank k ks) ≡ with_event (plain_of rank k) (history_of rank ks)
  unfolding with_kept with_event
  history_of-with_kept rank k [] = refl
  history_of-with_kept rank k (j ∷ js) =
      map-cond (plain_of rank) (comes_before (plain_of rank k) (plain_of rank j)) (k ∷ j ∷ js) (j ∷ with_kept rank k js)
      ∙ ap (λ es. cond (comes_before (plain_of rank k) (plain_of rank j)) (plain_of rank k ∷ plain_of rank j ∷ history_of rank js) (plain_of rank j ∷ es))
      (history_of-with_kept rank k js)

  pub has_id-slot_of : (rank : T → ℤ) (id : List ℕ) (ks : List (Kept T)) → has_id id (history_of rank ks) ≡ is_some (slot_of id ks)
  unfolding has_id
  has_id-slot_of rank id [] = refl
  has_id-slot_of rank id (k ∷ ks) =
      ap (λ b. bytes_eq k.1.id id || b) (has_id-slot_of rank id ks) ∙ is_some-cond (bytes_eq k.1.id id) k.0 (slot_of id ks) ∙ ap is_some (sym (slot_of-cons id k ks))

  -- ---- entries

  comes_before-entry : (rank : T → ℤ) (k j : Kept T) → comes_before (plain_of rank k) (plain_of rank j) ≡ entry_before rank (entry_of k) (entry_of j)
  unfolding comes_before
  comes_before-entry rank k j = before-then (rank k.1.at) (rank j.1.at) (name_cmp k.1.id j.1.id)

  list_all-entry : (rank : T → ℤ) (k : Kept T) (ks : List (Kept T)) →
      list_all (comes_before (plain_of rank k)) (history_of rank ks) ≡ list_all (entry_before rank (entry_of k)) (map entry_of ks)
  list_all-entry rank k [] = refl
  list_all-entry rank k (j ∷ js) = ap₂ (λ a b. a && b) (comes_before-entry rank k j) (list_all-entry rank k js)

  -- the parts of a history
  history-first : (rank : T → ℤ) (k : Kept T) (ks : List (Kept T)) → is_history (history_of rank (k ∷ ks)) ≡ true →
      list_all (comes_before (plain_of rank k)) (history_of rank ks) ≡ true
  unfolding is_history
  history-first rank k ks history =
      let outer = and_parts (list_all (comes_before (plain_of rank k)) (history_of rank ks) && not (has_id k.1.id (history_of rank ks))) (is_history (history_of rank ks)) history in
      (and_parts (list_all (comes_before (plain_of rank k)) (history_of rank ks)) (not (has_id k.1.id (history_of rank ks))) outer.0).0

  history-new : (rank : T → ℤ) (k : Kept T) (ks : List (Kept T)) → is_history (history_of rank (k ∷ ks)) ≡ true → has_id k.1.id (history_of rank ks) ≡ false
  unfolding is_history
  history-new rank k ks history =
      let outer = and_parts (list_all (comes_before (plain_of rank k)) (history_of rank ks) && not (has_id k.1.id (history_of rank ks))) (is_history (history_of rank ks)) history in
      not-true (has_id k.1.id (history_of rank ks))
      (and_parts (list_all (comes_before (plain_of rank k)) (history_of rank ks)) (not (has_id k.1.id (history_of rank ks))) outer.0).1

  history-rest : (rank : T → ℤ) (k : Kept T) (ks : List (Kept T)) → is_history (history_of rank (k ∷ ks)) ≡ true → is_history (history_of rank ks) ≡ true
  unfolding is_history
  history-rest rank k ks history =
      (and_parts (list_all (comes_before (plain_of rank k)) (history_of rank ks) && not (has_id k.1.id (history_of rank ks))) (is_history (history_of rank ks)) history).1

  -- the entries of a history are in order
  pub is_ascending-entries : (rank : T → ℤ) (ks : List (Kept T)) → is_history (history_of rank ks) ≡ true → is_ascending (entry_before rank) (map entry_of ks) ≡ true
  unfolding is_ascending
  is_ascending-entries rank [] history = refl
  is_ascending-entries rank (k ∷ ks) history =
      ap₂ (λ a b. a && b) (sym (list_all-entry rank k ks) ∙ history-first rank k ks history) (is_ascending-entries rank ks (history-rest rank k ks history))

  order : (rank : T → ℤ) → IsOrder (entry_before rank)
  order rank = IsOrder-by_key place_cmp place_cmp-total (place_of rank)

  -- the entries of the events with one more
  pub with_entry-with_kept : (rank : T → ℤ) (k : Kept T) (ks : List (Kept T)) → is_history (history_of rank ks) ≡ true → slot_of k.1.id ks ≡ None →
      with_entry rank (entry_of k) (map entry_of ks) ≡ map entry_of (with_kept rank k ks)
  unfolding with_kept
  with_entry-with_kept rank k [] history none = refl
  with_entry-with_kept rank k (j ∷ js) history none =
      let ascending : is_ascending (entry_before rank) (entry_of j ∷ map entry_of js) ≡ true = is_ascending-entries rank (j ∷ js) history in
      let ih : with_entry rank (entry_of k) (map entry_of js) ≡ map entry_of (with_kept rank k js) =
      with_entry-with_kept rank k js (history-rest rank j js history) (absent-rest k.1.id j js none) in
      let other : bytes_eq k.1.id j.1.id ≡ false = bytes_eq-turned j.1.id k.1.id (absent-first k.1.id j js none) in
      ⊎_elim
      (λ e. with_member-front (entry_before rank) (order rank) (entry_of k) (entry_of j) (map entry_of js) (sym (comes_before-entry rank k j) ∙ e) ascending
      ∙ ap (map entry_of) (sym (with_kept-front rank k j js e)))
      (λ e. let back : comes_before (plain_of rank j) (plain_of rank k) ≡ true = comes_before-total (plain_of rank k) (plain_of rank j) other e in
      with_member-later (entry_before rank) (order rank) (entry_of k) (entry_of j) (map entry_of js) (sym (comes_before-entry rank j k) ∙ back)
      ∙ ap (λ es. entry_of j ∷ es) ih ∙ ap (map entry_of) (sym (with_kept-later rank k j js e)))
      (cases_Bool (comes_before (plain_of rank k) (plain_of rank j)))

  pub has_entry-none : (rank : T → ℤ) (t : ℤ) (id : List ℕ) (ks : List (Kept T)) → slot_of id ks ≡ None → has_entry rank t id (map entry_of ks) ≡ false
  has_entry-none rank t id [] none = refl
  has_entry-none rank t id (k ∷ ks) none =
      let here : is_entry rank t id (entry_of k) ≡ false = and_right (int_eq (rank k.1.at) t) (bytes_eq k.1.id id) (absent-first id k ks none) in
      ap₂ (λ a b. a || b) here (has_entry-none rank t id ks (absent-rest id k ks none))

  -- ---- one less

  pub slot_of-without_kept : (id : List ℕ) (ks : List (Kept T)) (other : List ℕ) →
      slot_of other (without_kept id ks) ≡ cond (bytes_eq id other) None (slot_of other ks)
  slot_of-without_kept id [] other = cond-same (bytes_eq id other) None
  slot_of-without_kept id (k ∷ ks) other =
      let rest : List (Kept T) = without_kept id ks in
      let ih : slot_of other rest ≡ cond (bytes_eq id other) None (slot_of other ks) = slot_of-without_kept id ks other in
      ⊎_elim
      (λ e. let same : bytes_eq k.1.id other ≡ bytes_eq id other = ap (λ i. bytes_eq i other) (same_bytes k.1.id id e) in
      ap (λ b. slot_of other (cond (not b) (k ∷ rest) rest)) e ∙ ih
      ∙ cond-again (bytes_eq id other) None (Some k.0) (slot_of other ks)
      ∙ ap (λ b. cond (bytes_eq id other) None (cond b (Some k.0) (slot_of other ks))) (sym same)
      ∙ ap (λ o. cond (bytes_eq id other) None o) (sym (slot_of-cons other k ks)))
      (λ e. let apart : bytes_eq id other ≡ true → bytes_eq k.1.id other ≡ false = λ is. subst (λ i. bytes_eq k.1.id i ≡ false) (same_bytes id other is) e in
      ap (λ b. slot_of other (cond (not b) (k ∷ rest) rest)) e ∙ slot_of-cons other k rest
      ∙ ap (λ o. cond (bytes_eq k.1.id other) (Some k.0) o) ih
      ∙ cond_comm (bytes_eq k.1.id other) (bytes_eq id other) (Some k.0) None (slot_of other ks) apart
      ∙ ap (λ o. cond (bytes_eq id other) None o) (sym (slot_of-cons other k ks)))
      (cases_Bool (bytes_eq k.1.id id))

  pub history_of-without_kept : (rank : T → ℤ) (id : List ℕ) (ks : List (Kept T)) → history_of rank (without_kept id ks) ≡ without_event id (history_of rank ks)
  unfolding without_event
  history_of-without_kept rank id ks = sym (filter-map (λ (e : PlainEvent). not (bytes_eq e.id id)) (plain_of rank) ks)

  -- the event under a slot is among the events
  pub has_id-event_at : (rank : T → ℤ) (slot : Slot) (event : Event T) (ks : List (Kept T)) → event_at slot ks ≡ Some event → has_id event.id (history_of rank ks) ≡ true
  unfolding has_id
  has_id-event_at rank slot event [] is = cc
  has_id-event_at rank slot event (k ∷ ks) is =
      ⊎_elim
      (λ e. let found : Some k.1 ≡ Some event = sym (event_at-same slot k ks e) ∙ is in
      let same : k.1 ≡ event = cc in
      ap (λ (j : Event T). bytes_eq j.id event.id || has_id event.id (history_of rank ks)) same
      ∙ ap (λ b. b || has_id event.id (history_of rank ks)) ((bytes_eq-Decides event.id event.id).1 refl))
      (λ e. or_right (bytes_eq k.1.id event.id) (has_id event.id (history_of rank ks))
      (has_id-event_at rank slot event ks (sym (event_at-other slot k ks e) ∙ is)))
      (cases_Bool (k.0.0 == slot.0))

  entry-itself : (rank : T → ℤ) (k : Kept T) → is_entry rank (rank k.1.at) k.1.id (entry_of k) ≡ true
  entry-itself rank k = ap₂ (λ a b. a && b) (int_eq-same (rank k.1.at)) ((bytes_eq-Decides k.1.id k.1.id).1 refl)

  pub has_entry-event_at : (rank : T → ℤ) (slot : Slot) (event : Event T) (ks : List (Kept T)) → event_at slot ks ≡ Some event →
      has_entry rank (rank event.at) event.id (map entry_of ks) ≡ true
  has_entry-event_at rank slot event [] is = cc
  has_entry-event_at rank slot event (k ∷ ks) is =
      ⊎_elim
      (λ e. let found : Some k.1 ≡ Some event = sym (event_at-same slot k ks e) ∙ is in
      let same : k.1 ≡ event = cc in
      subst (λ (j : Event T). has_entry rank (rank j.at) j.id (map entry_of (k ∷ ks)) ≡ true) same
      (ap (λ b. b || has_entry rank (rank k.1.at) k.1.id (map entry_of ks)) (entry-itself rank k)))
      (λ e. or_right (is_entry rank (rank event.at) event.id (entry_of k)) (has_entry rank (rank event.at) event.id (map entry_of ks))
      (has_entry-event_at rank slot event ks (sym (event_at-other slot k ks e) ∙ is)))
      (cases_Bool (k.0.0 == slot.0))

  no_entry : (rank : T → ℤ) (t : ℤ) (id : List ℕ) (ks : List (Kept T)) → has_id id (history_of rank ks) ≡ false → list_any (is_entry rank t id) (map entry_of ks) ≡ false
  unfolding has_id
  no_entry rank t id [] none = refl
  no_entry rank t id (k ∷ ks) none =
      ap₂ (λ a b. a || b)
      (and_right (int_eq (rank k.1.at) t) (bytes_eq k.1.id id) (or_parts (bytes_eq k.1.id id) (has_id id (history_of rank ks)) none).0)
      (no_entry rank t id ks (or_parts (bytes_eq k.1.id id) (has_id id (history_of rank ks)) none).1)

  no_kept : (rank : T → ℤ) (id : List ℕ) (ks : List (Kept T)) → has_id id (history_of rank ks) ≡ false → list_any (λ (k : Kept T). bytes_eq k.1.id id) ks ≡ false
  unfolding has_id
  no_kept rank id [] none = refl
  no_kept rank id (k ∷ ks) none =
      ap₂ (λ a b. a || b) (or_parts (bytes_eq k.1.id id) (has_id id (history_of rank ks)) none).0
      (no_kept rank id ks (or_parts (bytes_eq k.1.id id) (has_id id (history_of rank ks)) none).1)

  -- the entries without the first one's
  without_entry-first : (rank : T → ℤ) (k : Kept T) (ks : List (Kept T)) → has_id k.1.id (history_of rank ks) ≡ false →
      without_entry rank (rank k.1.at) k.1.id (map entry_of (k ∷ ks)) ≡ map entry_of (without_kept k.1.id (k ∷ ks))
  without_entry-first rank k ks none =
      let gone : without_entry rank (rank k.1.at) k.1.id (map entry_of ks) ≡ map entry_of ks =
      filter-not_any (is_entry rank (rank k.1.at) k.1.id) (map entry_of ks) (no_entry rank (rank k.1.at) k.1.id ks none) in
      let kept : without_kept k.1.id ks ≡ ks = filter-not_any (λ (j : Kept T). bytes_eq j.1.id k.1.id) ks (no_kept rank k.1.id ks none) in
      ap (λ b. cond (not b) (entry_of k ∷ without_entry rank (rank k.1.at) k.1.id (map entry_of ks)) (without_entry rank (rank k.1.at) k.1.id (map entry_of ks))) (entry-itself rank k)
      ∙ gone ∙ ap (map entry_of) (sym kept)
      ∙ ap (λ b. map entry_of (cond (not b) (k ∷ without_kept k.1.id ks) (without_kept k.1.id ks))) (sym ((bytes_eq-Decides k.1.id k.1.id).1 refl))

  -- the entries of the events with one less
  pub without_entry-without_kept : (rank : T → ℤ) (slot : Slot) (event : Event T) (ks : List (Kept T)) → is_history (history_of rank ks) ≡ true →
      event_at slot ks ≡ Some event → without_entry rank (rank event.at) event.id (map entry_of ks) ≡ map entry_of (without_kept event.id ks)
  without_entry-without_kept rank slot event [] history is = refl
  without_entry-without_kept rank slot event (k ∷ ks) history is =
      ⊎_elim
      (λ e. let found : Some k.1 ≡ Some event = sym (event_at-same slot k ks e) ∙ is in
      let same : k.1 ≡ event = cc in
      subst (λ (j : Event T). without_entry rank (rank j.at) j.id (map entry_of (k ∷ ks)) ≡ map entry_of (without_kept j.id (k ∷ ks))) same
      (without_entry-first rank k ks (history-new rank k ks history)))
      (λ e. let later : event_at slot ks ≡ Some event = sym (event_at-other slot k ks e) ∙ is in
      let ih : without_entry rank (rank event.at) event.id (map entry_of ks) ≡ map entry_of (without_kept event.id ks) =
      without_entry-without_kept rank slot event ks (history-rest rank k ks history) later in
      let other : bytes_eq k.1.id event.id ≡ false = ⊎_elim
      (λ same. absurd (false≢true (sym (history-new rank k ks history)
      ∙ ap (λ i. has_id i (history_of rank ks)) (same_bytes k.1.id event.id same) ∙ has_id-event_at rank slot event ks later)))
      (λ is_other. is_other) (cases_Bool (bytes_eq k.1.id event.id)) in
      let no : is_entry rank (rank event.at) event.id (entry_of k) ≡ false = and_right (int_eq (rank k.1.at) (rank event.at)) (bytes_eq k.1.id event.id) other in
      ap (λ b. cond (not b) (entry_of k ∷ without_entry rank (rank event.at) event.id (map entry_of ks)) (without_entry rank (rank event.at) event.id (map entry_of ks))) no
      ∙ ap (λ es. entry_of k ∷ es) ih
      ∙ ap (λ b. map entry_of (cond (not b) (k ∷ without_kept event.id ks) (without_kept event.id ks))) (sym other))
      (cases_Bool (k.0.0 == slot.0))

  -- ---- positions

  pub entries_before-kept : (rank : T → ℤ) (t : ℤ) (ks : List (Kept T)) → entries_before rank t (map entry_of ks) ≡ map entry_of (kept_before rank t ks)
  entries_before-kept rank t ks = filter-map (λ entry. int_lt (rank entry.0) t) entry_of ks

  pub slice_get-entries : (ks : List (Kept T)) (i : ℕ) → slice_get (map entry_of ks) i ≡ option_map entry_of (slice_get ks i)
  slice_get-entries [] i = refl
  slice_get-entries (k ∷ ks) zero = refl
  slice_get-entries (k ∷ ks) (suc i) = slice_get-entries ks i

  -- the slot of the entry at a place is that of the event there
  pub next-entry : (found : Option (Kept T)) (entry : Entry T) (n : ℕ) → option_map entry_of found ≡ Some entry →
      ◌≡◌ {A = Option (Slot × ℕ)} (Some (entry.2, n)) (option_map (λ (k : Kept T). (k.0, n)) found)
  next-entry None entry n is = cc
  next-entry (Some k) entry n is = let same : entry_of k ≡ entry = cc in
      let pair : Entry T → Option (Slot × ℕ) = λ e. Some (e.2, n) in ap pair (sym same)

  pub slice_get-end : (ks : List (Kept T)) (i : ℕ) → length ks ≤ i → slice_get ks i ≡ None
  slice_get-end [] i end = refl
  slice_get-end (k ∷ ks) zero end = absurd (omega arith)
  slice_get-end (k ∷ ks) (suc i) end = slice_get-end ks i (omega arith)
