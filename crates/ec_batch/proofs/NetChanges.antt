-- The change that a walk comes to, from what goes and what comes under each touched identity.
use Rattle.std.proofs.Common.{◌≡◌, ◌≤◌, ℕ, ℤ, Bool, true, false, not, cond, ◌&&◌, ◌||◌, List, [], ◌∷◌, ◌++◌, get_or, length, map, filter, filter_map, Option, Some, None, IfSome, IsSome, All, IsTrue, IsFalse, is_some, refl, sym, ap, ap₂, subst, ◌∙◌, inl, inr, ⊎_elim, arith}
use Rattle.std.specs.Prelude.{bytes_eq, find, int_lt, option_map, reverse, ◌==◌}
use Rattle.std.specs.Cmp.{IsStrictWeakOrder, IsTotalOrder}
use Rattle.std.specs.Cmp.Lexicographic.{nat_list_eq_equiv}
use Rattle.std.specs.List.{IsDistinct, cons_option}
use Rattle.std.specs.List.Sorted.{IsPermutation, IsSortedBy}
use Rattle.std.specs.Map.{keys_of}
use Rattle.std.specs.Option.{option_map_or, option_to_list}
use Rattle.std.specs.FinMap.{nat_cmp-IsAntisymmetric, slice_cmp-IsAntisymmetric}
use Rattle.std.specs.Ordering.{int_cmp, int_eq, is_lt, nat_cmp, ordering_then}
use Rattle.std.specs.declared.cmp.Ordering.{Ordering}
use Rattle.std.specs.declared.cmp.Ordering.TheVariants.{Equal}
use Rattle.std.proofs.lemmas.Bool.{and_parts, cases_Bool, cond-true, cond-false, eq-eqb, eqb-true, false≢true, false_from_ne_true, not-true}
use Rattle.std.proofs.lemmas.Cmp.{int_cmp_total, nat_cmp_total, on_total, then_total}
use Rattle.std.proofs.lemmas.List.{append-nil, append_assoc, length-reverse, reverse-append}
use Rattle.std.proofs.lemmas.List.Elements.{All-contains, All-contains_itself}
use Rattle.std.proofs.lemmas.List.Sorted.{All-permutation, IsPermutation-reverse, list_any-IsPermutation, ranks_by}
use Rattle.std.proofs.lemmas.Map.Views.{Contains-from_lookup, lookup-from_Contains}
use Rattle.std.proofs.lemmas.Slice.Eq.{bytes_eq-Decides}
use Rattle.indexmap.specs.IndexMap.{IndexMap}
use Rattle.ec_lists.proofs.Numbers.{bytes_eq_comm, eqb_comm}
use Rattle.ec_lists.proofs.Filters.{length-filter_map}
use Rattle.ec_lists.proofs.Orderings.{Equal-from_then_last}
use Rattle.ec_terms.specs.declared.ids.Slot.{Slot}
use Rattle.ec_terms.specs.declared.theory.Theory.{Theory}
use Rattle.ec_terms.specs.Domain.{entries_of}
use Rattle.ec_terms.specs.Term.{name_cmp, term_eq}
use Rattle.ec_axioms.specs.declared.event.Event.{Event}
use Rattle.ec_axioms.specs.Calculus.{PlainEvent}
use Rattle.ec_axioms.specs.Changes.{comes_before, event_eq, events_only_in, has_event, has_id, is_history}
use Rattle.ec_axioms.specs.Events.{event_of}
use Rattle.ec_axioms.proofs.Histories.{comes_before-trans}
use Rattle.ec_axioms.proofs.Members.{Contains-from_member, IsMember, IsMember-filter, IsMember-from_contains, IsMember-from_filter, IsMember-from_filter_map, IsMember-from_map, IsMember-map, IsPairwise, IsPairwise-filter, IsPairwise-map, IsPairwise-weaker, find-Some, list_any-false, list_any-member, member-list_any, IsMember-append_left}
use Rattle.ec_changes.proofs.DistinctLists.{IsPairwise-from_distinct}
use Rattle.ec_changes.proofs.KeptEvents.{IsMember-from_has_event, IsPairwise-from_history, comes_before-itself, event_eq-is, event_eq-same, has_event-member, same_from_members}
use Rattle.ec_context.specs.Entries.{shown_entries}
use Rattle.ec_store.specs.Store.{Kept, event_at, history_of, plain_of, slot_of}
use Rattle.ec_store.proofs.EventLemmas.{slot_of-cons, before-then}
use Rattle.ec_store.specs.Table.{KeptProp}
use Rattle.ec_revise.specs.declared.change.Change.{Change}
use Rattle.ec_revise.specs.declared.change.Removal.{Removal}
use Rattle.ec_revise.specs.Change.{IsChange, entries_to_show, has_slot, removal_before}
use Rattle.ec_rows.specs.Ordered.{is_ascending}
use Rattle.ec_rows.specs.Times.{place_cmp}
use Rattle.ec_rows.proofs.TimeLemmas.{place_cmp-total}
use Rattle.ec_rows.proofs.OrderedPairs.{ascending-from_pairwise, IsPairwise-from_map}
use Rattle.ec_batch.specs.declared.net.Added.{Added}
use Rattle.ec_batch.specs.declared.net.Net.{Net}
use Rattle.ec_batch.specs.Net.{net_in}
use Rattle.ec_batch.specs.NetChange.{added_before, coming, going, is_back, kept_in, removal_of, stands_there}
use Rattle.ec_batch.specs.Walk.{IsNetTo, added_event}
use Rattle.ec_changes.specs.Found.{event_with}
use Rattle.ec_changes.proofs.FoundEvents.{event_with-member, found-has_event, found-id, found-member}
use Rattle.ec_batch.proofs.SortedLists.{IsMember-filter_map, IsMember-moved, IsMember-moved_back, IsPairwise-filter_map, IsPairwise-sorted_by, apart_moved, nat_lt-cmp}
use Rattle.ec_batch.proofs.WalkSteps.{stored_event}

-- ---- histories and stores

-- an event stands in a history where it is found under its identity
has_event-by_found : (events : List PlainEvent) (e : PlainEvent) → IsTrue (is_history events) → has_event events e ≡ option_map_or (event_eq e) (event_with e.id events) false
has_event-by_found events e history = by_found (event_with e.id events) refl
  where
    by_found : (o : Option PlainEvent) → event_with e.id events ≡ o → has_event events e ≡ option_map_or (event_eq e) o false
    by_found None none =
        false_from_ne_true (has_event events e)
        (λ there. false≢true (ap is_some (sym none ∙ event_with-member events e history (IsMember-from_has_event events e there))))
    by_found (Some f) some =
        ⊎_elim
        (λ same. subst (λ g. IsTrue (has_event events g)) (sym (event_eq-is e f same)) (found-has_event e.id f events some) ∙ sym same)
        (λ other. false_from_ne_true (has_event events e)
        (λ there. let own : Some f ≡ Some e = sym some ∙ event_with-member events e history (IsMember-from_has_event events e there) in
        let one : f ≡ e = cc in
        false≢true (sym other ∙ subst (λ g. IsTrue (event_eq e g)) (sym one) (event_eq-same e)))
        ∙ sym other)
        (cases_Bool (event_eq e f))

module _ {T : Type 0} (rank : T → ℤ) where
  -- a member of a store is found under its identity
  pub slot_of-member : (events : List (Kept T)) (kept : Kept T) → IsTrue (is_history (history_of rank events)) → IsMember events kept → slot_of kept.1.id events ≡ Some kept.0
  unfolding is_history has_id
  slot_of-member [] kept history member = absurd member
  slot_of-member (k ∷ ks) kept history (inl same) =
      slot_of-cons kept.1.id k ks ∙ cond-true (bytes_eq k.1.id kept.1.id) _ _ ((bytes_eq-Decides k.1.id kept.1.id).1 (ap (λ (j : Kept T). j.1.id) same)) ∙ ap (λ (j : Kept T). Some j.0) same
  slot_of-member (k ∷ ks) kept history (inr later) =
      let outer = and_parts _ (is_history (history_of rank ks)) history in
      let absent : has_id k.1.id (history_of rank ks) ≡ false = not-true (has_id k.1.id (history_of rank ks)) (and_parts _ (not (has_id k.1.id (history_of rank ks))) outer.0).1 in
      let other : bytes_eq kept.1.id k.1.id ≡ false =
      list_any-false (λ (e : PlainEvent). bytes_eq e.id k.1.id) (history_of rank ks) (plain_of rank kept) absent (IsMember-map (plain_of rank) ks kept later) in
      slot_of-cons kept.1.id k ks ∙ cond-false (bytes_eq k.1.id kept.1.id) _ _ (bytes_eq_comm k.1.id kept.1.id ∙ other) ∙ slot_of-member ks kept outer.1 later

-- ---- what is gathered

-- what is gathered of the last of a list comes next, where the list is gone through from its end
pub gathered-next : {X Y : Type 0} (h : X → Option Y) (front : List X) (x : X) (so_far more whole : List Y) → so_far ++ filter_map h (reverse (front ++ x ∷ [])) ≡ whole → more ≡ so_far ++ option_to_list (h x)
    → more ++ filter_map h (reverse front) ≡ whole
gathered-next {X} {Y} h front x so_far more whole gathered is =
    ap (λ ys. ys ++ filter_map h (reverse front)) is ∙ by_value (h x) ∙ ap (λ xs. so_far ++ filter_map h xs) (sym (reverse-append front (x ∷ []))) ∙ gathered
  where
    by_value : (o : Option Y) → (so_far ++ option_to_list o) ++ filter_map h (reverse front) ≡ so_far ++ cons_option o (filter_map h (reverse front))
    by_value None = ap (λ ys. ys ++ filter_map h (reverse front)) (append-nil so_far)
    by_value (Some y) = append_assoc so_far (y ∷ []) (filter_map h (reverse front))

pub length-gathered : {X Y : Type 0} (h : X → Option Y) (xs : List X) → length (filter_map h (reverse xs)) ≤ length xs
length-gathered h xs = let few = length-filter_map h (reverse xs) in let same = length-reverse xs in omega arith

-- what holds of all holds of those in front
pub All-in_front : {X : Type 0} (P : X → Type 0) (xs ys : List X) → All P (xs ++ ys) → All P xs
All-in_front P xs ys all k d within =
    let x = get_or xs k d in
    All-contains P (xs ++ ys) x all (Contains-from_member (xs ++ ys) x (IsMember-append_left xs ys x (IsMember-from_contains xs x (All-contains_itself xs k d within))))

-- ---- what comes of a net

module _ {T : Type 0} (rank : T → ℤ) (events : List (Kept T)) where
  -- a removal is that of an event that is not put back
  record IsGone (net : Net T) (removal : Removal T) : Type 0 where
    kept : Kept T
    stood : kept_in events net.old ≡ Some kept
    removed : removal_of kept ≡ removal
    other : is_back rank kept.1 net.new ≡ false

  gone : (net : Net T) (removal : Removal T) → going rank events net ≡ Some removal → IsGone net removal
  gone net removal is = by_kept (kept_in events net.old) refl is
    where
      by_back : (kept : Kept T) (b : Bool) → kept_in events net.old ≡ Some kept → is_back rank kept.1 net.new ≡ b → cond b None (Some (removal_of kept)) ≡ Some removal → IsGone net removal
      by_back kept true stood back given = cc
      by_back kept false stood back given = record { kept = kept; stood = stood; removed = cc; other = back }

      by_kept : (o : Option (Kept T)) → kept_in events net.old ≡ o → cond (stands_there rank o net.new) None (option_map removal_of o) ≡ Some removal → IsGone net removal
      by_kept None stood given = cc
      by_kept (Some kept) stood given = by_back kept (is_back rank kept.1 net.new) stood refl given

  going-of : (net : Net T) (kept : Kept T) → kept_in events net.old ≡ Some kept → is_back rank kept.1 net.new ≡ false → going rank events net ≡ Some (removal_of kept)
  going-of net kept stood other =
      ap (λ o. cond (stands_there rank o net.new) None (option_map removal_of o)) stood ∙ cond-false (is_back rank kept.1 net.new) None (Some (removal_of kept)) other

  -- what comes is what is put in, and is not what stood there
  came : (net : Net T) (added : Added T) → coming rank events net ≡ Some added → (net.new ≡ Some added) × (stands_there rank (kept_in events net.old) net.new ≡ false)
  came net added is = by_test (stands_there rank (kept_in events net.old) net.new) refl is
    where
      by_test : (b : Bool) → stands_there rank (kept_in events net.old) net.new ≡ b → cond b None net.new ≡ Some added → (net.new ≡ Some added) × (stands_there rank (kept_in events net.old) net.new ≡ false)
      by_test true there given = cc
      by_test false there given = (given, there)

  coming-of : (net : Net T) (added : Added T) → net.new ≡ Some added → stands_there rank (kept_in events net.old) net.new ≡ false → coming rank events net ≡ Some added
  coming-of net added is other = cond-false (stands_there rank (kept_in events net.old) net.new) None net.new other ∙ is

-- ---- places in an order

-- removals go by time, then by slot
abbrev removal_cmp : ℤ × ℕ → ℤ × ℕ → Ordering
removal_cmp a b = ordering_then (int_cmp a.0 b.0) (nat_cmp a.1 b.1)

removal_cmp-total : IsTotalOrder removal_cmp
removal_cmp-total = then_total (on_total (λ (p : ℤ × ℕ). p.0) int_cmp_total) (on_total (λ (p : ℤ × ℕ). p.1) nat_cmp_total)

-- two lists of values agree where they do at each member
maps_agree : {X A B C : Type 0} (f : A → C) (g : X → A) (h : B → C) (k : X → B) (xs : List X) → ((x : X) → IsMember xs x → f (g x) ≡ h (k x)) → map f (map g xs) ≡ map h (map k xs)
maps_agree f g h k [] agree = refl
maps_agree f g h k (x ∷ xs) agree = ap₂ (λ c cs. c ∷ cs) (agree x (inl refl)) (maps_agree f g h k xs (λ y later. agree y (inr later)))

module _ {T : Type 0} (rank : T → ℤ) where
  abbrev removal_place : Removal T → ℤ × ℕ
  removal_place removal = (rank removal.at, removal.slot.0)

  removal_before-cmp : (r s : Removal T) → removal_before rank r s ≡ is_lt (removal_cmp (removal_place r) (removal_place s))
  removal_before-cmp r s =
      ap (λ b. int_lt (rank r.at) (rank s.at) || (int_eq (rank r.at) (rank s.at) && b)) (nat_lt-cmp r.slot.0 s.slot.0) ∙ before-then (rank r.at) (rank s.at) (nat_cmp r.slot.0 s.slot.0)

  -- what the sort of removals asks of the order
  pub removal_before-weak : IsStrictWeakOrder (removal_before rank)
  removal_before-weak = subst (λ (lt : Removal T → Removal T → Bool). IsStrictWeakOrder lt) (λ i r s. sym (removal_before-cmp r s) i) (ranks_by removal_cmp-total removal_place)

  -- the same of what comes
  abbrev added_place : Added T → ℤ × List ℕ
  added_place added = (rank added.event.at, added.event.id)

  pub added_before-weak : IsStrictWeakOrder (added_before rank)
  added_before-weak = ranks_by place_cmp-total added_place

  comes_before-added : (a b : Added T) → comes_before (event_of rank a.event) (event_of rank b.event) ≡ added_before rank a b
  unfolding comes_before
  comes_before-added a b = before-then (rank a.event.at) (rank b.event.at) (name_cmp a.event.id b.event.id)

-- ---- the touched identities

-- These are the touched identities, each once, of a walk from the events of a store to a list.
pub record AreTouched {T : Type 0} (rank : T → ℤ) (theory : Theory) (table : List KeptProp) (events : List (Kept T)) (soon : List PlainEvent) (found : List ℕ → Option (Net T)) (entries : List (List ℕ × Net T)) : Type 0 where
  pub nets : IsNetTo rank theory table events soon found
  pub history : IsTrue (is_history soon)
  pub history_now : IsTrue (is_history (history_of rank events))
  pub slots : All (λ kept. event_at kept.0 events ≡ Some kept.1) events
  pub apart : IsPairwise (λ a b. IsFalse (bytes_eq a.0 b.0)) entries
  pub each : (entry : List ℕ × Net T) → IsMember entries entry → found entry.0 ≡ Some entry.1
  pub all : (id : List ℕ) (net : Net T) → found id ≡ Some net → IsMember entries (id, net)

module _ {T : Type 0} {rank : T → ℤ} {theory : Theory} {table : List KeptProp} {events : List (Kept T)} {soon : List PlainEvent} {found : List ℕ → Option (Net T)} {entries : List (List ℕ × Net T)}
    (touched : AreTouched rank theory table events soon found entries) where
  -- each event of the store is the one under its slot
  own_slot : (kept : Kept T) → IsMember events kept → event_at kept.0 events ≡ Some kept.1
  own_slot kept member = All-contains (λ (k : Kept T). event_at k.0 events ≡ Some k.1) events kept touched.slots (Contains-from_member events kept member)

  -- the event of the store with an identity, by its slot
  kept_under : (id : List ℕ) (slot : Slot) → slot_of id events ≡ Some slot → (kept : Kept T) × IsMember events kept × (kept.0 ≡ slot) × (kept.1.id ≡ id)
  kept_under id slot is = by_find (find (λ (k : Kept T). bytes_eq k.1.id id) events) refl is
    where
      by_find : (o : Option (Kept T)) → find (λ (k : Kept T). bytes_eq k.1.id id) events ≡ o → option_map (λ (k : Kept T). k.0) o ≡ Some slot
          → (kept : Kept T) × IsMember events kept × (kept.0 ≡ slot) × (kept.1.id ≡ id)
      by_find None none same = absurd (false≢true (ap is_some same))
      by_find (Some kept) some same =
          let there = find-Some (λ (k : Kept T). bytes_eq k.1.id id) events kept some in
          let own : kept.0 ≡ slot = cc in (kept, there.0, own, (bytes_eq-Decides kept.1.id id).0 there.1)

  module _ (id : List ℕ) (net : Net T) (at : found id ≡ Some net) where
    -- what stands under a touched identity in the store, from its net
    stood_here : (kept : Kept T) → IsMember events kept → kept.1.id ≡ id → kept_in events net.old ≡ Some kept
    stood_here kept member own =
        let slot : net.old ≡ Some kept.0 = (touched.nets.touched id net at).old ∙ ap (λ i. slot_of i events) (sym own) ∙ slot_of-member rank events kept touched.history_now member in
        ap (kept_in events) slot ∙ ap (option_map (λ (event : Event T). (kept.0, event))) (own_slot kept member)

    -- and what the net has is what stands there
    stood_from : (kept : Kept T) → kept_in events net.old ≡ Some kept → IsMember events kept × (kept.1.id ≡ id)
    stood_from kept is = by_slot net.old refl is
      where
        by_slot : (o : Option Slot) → net.old ≡ o → kept_in events o ≡ Some kept → IsMember events kept × (kept.1.id ≡ id)
        by_slot None none given = absurd (false≢true (ap is_some given))
        by_slot (Some slot) some given =
            let there = kept_under id slot (sym (touched.nets.touched id net at).old ∙ some) in
            let same : Some there.0 ≡ Some kept =
            sym (ap (option_map (λ (event : Event T). (slot, event))) (ap (λ s. event_at s events) (sym there.2) ∙ own_slot there.0 there.1)
            ∙ ap (λ s. Some (s, there.0.1)) (sym there.2)) ∙ given in
            let one : there.0 ≡ kept = cc in
            (subst (IsMember events) one there.1, ap (λ (k : Kept T). k.1.id) (sym one) ∙ there.3)

    -- what is put in is the record that stood there where the list to come has that record
    is_back-has_event : (kept : Kept T) → kept.1.id ≡ id → is_back rank kept.1 net.new ≡ has_event soon (plain_of rank kept)
    unfolding event_eq
    is_back-has_event kept own =
        by_new net.new (touched.nets.touched id net at).new
        ∙ sym (has_event-by_found soon (plain_of rank kept) touched.history)
      where
        by_new : (o : Option (Added T)) → added_event rank o ≡ event_with id soon → is_back rank kept.1 o ≡ option_map_or (event_eq (plain_of rank kept)) (event_with kept.1.id soon) false
        by_new None none = ap (λ f. option_map_or (event_eq (plain_of rank kept)) f false) (none ∙ ap (λ i. event_with i soon) (sym own))
        by_new (Some added) some =
            let same : bytes_eq kept.1.id added.event.id ≡ true = (bytes_eq-Decides kept.1.id added.event.id).1 (own ∙ sym (found-id id (event_of rank added.event) soon (sym some))) in
            sym (ap (λ b. b && int_eq (rank kept.1.at) (rank added.event.at) && term_eq kept.1.term added.event.term) same)
            ∙ ap (λ f. option_map_or (event_eq (plain_of rank kept)) f false) (some ∙ ap (λ i. event_with i soon) (sym own))

  -- ---- what goes

  abbrev removals : List (Removal T)
  removals = filter_map (λ (entry : List ℕ × Net T). going rank events entry.1) entries

  -- a removal, with the event that goes
  record IsRemoval (removal : Removal T) : Type 0 where
    entry : List ℕ × Net T
    among : IsMember entries entry
    goes : IsGone rank events entry.1 removal
    stored : IsMember events goes.kept
    own : goes.kept.1.id ≡ entry.0

  removal-from : (removal : Removal T) → IsMember removals removal → IsRemoval removal
  removal-from removal member =
      let from = IsMember-from_filter_map (λ (entry : List ℕ × Net T). going rank events entry.1) entries removal member in
      let goes = gone rank events from.0.1 removal from.2 in
      let stood = stood_from from.0.0 from.0.1 (touched.each from.0 from.1) goes.kept goes.stood in
      record { entry = from.0; among = from.1; goes = goes; stored = stood.0; own = stood.1 }

  -- the event of a slot that goes
  slot-from : (kept : Kept T) → IsMember events kept → has_slot kept.0 removals ≡ true → (net : Net T) × (found kept.1.id ≡ Some net) × (is_back rank kept.1 net.new ≡ false)
  slot-from kept member there =
      let hit = list_any-member (λ (removal : Removal T). removal.slot.0 == kept.0.0) removals there in
      let from = removal-from hit.0 hit.1 in
      let one : from.goes.kept.1 ≡ kept.1 = same_event from.goes.kept from.stored (ap (λ (r : Removal T). r.slot.0) from.goes.removed ∙ eqb-true hit.0.slot.0 kept.0.0 hit.2) in
      (from.entry.1, ap found (ap (λ (e : Event T). e.id) (sym one) ∙ from.own) ∙ touched.each from.entry from.among, subst (λ e. is_back rank e from.entry.1.new ≡ false) one from.goes.other)
    where
      same_event : (other : Kept T) → IsMember events other → other.0.0 ≡ kept.0.0 → other.1 ≡ kept.1
      same_event other stored slots =
          let made : ℕ → Slot = λ n. record { 0 = n } in
          let found_there : Some other.1 ≡ Some kept.1 = sym (own_slot other stored) ∙ ap (λ n. event_at (made n) events) slots ∙ own_slot kept member in cc

  -- an event goes where it does not stand in the list to come
  removed : (kept : Kept T) → IsMember events kept → has_slot kept.0 removals ≡ not (has_event soon (plain_of rank kept))
  removed kept member = by_found (found kept.1.id) refl
    where
      untouched : found kept.1.id ≡ None → has_event soon (plain_of rank kept) ≡ true
      untouched none =
          found-has_event kept.1.id (plain_of rank kept) soon
          (touched.nets.untouched kept.1.id none ∙ event_with-member (history_of rank events) (plain_of rank kept) touched.history_now (IsMember-map (plain_of rank) events kept member))

      by_back : (net : Net T) (b : Bool) → found kept.1.id ≡ Some net → is_back rank kept.1 net.new ≡ b → has_slot kept.0 removals ≡ not b
      by_back net true at back =
          false_from_ne_true (has_slot kept.0 removals)
          (λ there. let from = slot-from kept member there in
          let same : Some from.0 ≡ Some net = sym from.1 ∙ at in
          let one : from.0 ≡ net = cc in
          false≢true (sym from.2 ∙ ap (λ (n : Net T). is_back rank kept.1 n.new) one ∙ back))
      by_back net false at back =
          member-list_any (λ (removal : Removal T). removal.slot.0 == kept.0.0) removals (removal_of kept)
          (IsMember-filter_map (λ (entry : List ℕ × Net T). going rank events entry.1) entries (kept.1.id, net) (removal_of kept) (touched.all kept.1.id net at)
          (going-of rank events net kept (stood_here kept.1.id net at kept member refl) back))
          (eq-eqb kept.0.0 kept.0.0 refl)

      by_found : (o : Option (Net T)) → found kept.1.id ≡ o → has_slot kept.0 removals ≡ not (has_event soon (plain_of rank kept))
      by_found None none =
          false_from_ne_true (has_slot kept.0 removals)
          (λ there. let from = slot-from kept member there in false≢true (ap is_some (sym none ∙ from.1)))
          ∙ ap not (sym (untouched none))
      by_found (Some net) at = by_back net (is_back rank kept.1 net.new) at refl ∙ ap not (is_back-has_event kept.1.id net at kept refl)

  -- each removal has the time of its event
  time_of : (removal : Removal T) → IsMember removals removal → option_map (λ (event : Event T). event.at) (event_at removal.slot events) ≡ Some removal.at
  time_of removal member =
      let from = removal-from removal member in
      subst (λ (r : Removal T). option_map (λ (event : Event T). event.at) (event_at r.slot events) ≡ Some r.at) from.goes.removed
      (ap (option_map (λ (event : Event T). event.at)) (own_slot from.goes.kept from.stored))

  -- no slot goes twice
  slots_apart : IsPairwise (λ r s. IsFalse (r.slot.0 == s.slot.0)) removals
  slots_apart =
      IsPairwise-filter_map (λ (a b : List ℕ × Net T). IsFalse (bytes_eq a.0 b.0)) (λ (r s : Removal T). IsFalse (r.slot.0 == s.slot.0)) (λ (entry : List ℕ × Net T). going rank events entry.1) entries
      touched.apart
      (λ x y r s left right apart first second.
      false_from_ne_true (r.slot.0 == s.slot.0) (λ same. false≢true (sym apart ∙ (bytes_eq-Decides x.0 y.0).1 (identities x y r s left right (gone rank events x.1 r first) (gone rank events y.1 s second) (eqb-true r.slot.0 s.slot.0 same)))))
    where
      identities : (x y : List ℕ × Net T) (r s : Removal T) → IsMember entries x → IsMember entries y → IsGone rank events x.1 r → IsGone rank events y.1 s → r.slot.0 ≡ s.slot.0 → x.0 ≡ y.0
      identities x y r s left right first second same =
          let one = stood_from x.0 x.1 (touched.each x left) first.kept first.stood in
          let two = stood_from y.0 y.1 (touched.each y right) second.kept second.stood in
          let made : ℕ → Slot = λ n. record { 0 = n } in
          let numbers : first.kept.0.0 ≡ second.kept.0.0 = ap (λ (q : Removal T). q.slot.0) first.removed ∙ same ∙ ap (λ (q : Removal T). q.slot.0) (sym second.removed) in
          let events_same : Some first.kept.1 ≡ Some second.kept.1 = sym (own_slot first.kept one.0) ∙ ap (λ n. event_at (made n) events) numbers ∙ own_slot second.kept two.0 in
          let event_same : first.kept.1 ≡ second.kept.1 = cc in
          sym one.1 ∙ ap (λ (e : Event T). e.id) event_same ∙ two.1

  -- ---- what comes

  abbrev additions : List (Added T)
  additions = filter_map (λ (entry : List ℕ × Net T). coming rank events entry.1) entries

  -- an event that comes, with its identity
  record IsAddition (added : Added T) : Type 0 where
    entry : List ℕ × Net T
    among : IsMember entries entry
    new : entry.1.new ≡ Some added
    other : stands_there rank (kept_in events entry.1.old) entry.1.new ≡ false
    found_soon : event_with entry.0 soon ≡ Some (event_of rank added.event)
    own : added.event.id ≡ entry.0

  addition-at : (entry : List ℕ × Net T) (added : Added T) → IsMember entries entry → coming rank events entry.1 ≡ Some added → IsAddition added
  addition-at entry added among is =
      let comes = came rank events entry.1 added is in
      let found_soon : event_with entry.0 soon ≡ Some (event_of rank added.event) =
      sym (touched.nets.touched entry.0 entry.1 (touched.each entry among)).new ∙ ap (added_event rank) comes.0 in
      record { entry = entry; among = among; new = comes.0; other = comes.1; found_soon = found_soon; own = found-id entry.0 (event_of rank added.event) soon found_soon }

  addition-from : (added : Added T) → IsMember additions added → IsAddition added
  addition-from added member =
      let from = IsMember-from_filter_map (λ (entry : List ℕ × Net T). coming rank events entry.1) entries added member in
      addition-at from.0 added from.1 from.2

  -- what comes stands in the list to come, and not in the present one
  added-new : (added : Added T) → IsAddition added → has_event (history_of rank events) (event_of rank added.event) ≡ false
  added-new added is =
      false_from_ne_true (has_event (history_of rank events) (event_of rank added.event))
      (λ there. let from = IsMember-from_map (plain_of rank) events (event_of rank added.event) (IsMember-from_has_event (history_of rank events) (event_of rank added.event) there) in
      let at = touched.each is.entry is.among in
      let own : from.0.1.id ≡ is.entry.0 = ap (λ (e : PlainEvent). e.id) from.2 ∙ is.own in
      false≢true (sym is.other ∙ ap (λ o. stands_there rank o is.entry.1.new) (stood_here is.entry.0 is.entry.1 at from.0 from.1 own)
      ∙ is_back-has_event is.entry.0 is.entry.1 at from.0 own ∙ ap (has_event soon) from.2 ∙ found-has_event is.entry.0 (event_of rank added.event) soon is.found_soon))

  -- each event that stands in the list to come alone comes
  added-all : (e : PlainEvent) → IsMember soon e → has_event (history_of rank events) e ≡ false → (added : Added T) × IsMember additions added × (event_of rank added.event ≡ e)
  added-all e member absent = by_found (found e.id) refl
    where
      there : event_with e.id soon ≡ Some e
      there = event_with-member soon e touched.history member

      other : (net : Net T) → found e.id ≡ Some net → stands_there rank (kept_in events net.old) net.new ≡ false
      other net at = by_kept (kept_in events net.old) refl
        where
          by_kept : (o : Option (Kept T)) → kept_in events net.old ≡ o → stands_there rank o net.new ≡ false
          by_kept None none = refl
          by_kept (Some kept) stood =
              let from = stood_from e.id net at kept stood in
              false_from_ne_true (is_back rank kept.1 net.new)
              (λ back. let in_soon : IsTrue (has_event soon (plain_of rank kept)) = sym (is_back-has_event e.id net at kept from.1) ∙ back in
              let same : Some (plain_of rank kept) ≡ Some e =
              sym (event_with-member soon (plain_of rank kept) touched.history (IsMember-from_has_event soon (plain_of rank kept) in_soon)) ∙ ap (λ i. event_with i soon) from.1 ∙ there in
              let one : plain_of rank kept ≡ e = cc in
              false≢true (sym absent ∙ has_event-member (history_of rank events) e (subst (IsMember (history_of rank events)) one (IsMember-map (plain_of rank) events kept from.0))))

      by_new : (net : Net T) (o : Option (Added T)) → found e.id ≡ Some net → net.new ≡ o → added_event rank o ≡ Some e → (added : Added T) × IsMember additions added × (event_of rank added.event ≡ e)
      by_new net None at new is = absurd (false≢true (ap is_some is))
      by_new net (Some added) at new is =
          let same : event_of rank added.event ≡ e = cc in (
            added,
            IsMember-filter_map (λ (entry : List ℕ × Net T). coming rank events entry.1) entries (e.id, net) added (touched.all e.id net at) (coming-of rank events net added new (other net at)),
            same,
          )

      by_found : (o : Option (Net T)) → found e.id ≡ o → (added : Added T) × IsMember additions added × (event_of rank added.event ≡ e)
      by_found None none =
          absurd (false≢true (sym absent ∙ found-has_event e.id e (history_of rank events) (sym (touched.nets.untouched e.id none) ∙ there)))
      by_found (Some net) at = by_new net net.new at refl ((touched.nets.touched e.id net at).new ∙ there)

  -- no identity comes twice
  identities_apart : IsPairwise (λ a b. IsFalse (bytes_eq a.event.id b.event.id)) additions
  unfolding addition-at
  identities_apart =
      IsPairwise-filter_map (λ (a b : List ℕ × Net T). IsFalse (bytes_eq a.0 b.0)) (λ (a b : Added T). IsFalse (bytes_eq a.event.id b.event.id)) (λ (entry : List ℕ × Net T). coming rank events entry.1) entries
      touched.apart
      (λ x y a b left right apart first second.
      ap₂ bytes_eq (addition-at x a left first).own (addition-at y b right second).own ∙ apart)

  -- ---- the change, in order

  module _ (gone_sorted : List (Removal T)) (come_sorted : List (Added T)) (gone_moved : IsPermutation removals gone_sorted) (come_moved : IsPermutation additions come_sorted)
      (gone_up : IsSortedBy (removal_before rank) gone_sorted) (come_up : IsSortedBy (added_before rank) come_sorted) where
    removals_ascend : IsTrue (is_ascending (removal_before rank) gone_sorted)
    removals_ascend =
        ascending-from_pairwise (removal_before rank) gone_sorted
        (IsPairwise-weaker (λ r s. IsTrue (is_lt (removal_cmp (removal_place rank r) (removal_place rank s)))) (λ r s. IsTrue (removal_before rank r s)) gone_sorted
        (IsPairwise-sorted_by removal_cmp removal_cmp-total (removal_place rank) gone_sorted
        (subst (λ lt. IsSortedBy lt gone_sorted) (λ i r s. removal_before-cmp rank r s i) gone_up)
        (IsPairwise-weaker (λ r s. IsFalse (r.slot.0 == s.slot.0)) (λ r s. removal_cmp (removal_place rank r) (removal_place rank s) ≡ Equal → ⊥) gone_sorted
        (apart_moved (λ (r s : Removal T). r.slot.0 == s.slot.0) (λ r s. eqb_comm r.slot.0 s.slot.0) removals gone_sorted gone_moved slots_apart)
        (λ r s left right apart equal. false≢true (sym apart ∙ eq-eqb r.slot.0 s.slot.0 (nat_cmp-IsAntisymmetric r.slot.0 s.slot.0 (Equal-from_then_last (int_cmp (rank r.at) (rank s.at)) (nat_cmp r.slot.0 s.slot.0) equal))))))
        (λ r s left right before. removal_before-cmp rank r s ∙ before))

    additions_in_order : IsPairwise (λ a b. IsTrue (comes_before (event_of rank a.event) (event_of rank b.event))) come_sorted
    additions_in_order =
        IsPairwise-weaker (λ a b. IsTrue (added_before rank a b)) (λ a b. IsTrue (comes_before (event_of rank a.event) (event_of rank b.event))) come_sorted
        (IsPairwise-sorted_by place_cmp place_cmp-total (added_place rank) come_sorted come_up
        (IsPairwise-weaker (λ a b. IsFalse (bytes_eq a.event.id b.event.id)) (λ a b. place_cmp (added_place rank a) (added_place rank b) ≡ Equal → ⊥) come_sorted
        (apart_moved (λ (a b : Added T). bytes_eq a.event.id b.event.id) (λ a b. bytes_eq_comm a.event.id b.event.id) additions come_sorted come_moved identities_apart)
        (λ a b left right apart equal. false≢true
        (sym apart ∙ (bytes_eq-Decides a.event.id b.event.id).1 (slice_cmp-IsAntisymmetric nat_cmp-IsAntisymmetric a.event.id b.event.id (Equal-from_then_last (int_cmp (rank a.event.at) (rank b.event.at)) _ equal))))))
        (λ a b left right before. comes_before-added rank a b ∙ before)

    -- an event that comes, in order
    moved_addition : (added : Added T) → IsMember come_sorted added → IsAddition added
    moved_addition added member = addition-from added (IsMember-moved_back additions come_sorted added come_moved member)

    events_added : map (event_of rank) (map (λ (a : Added T). a.event) come_sorted) ≡ events_only_in soon (history_of rank events)
    unfolding events_only_in
    events_added =
        same_from_members (λ e f. IsTrue (comes_before e f)) comes_before-itself (λ e f before after. comes_before-itself e (comes_before-trans e f e before after))
        (map (event_of rank) (map (λ (a : Added T). a.event) come_sorted)) (filter (λ e. not (has_event (history_of rank events) e)) soon)
        (IsPairwise-map (λ e f. IsTrue (comes_before e f)) (event_of rank) (map (λ (a : Added T). a.event) come_sorted)
        (IsPairwise-map (λ (d e : Event T). IsTrue (comes_before (event_of rank d) (event_of rank e))) (λ (a : Added T). a.event) come_sorted additions_in_order))
        (IsPairwise-filter (λ e f. IsTrue (comes_before e f)) (λ e. not (has_event (history_of rank events) e)) soon (IsPairwise-from_history soon touched.history))
        into back
      where
        into : (e : PlainEvent) → IsMember (map (event_of rank) (map (λ (a : Added T). a.event) come_sorted)) e → IsMember (filter (λ e. not (has_event (history_of rank events) e)) soon) e
        into e member =
            let event = IsMember-from_map (event_of rank) (map (λ (a : Added T). a.event) come_sorted) e member in
            let added = IsMember-from_map (λ (a : Added T). a.event) come_sorted event.0 event.1 in
            let is = moved_addition added.0 added.1 in
            let same : event_of rank added.0.event ≡ e = ap (event_of rank) added.2 ∙ event.2 in
            subst (IsMember (filter (λ e. not (has_event (history_of rank events) e)) soon)) same
            (IsMember-filter (λ e. not (has_event (history_of rank events) e)) soon (event_of rank added.0.event)
            (found-member is.entry.0 (event_of rank added.0.event) soon is.found_soon) (ap not (added-new added.0 is)))

        back : (e : PlainEvent) → IsMember (filter (λ e. not (has_event (history_of rank events) e)) soon) e → IsMember (map (event_of rank) (map (λ (a : Added T). a.event) come_sorted)) e
        back e member =
            let kept = IsMember-from_filter (λ e. not (has_event (history_of rank events) e)) soon e member in
            let added = added-all e kept.0 (not-true (has_event (history_of rank events) e) kept.1) in
            subst (IsMember (map (event_of rank) (map (λ (a : Added T). a.event) come_sorted))) added.2
            (IsMember-map (event_of rank) (map (λ (a : Added T). a.event) come_sorted) added.0.event
            (IsMember-map (λ (a : Added T). a.event) come_sorted added.0 (IsMember-moved additions come_sorted added.0 come_moved added.1)))

    entries_shown : map (shown_entries table) (map (λ (a : Added T). a.entries) come_sorted) ≡ map (entries_to_show theory) (map (λ (a : Added T). a.event) come_sorted)
    entries_shown =
        maps_agree (shown_entries table) (λ (a : Added T). a.entries) (entries_to_show theory) (λ (a : Added T). a.event) come_sorted
        (λ added member. let is = moved_addition added member in
        let P : Added T → Type 0 = λ a. shown_entries table a.entries ≡ Some (entries_of theory a.event.term) in
        subst (λ o. IfSome o P) is.new (touched.nets.touched is.entry.0 is.entry.1 (touched.each is.entry is.among)).entries)

    -- the lists in order are the change
    pub IsChange-sorted : (change : Change T) → change.remove ≡ gone_sorted → change.add ≡ map (λ added. added.event) come_sorted → change.entries ≡ map (λ added. added.entries) come_sorted
        → IsChange rank theory table events soon change
    IsChange-sorted change removes adds lists = record {
      history = touched.history;
      removed = λ kept among.
          ap (has_slot kept.0) removes ∙ sym (list_any-IsPermutation (λ (removal : Removal T). removal.slot.0 == kept.0.0) removals gone_sorted gone_moved)
          ∙ removed kept (IsMember-from_contains events kept among);
      times = subst (All (λ (removal : Removal T). option_map (λ (event : Event T). event.at) (event_at removal.slot events) ≡ Some removal.at)) (sym removes)
          (All-permutation (λ (removal : Removal T). option_map (λ (event : Event T). event.at) (event_at removal.slot events) ≡ Some removal.at) removals gone_sorted gone_moved
          (λ k d within. time_of (get_or removals k d) (IsMember-from_contains removals (get_or removals k d) (All-contains_itself removals k d within))));
      order = ap (is_ascending (removal_before rank)) removes ∙ removals_ascend;
      added = ap (map (event_of rank)) adds ∙ events_added;
      entries = ap (map (shown_entries table)) lists ∙ entries_shown ∙ ap (map (entries_to_show theory)) (sym adds);
    }

-- ---- the nets of a walk

module _ {T : Type 0} {rank : T → ℤ} {theory : Theory} {table : List KeptProp} {events : List (Kept T)} {soon : List PlainEvent} {S : Type 0} (nets : IndexMap (List ℕ) (Net T) S)
    (unique : IsDistinct bytes_eq (keys_of nets.entries)) (net_to : IsNetTo rank theory table events soon (λ id. net_in id nets)) where
  -- what the nets have at each entry
  net_at : (entry : List ℕ × Net T) → IsMember nets.entries entry → net_in entry.0 nets ≡ Some entry.1
  net_at entry member = lookup-from_Contains nat_list_eq_equiv entry.0 entry.1 nets.entries unique (Contains-from_member nets.entries entry member)

  -- each slot of a net is that of an event
  pub live_slots : All (λ kept. event_at kept.0 events ≡ Some kept.1) events → All (λ (entry : List ℕ × Net T). IfSome entry.1.old (λ slot. IsSome (event_at slot events))) nets.entries
  live_slots slots k d within =
      let entry = get_or nets.entries k d in
      let at = net_at entry (IsMember-from_contains nets.entries entry (All-contains_itself nets.entries k d within)) in
      by_slot entry.0 entry.1.old (net_to.touched entry.0 entry.1 at).old
    where
      by_slot : (id : List ℕ) (o : Option Slot) → o ≡ slot_of id events → IfSome o (λ slot. IsSome (event_at slot events))
      by_slot id None is = tt
      by_slot id (Some slot) is = ap is_some (stored_event rank events id slot slots (sym is)).1

  -- the touched identities, from the last to the first
  pub AreTouched-nets : IsTrue (is_history soon) → IsTrue (is_history (history_of rank events)) → All (λ kept. event_at kept.0 events ≡ Some kept.1) events
      → AreTouched rank theory table events soon (λ id. net_in id nets) (reverse nets.entries)
  AreTouched-nets history now slots = record {
    nets = net_to;
    history = history;
    history_now = now;
    slots = slots;
    apart = apart_moved (λ (a b : List ℕ × Net T). bytes_eq a.0 b.0) (λ a b. bytes_eq_comm a.0 b.0) nets.entries (reverse nets.entries) (IsPermutation-reverse nets.entries)
        (IsPairwise-from_map (λ a b. IsFalse (bytes_eq a b)) (λ (entry : List ℕ × Net T). entry.0) nets.entries (IsPairwise-from_distinct bytes_eq (keys_of nets.entries) unique));
    each = λ entry member. net_at entry (IsMember-moved_back nets.entries (reverse nets.entries) entry (IsPermutation-reverse nets.entries) member);
    all = λ id net is.
        IsMember-moved nets.entries (reverse nets.entries) (id, net) (IsPermutation-reverse nets.entries)
        (IsMember-from_contains nets.entries (id, net) (Contains-from_lookup (λ a b. (bytes_eq-Decides a b).0) id net nets.entries is));
  }
