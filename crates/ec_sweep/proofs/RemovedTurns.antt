-- The turns of the events that are taken out at an instant, in the order of their removal and in that of the list.
use Rattle.std.proofs.Common.{◌≡◌, ℕ, ℤ, ◌+◌, zero, Bool, true, false, not, ◌&&◌, ◌||◌, List, [], ◌∷◌, filter, flat_map, map, length, Option, Some, None, IsTrue, refl, sym, ap, subst, ◌∙◌, inl, inr, ⊎_elim, arith}
use Rattle.std.specs.Prelude.{◌==◌, int_lt, nat_lt, option_map, slice_get, unwrap_or}
use Rattle.std.specs.Ordering.{int_eq}
use Rattle.std.proofs.lemmas.Bool.{eq-eqb, eqb-true}
use Rattle.std.proofs.lemmas.Int.{ints}
use Rattle.std.proofs.lemmas.List.{map-append}
use Rattle.std.proofs.lemmas.List.Elements.{All-contains, filter-append}
use Rattle.std.proofs.lemmas.Option.{none-some}
use Rattle.ec_lists.proofs.Integers.{int_eq-is, int_eq-same}
use Rattle.ec_rows.proofs.OrderedPairs.{IsPairwise-ascending}
use Rattle.ec_terms.specs.declared.ids.PropId.{PropId}
use Rattle.ec_terms.specs.declared.theory.Theory.{Theory}
use Rattle.ec_terms.specs.Domain.{entries_of}
use Rattle.ec_axioms.specs.declared.event.Event.{Event}
use Rattle.ec_axioms.specs.Calculus.{Effect, PlainEvent, effects_of}
use Rattle.ec_axioms.specs.Changes.{comes_before, events_only_in, has_event}
use Rattle.ec_axioms.specs.Events.{event_of}
use Rattle.ec_axioms.specs.Plain.{events_at}
use Rattle.ec_axioms.proofs.Members.{Contains-from_member, IsMember, IsMember-filter, IsMember-from_filter, IsMember-from_map, IsMember-map, IsPairwise, IsPairwise-filter, IsPairwise-weaker, list_any-member, member-list_any}
use Rattle.ec_numbered.specs.Due.{Due}
use Rattle.ec_changes.specs.Differences.{entries_at}
use Rattle.ec_changes.proofs.KeptEvents.{IsPairwise-from_history, comes_before-itself}
use Rattle.ec_changes.proofs.Tallies.{length-filter-flat_map}
use Rattle.ec_store.specs.Store.{Kept, event_at, history_of, plain_of}
use Rattle.ec_store.proofs.EventLemmas.{kept_under}
use Rattle.ec_numbered.specs.ByNumber.{kept_at}
use Rattle.ec_parts.specs.declared.tally.Tally.{Tally}
use Rattle.ec_parts.specs.Activity.{is_bit_set}
use Rattle.ec_entries.specs.declared.event_entries.EventEntries.{EventEntries}
use Rattle.ec_delta.specs.Looked.{active_of}
use Rattle.ec_parts.specs.StandFor.{View}
use Rattle.ec_parts.proofs.LinksByNumber.{IsOneToOne}
use Rattle.ec_revise.specs.declared.change.Change.{Change}
use Rattle.ec_revise.specs.declared.change.Removal.{Removal}
use Rattle.ec_revise.specs.Change.{has_slot, removal_before}
use Rattle.ec_revise.specs.ShownTurns.{AreShown}
use Rattle.ec_revise.specs.Visit.{turn_to}
use Rattle.ec_delta.specs.declared.delta.Looked.{Looked}
use Rattle.ec_delta.specs.declared.delta.Planned.{Planned}
use Rattle.ec_sweep.specs.declared.progress.Progress.{Progress}
use Rattle.ec_sweep.specs.Acting.{down_turns, removed_turns}
use Rattle.ec_sweep.specs.State.{DirtyRows}
use Rattle.ec_sweep.specs.Visiting.{CanLook}
use Rattle.ec_sweep.proofs.HitActivity.{was-found}
use Rattle.ec_sweep.proofs.HitTurns.{AreShown-append}
use Rattle.ec_sweep.proofs.PlainTurns.{turns_from-shown}
use Rattle.ec_sweep.proofs.PlacesApart.{slots_apart}
use Rattle.ec_sweep.proofs.ReadingEntries.{AreAtSlots, effect_by, entered-event}
use Rattle.ec_sweep.proofs.SameMembers.{AreApart, sum-same_members}

-- the effects of an event are its entries, each with it
effects-made : (theory : Theory) (e : PlainEvent) → effects_of theory e ≡ map (effect_by e) (entries_of theory e.term)
unfolding effects_of
effects-made theory e = refl

-- an event, if there is one, in front of others
abbrev with_event_at : {T : Type 0} → (T → ℤ) → Option (Event T) → List PlainEvent → List PlainEvent
with_event_at rank None es = es
with_event_at rank (Some event) es = event_of rank event ∷ es

-- the events under the slots of removals
abbrev pub removed_events : {T : Type 0} → (T → ℤ) → List (Kept T) → List (Removal T) → List PlainEvent
removed_events rank events [] = []
removed_events rank events (removal ∷ removals) = with_event_at rank (event_at removal.slot events) (removed_events rank events removals)

module _ {T : Type 0} (rank : T → ℤ) (theory : Theory) (new : List PlainEvent) (view : View T) (tally : Tally) (change : Change T) (r t : ℤ) (dirty : DirtyRows)
    (agenda : List (Due T)) (due : List PropId) (looked : Looked) (planned : Planned T) (active : Effect → Bool) (progress : Progress)
    (can : CanLook rank theory new view tally change r t dirty agenda due looked planned active progress) (one : IsOneToOne view.table) (slots : AreAtSlots view.store.events)
    (removals : List (Removal T)) (removals_are : removals ≡ filter (λ (removal : Removal T). int_eq (rank removal.at) t) change.remove) where
  -- the list of the store
  abbrev old : List PlainEvent
  old = history_of rank view.store.events

  -- a removal at the instant has an event there
  record IsRemoved (removal : Removal T) : Type 0 where
    listed : IsMember change.remove removal
    event : Event T
    there : event_at removal.slot view.store.events ≡ Some event
    at : event.at ≡ removal.at
    here : rank event.at ≡ t

  removed : (removal : Removal T) → IsMember removals removal → IsRemoved removal
  removed removal member =
      let found = IsMember-from_filter (λ (s : Removal T). int_eq (rank s.at) t) change.remove removal (subst (λ rs. IsMember rs removal) removals_are member) in
      let time = All-contains (λ (s : Removal T). option_map (λ (e : Event T). e.at) (event_at s.slot view.store.events) ≡ Some s.at) change.remove removal
      can.underway.change_is.times (Contains-from_member change.remove removal found.0) in
      of found.0 (int_eq-is (rank removal.at) t found.1) (event_at removal.slot view.store.events) refl time
    where
      of : IsMember change.remove removal → rank removal.at ≡ t → (o : Option (Event T)) → event_at removal.slot view.store.events ≡ o
          → option_map (λ (e : Event T). e.at) (event_at removal.slot view.store.events) ≡ Some removal.at → IsRemoved removal
      of listed here None none time = absurd (none-some removal.at (sym (ap (option_map (λ (e : Event T). e.at)) none) ∙ time))
      of listed here (Some event) there time =
          let at : event.at ≡ removal.at = ap (λ o. unwrap_or o event.at) (sym (ap (option_map (λ (e : Event T). e.at)) there) ∙ time) in
          record { listed = listed; event = event; there = there; at = at; here = ap rank at ∙ here }

  -- ---- the turns, in the order of removals

  -- those of one event
  down-shown : (removal : Removal T) (is : IsRemoved removal)
      → AreShown view.table view.neighbours.rows (down_turns (kept_at removal.slot.0 view.entries.slots)) (map (turn_to (λ _. false)) (filter active (effects_of theory (event_of rank is.event))))
  down-shown removal is =
      let kept = entered-event rank theory old view.table view.store view.entries can.underway.both.caches.entries_of removal.slot is.event is.there in
      subst (λ o. AreShown view.table view.neighbours.rows (down_turns o) (map (turn_to (λ _. false)) (filter active (effects_of theory (event_of rank is.event))))) (sym kept.1)
      (subst (λ es. AreShown view.table view.neighbours.rows (down_turns (Some kept.0)) (map (turn_to (λ _. false)) (filter active es))) (sym (effects-made theory (event_of rank is.event)))
      (turns_from-shown theory view.table view.neighbours can.underway.both.tables.added active kept.0.active zero (event_of rank is.event) kept.0.list (entries_of theory is.event.term) kept.2.entries
      (λ k effect at_place.
      let there : slice_get (effects_of theory (event_of rank is.event)) k ≡ Some effect = ap (λ es. slice_get es k) (effects-made theory (event_of rank is.event)) ∙ at_place in
      sym
      (was-found rank theory new view tally change r t dirty agenda due looked planned active progress can one (record { slot = removal.slot; place = k }) effect
      (record { event = is.event; there = is.there; at_place = there }) is.here)
      ∙ ap (λ o. bit o k) kept.1
      ∙ ap (is_bit_set kept.0.active) (start k))))
    where
      start : (k : ℕ) → k ≡ zero + k
      start k = omega arith

      bit : Option (EventEntries T) → ℕ → Bool
      bit o k = is_bit_set (active_of o) k

  -- those of all
  pub removed-shown : AreShown view.table view.neighbours.rows (removed_turns view.entries.slots removals)
      (map (turn_to (λ _. false)) (filter active (flat_map (effects_of theory) (removed_events rank view.store.events removals))))
  removed-shown = all removals (λ removal member. removed removal member)
    where
      all : (rs : List (Removal T)) → ((removal : Removal T) → IsMember rs removal → IsRemoved removal)
          → AreShown view.table view.neighbours.rows (removed_turns view.entries.slots rs) (map (turn_to (λ _. false)) (filter active (flat_map (effects_of theory) (removed_events rank view.store.events rs))))
      all [] each = tt
      all (removal ∷ rs) each =
          let is = each removal (inl refl) in
          let first = effects_of theory (event_of rank is.event) in
          let more = flat_map (effects_of theory) (removed_events rank view.store.events rs) in
          subst (λ o. AreShown view.table view.neighbours.rows (removed_turns view.entries.slots (removal ∷ rs)) (map (turn_to (λ _. false)) (filter active (flat_map (effects_of theory) (with_event_at rank o (removed_events rank view.store.events rs))))))
          (sym is.there)
          (subst (λ plains. AreShown view.table view.neighbours.rows (removed_turns view.entries.slots (removal ∷ rs)) plains)
          (sym (map-append (turn_to (λ _. false)) (filter active first) (filter active more)) ∙ ap (map (turn_to (λ _. false))) (sym (filter-append active first more)))
          (AreShown-append view.table view.neighbours.rows (down_turns (kept_at removal.slot.0 view.entries.slots)) (removed_turns view.entries.slots rs)
          (map (turn_to (λ _. false)) (filter active first)) (map (turn_to (λ _. false)) (filter active more))
          (down-shown removal is) (all rs (λ s later. each s (inr later)))))

  -- ---- the same events as in the order of the list

  -- an event under the slot of a removal
  removed-member : (rs : List (Removal T)) (e : PlainEvent) → IsMember (removed_events rank view.store.events rs) e
      → (removal : Removal T) × IsMember rs removal × ((event : Event T) × (event_at removal.slot view.store.events ≡ Some event) × (event_of rank event ≡ e))
  removed-member [] e member = absurd member
  removed-member (removal ∷ rs) e member = of (λ there. let found = removed-member rs e there in (found.0, inr found.1, found.2)) (event_at removal.slot view.store.events) refl member
    where
      of : (IsMember (removed_events rank view.store.events rs) e → (s : Removal T) × IsMember (removal ∷ rs) s × ((event : Event T) × (event_at s.slot view.store.events ≡ Some event) × (event_of rank event ≡ e)))
          → (o : Option (Event T)) → event_at removal.slot view.store.events ≡ o → IsMember (with_event_at rank (event_at removal.slot view.store.events) (removed_events rank view.store.events rs)) e
          → (s : Removal T) × IsMember (removal ∷ rs) s × ((event : Event T) × (event_at s.slot view.store.events ≡ Some event) × (event_of rank event ≡ e))
      of later None none there = later (subst (λ o. IsMember (with_event_at rank o (removed_events rank view.store.events rs)) e) none there)
      of later (Some event) some there =
          ⊎_elim (λ same. (removal, inl refl, (event, some, same))) (λ behind. later behind)
          (subst (λ o. IsMember (with_event_at rank o (removed_events rank view.store.events rs)) e) some there)

  -- and the other way
  member-removed : (rs : List (Removal T)) (removal : Removal T) (event : Event T) → IsMember rs removal → event_at removal.slot view.store.events ≡ Some event
      → IsMember (removed_events rank view.store.events rs) (event_of rank event)
  member-removed [] removal event member there = absurd member
  member-removed (s ∷ rs) removal event (inl same) there =
      subst (λ o. IsMember (with_event_at rank o (removed_events rank view.store.events rs)) (event_of rank event)) (sym (ap (λ (x : Removal T). event_at x.slot view.store.events) same ∙ there)) (inl refl)
  member-removed (s ∷ rs) removal event (inr later) there = of (event_at s.slot view.store.events) (member-removed rs removal event later there)
    where
      of : (o : Option (Event T)) → IsMember (removed_events rank view.store.events rs) (event_of rank event)
          → IsMember (with_event_at rank o (removed_events rank view.store.events rs)) (event_of rank event)
      of None behind = behind
      of (Some other) behind = inr behind

  -- removals in order have events that are apart
  removed-apart : (rs : List (Removal T)) → ((removal : Removal T) → IsMember rs removal → IsRemoved removal) → IsPairwise (λ a b. IsTrue (removal_before rank a b)) rs
      → AreApart (removed_events rank view.store.events rs)
  removed-apart [] each pairs = tt
  removed-apart (removal ∷ rs) each pairs =
      let is = each removal (inl refl) in
      subst (λ o. AreApart (with_event_at rank o (removed_events rank view.store.events rs))) (sym is.there) (
        λ e member same.
            let found = removed-member rs e member in
            let other = each found.0 (inr found.1) in
            let slots_same = slots_apart rank view.store.events can.underway.both.caches.history removal.slot found.0.slot is.event found.2.0 is.there found.2.1 (same ∙ sym found.2.2) in
            never (rank removal.at) (rank found.0.at) removal.slot.0 found.0.slot.0 (ap rank (sym is.at) ∙ is.here ∙ sym other.here ∙ ap rank other.at) slots_same (pairs.0 found.0 found.1),
        removed-apart rs (λ s later. each s (inr later)) pairs.1,
      )
    where
      never : (u v : ℤ) (m n : ℕ) → u ≡ v → m ≡ n → (int_lt u v || (int_eq u v && nat_lt m n)) ≡ true → ⊥
      never u v m n times numbers before = grind (arith, ints)

  -- the removed events of the list at the instant
  abbrev gone : List PlainEvent
  gone = events_at t (events_only_in old new)

  gone-apart : AreApart gone
  unfolding events_only_in
  gone-apart =
      IsPairwise-weaker (λ e f. IsTrue (comes_before e f)) (λ e f. e ≡ f → ⊥) gone
      (IsPairwise-filter (λ e f. IsTrue (comes_before e f)) (λ (e : PlainEvent). int_eq e.rank t) (filter (λ e. not (has_event new e)) old)
      (IsPairwise-filter (λ e f. IsTrue (comes_before e f)) (λ e. not (has_event new e)) old (IsPairwise-from_history old can.underway.both.caches.history)))
      (λ e f left right before same. comes_before-itself f (subst (λ g. IsTrue (comes_before g f)) same before))

  into-gone : (e : PlainEvent) → IsMember (removed_events rank view.store.events removals) e → IsMember gone e
  unfolding events_only_in
  into-gone e member =
      let found = removed-member removals e member in
      let is = removed found.0 found.1 in
      let k = kept_under view.store.events found.0.slot found.2.0 found.2.1 in
      let told = can.underway.change_is.removed k.0 (Contains-from_member view.store.events k.0 k.1) in
      let goes : has_slot k.0.0 change.remove ≡ true =
      member-list_any (λ (s : Removal T). s.slot.0 == k.0.0.0) change.remove found.0 is.listed (eq-eqb found.0.slot.0 k.0.0.0 (sym k.2)) in
      let event_is : plain_of rank k.0 ≡ e = ap (event_of rank) k.3 ∙ found.2.2 in
      let same : is.event ≡ found.2.0 = ap (λ o. unwrap_or o is.event) (sym is.there ∙ found.2.1) in
      IsMember-filter (λ (f : PlainEvent). int_eq f.rank t) (filter (λ f. not (has_event new f)) old) e
      (IsMember-filter (λ f. not (has_event new f)) old e (subst (IsMember old) event_is (IsMember-map (plain_of rank) view.store.events k.0 k.1))
      (ap (λ f. not (has_event new f)) (sym event_is) ∙ sym told ∙ goes))
      (ap (λ u. int_eq u t) (ap (λ (f : PlainEvent). f.rank) (sym found.2.2) ∙ ap (λ (f : Event T). rank f.at) (sym same) ∙ is.here) ∙ int_eq-same t)

  from-gone : (e : PlainEvent) → IsMember gone e → IsMember (removed_events rank view.store.events removals) e
  unfolding events_only_in
  from-gone e member =
      let at = IsMember-from_filter (λ (f : PlainEvent). int_eq f.rank t) (filter (λ f. not (has_event new f)) old) e member in
      let gone_there = IsMember-from_filter (λ f. not (has_event new f)) old e at.0 in
      let k = IsMember-from_map (plain_of rank) view.store.events e gone_there.0 in
      let there = All-contains (λ (m : Kept T). event_at m.0 view.store.events ≡ Some m.1) view.store.events k.0 slots (Contains-from_member view.store.events k.0 k.1) in
      let told = can.underway.change_is.removed k.0 (Contains-from_member view.store.events k.0 k.1) in
      let removal = list_any-member (λ (s : Removal T). s.slot.0 == k.0.0.0) change.remove (told ∙ ap (λ f. not (has_event new f)) k.2 ∙ gone_there.1) in
      let under : event_at removal.0.slot view.store.events ≡ Some k.0.1 =
      ap (λ n. event_at (record { 0 = n }) view.store.events) (eqb-true removal.0.slot.0 k.0.0.0 removal.2) ∙ there in
      let time = All-contains (λ (s : Removal T). option_map (λ (f : Event T). f.at) (event_at s.slot view.store.events) ≡ Some s.at) change.remove removal.0
      can.underway.change_is.times (Contains-from_member change.remove removal.0 removal.1) in
      let same_time : k.0.1.at ≡ removal.0.at = ap (λ o. unwrap_or o k.0.1.at) (sym (ap (option_map (λ (f : Event T). f.at)) under) ∙ time) in
      let listed : IsMember removals removal.0 =
      subst (λ rs. IsMember rs removal.0) (sym removals_are)
      (IsMember-filter (λ (s : Removal T). int_eq (rank s.at) t) change.remove removal.0 removal.1
      (ap (λ u. int_eq u t) (ap rank (sym same_time) ∙ ap (λ (f : PlainEvent). f.rank) k.2) ∙ at.1)) in
      subst (IsMember (removed_events rank view.store.events removals)) k.2 (member-removed removals removal.0 k.0.1 listed under)

  -- so as many of their entries pass any test
  pub removed-count : (test : Effect → Bool)
      → length (filter test (flat_map (effects_of theory) (removed_events rank view.store.events removals))) ≡ length (filter test (entries_at theory (events_only_in old new) t))
  removed-count test =
      length-filter-flat_map test (effects_of theory) (removed_events rank view.store.events removals)
      ∙ sum-same_members (λ e. length (filter test (effects_of theory e))) (removed_events rank view.store.events removals) gone
      (removed-apart removals (λ removal member. removed removal member)
      (subst (λ rs. IsPairwise (λ a b. IsTrue (removal_before rank a b)) rs) (sym removals_are)
      (IsPairwise-filter (λ a b. IsTrue (removal_before rank a b)) (λ (removal : Removal T). int_eq (rank removal.at) t) change.remove
      (IsPairwise-ascending (removal_before rank) change.remove can.underway.change_is.order))))
      gone-apart into-gone from-gone
      ∙ sym (length-filter-flat_map test (effects_of theory) gone)
