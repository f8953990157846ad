-- The hits by slots and places are the entries of kept events that see a change.
use Rattle.std.proofs.Common.{◌≡◌, ℕ, ℤ, pos, ◌+ℤ◌, suc, Bool, true, false, not, ◌&&◌, List, [], ◌∷◌, length, filter, Option, Some, None, is_some, IsTrue, IsFalse, refl, sym, ap, subst, ◌∙◌, inl, inr}
use Rattle.std.specs.Prelude.{◌==◌, option_map, option_and_then, slice_get, unwrap_or}
use Rattle.std.specs.List.{list_any}
use Rattle.std.specs.Option.{option_map_or}
use Rattle.std.specs.Ordering.{int_eq}
use Rattle.std.proofs.lemmas.Bool.{and_from, and_parts, eq-eqb, eqb-true, false≢true, false_from_ne_true, not-false}
use Rattle.std.proofs.lemmas.List.Elements.{All-contains}
use Rattle.ec_lists.proofs.Integers.{int_eq-is, int_eq-same}
use Rattle.ec_terms.specs.declared.ids.PropId.{PropId}
use Rattle.ec_terms.specs.declared.ids.Slot.{Slot}
use Rattle.ec_terms.specs.declared.ground.Ground.{Ground}
use Rattle.ec_terms.specs.declared.theory.Theory.{Theory}
use Rattle.ec_axioms.specs.declared.event.Event.{Event}
use Rattle.ec_axioms.specs.Calculus.{PlainEvent, Effect, effects_of}
use Rattle.ec_axioms.specs.Changes.{event_eq, has_event, is_history, kept_events}
use Rattle.ec_axioms.specs.Events.{event_of}
use Rattle.ec_axioms.specs.Plain.{events_at}
use Rattle.ec_axioms.proofs.Members.{Contains-from_member, IsMember, IsMember-filter, IsMember-from_contains, IsMember-from_filter, IsPairwise, list_any-member, member-list_any, IsMember-slice_get}
use Rattle.ec_changes.specs.Differences.{entries_at, reads}
use Rattle.ec_changes.specs.Turns.{ListsSeen, same_entry, sees}
use Rattle.ec_changes.proofs.Activity.{event-effects_of}
use Rattle.ec_changes.proofs.DistinctLists.{IsDistinct-from_pairwise, IsPairwise-from_distinct}
use Rattle.ec_changes.proofs.JoinedMembers.{IsMember-flat_map, IsMember-from_flat_map}
use Rattle.ec_changes.proofs.KeptEvents.{event_eq-is}
use Rattle.ec_numbered.specs.Due.{Due, has_due}
use Rattle.ec_store.specs.Table.{KeptProp, prop_of, term_at}
use Rattle.ec_store.proofs.EventLemmas.{kept_under}
use Rattle.ec_store.specs.Store.{Kept, event_at, history_of, plain_of}
use Rattle.ec_numbered.specs.PropSet.{has_number}
use Rattle.ec_entries.specs.declared.event_entries.Dependent.{Dependent}
use Rattle.ec_entries.specs.Dependents.{dependent_at, dependent_if}
use Rattle.ec_parts.specs.declared.tally.Tally.{Tally}
use Rattle.ec_parts.specs.StandFor.{View}
use Rattle.ec_revise.specs.declared.change.Change.{Change}
use Rattle.ec_revise.specs.declared.change.Removal.{Removal}
use Rattle.ec_revise.specs.Change.{has_slot}
use Rattle.ec_revise.specs.ShownTurns.{FindsItsTerms}
use Rattle.ec_revise.specs.Sweep.{Found}
use Rattle.ec_revise.proofs.Looking.{HitsAreSeen-law, same_entry-itself}
use Rattle.ec_delta.specs.declared.delta.Looked.{Looked}
use Rattle.ec_delta.specs.declared.delta.Planned.{Planned}
use Rattle.ec_sweep.specs.declared.hits.Hit.{Hit}
use Rattle.ec_sweep.specs.declared.progress.Progress.{Progress}
use Rattle.ec_sweep.specs.State.{DirtyRows, dirty_at, found_by, keeps}
use Rattle.ec_sweep.specs.Visiting.{CanLook}
use Rattle.ec_sweep.specs.Hits.{AreHits, depends_at, depends_on_due, is_hit, same_hit}
use Rattle.ec_sweep.proofs.HitEntries.{hit-by}
use Rattle.ec_parts.proofs.LinksByNumber.{IsOneToOne, term_at-prop_of}
use Rattle.ec_lists.proofs.Tests.{list_any-filter_none}
use Rattle.ec_sweep.proofs.PlacesApart.{places_apart, slots_apart}
use Rattle.ec_sweep.proofs.ReadingEntries.{AreAtSlots, StandsAt, StandsAt-member, dependent-kept, dependent-reads, event-member, reads-dependent}
use Rattle.ec_sweep.proofs.KeptTerms.{prop_of-term_at}

-- ---- hits and effects, one by one

-- an effect is the entry that a hit names
pub record IsEffectOf {T : Type 0} (rank : T → ℤ) (theory : Theory) (events : List (Kept T)) (hit : Hit) (effect : Effect) : Type 0 where
  pub event : Event T
  pub there : event_at hit.slot events ≡ Some event
  pub at_place : slice_get (effects_of theory (event_of rank event)) hit.place ≡ Some effect

-- effects are those of hits, one by one
abbrev pub AreEffectsOf : {T : Type 0} → (T → ℤ) → Theory → List (Kept T) → List Hit → List Effect → Type 0
AreEffectsOf rank theory events [] [] = Unit {0}
AreEffectsOf rank theory events [] (effect ∷ effects) = ⊥
AreEffectsOf rank theory events (hit ∷ hits) [] = ⊥
AreEffectsOf rank theory events (hit ∷ hits) (effect ∷ effects) = IsEffectOf rank theory events hit effect × AreEffectsOf rank theory events hits effects

module _ {T : Type 0} (rank : T → ℤ) (theory : Theory) (events : List (Kept T)) where
  -- a hit has one effect
  pub one_effect : (hit : Hit) (e f : Effect) → IsEffectOf rank theory events hit e → IsEffectOf rank theory events hit f → e ≡ f
  one_effect hit e f first second =
      let same : first.event ≡ second.event = ap (λ o. unwrap_or o first.event) (sym first.there ∙ second.there) in
      ap (λ o. unwrap_or o e) (sym first.at_place ∙ ap (λ ev. slice_get (effects_of theory (event_of rank ev)) hit.place) same ∙ second.at_place)

  -- where each hit has an effect, there are effects of all
  pub effects_of_hits : (hits : List Hit) → ((hit : Hit) → IsMember hits hit → (effect : Effect) × IsEffectOf rank theory events hit effect)
      → (effects : List Effect) × AreEffectsOf rank theory events hits effects
  effects_of_hits [] each = ([], tt)
  effects_of_hits (hit ∷ hits) each =
      let first = each hit (inl refl) in
      let rest = effects_of_hits hits (λ h later. each h (inr later)) in (first.0 ∷ rest.0, (first.1, rest.1))

  -- as many
  pub length-effects : (hits : List Hit) (effects : List Effect) → AreEffectsOf rank theory events hits effects → length hits ≡ length effects
  length-effects [] [] are = refl
  length-effects [] (effect ∷ effects) are = absurd are
  length-effects (hit ∷ hits) [] are = absurd are
  length-effects (hit ∷ hits) (effect ∷ effects) are = ap suc (length-effects hits effects are.1)

  -- each effect is of a hit
  pub hit-of_effect : (hits : List Hit) (effects : List Effect) → AreEffectsOf rank theory events hits effects → (effect : Effect) → IsMember effects effect
      → (hit : Hit) × IsMember hits hit × IsEffectOf rank theory events hit effect
  hit-of_effect [] [] are effect member = absurd member
  hit-of_effect [] (e ∷ effects) are effect member = absurd are
  hit-of_effect (hit ∷ hits) [] are effect member = absurd are
  hit-of_effect (hit ∷ hits) (e ∷ effects) are effect (inl same) = (hit, inl refl, subst (IsEffectOf rank theory events hit) same are.0)
  hit-of_effect (hit ∷ hits) (e ∷ effects) are effect (inr later) =
      let found = hit-of_effect hits effects are.1 effect later in (found.0, inr found.1, found.2)

  -- and each hit has an effect
  pub effect-of_hit : (hits : List Hit) (effects : List Effect) → AreEffectsOf rank theory events hits effects → (hit : Hit) → IsMember hits hit
      → (effect : Effect) × IsMember effects effect × IsEffectOf rank theory events hit effect
  effect-of_hit [] effects are hit member = absurd member
  effect-of_hit (h ∷ hits) [] are hit member = absurd are
  effect-of_hit (h ∷ hits) (e ∷ effects) are hit (inl same) = (e, inl refl, subst (λ g. IsEffectOf rank theory events g e) same are.0)
  effect-of_hit (h ∷ hits) (e ∷ effects) are hit (inr later) =
      let found = effect-of_hit hits effects are.1 hit later in (found.0, inr found.1, found.2)

  -- what is the same entry is named by the same hit
  pub same_place : IsTrue (is_history (history_of rank events)) → (a b : Hit) (e f : Effect) → IsEffectOf rank theory events a e → IsEffectOf rank theory events b f
      → IsTrue (same_entry e f) → IsTrue (same_hit a b)
  unfolding same_entry
  same_place history a b e f of_a of_b same =
      let parts = and_parts (event_eq e.event f.event) (e.entry.rule == f.entry.rule) same in
      let events_same : event_of rank of_a.event ≡ event_of rank of_b.event =
      sym (event-at_place a e of_a) ∙ event_eq-is e.event f.event parts.0 ∙ event-at_place b f of_b in
      let slots = slots_apart rank events history a.slot b.slot of_a.event of_b.event of_a.there of_b.there events_same in
      let places = places_apart theory (event_of rank of_b.event) a.place b.place e f
      (subst (λ g. slice_get (effects_of theory g) a.place ≡ Some e) events_same of_a.at_place) of_b.at_place (eqb-true e.entry.rule f.entry.rule parts.1) in
      and_from (a.slot.0 == b.slot.0) (a.place == b.place) (eq-eqb a.slot.0 b.slot.0 slots) (eq-eqb a.place b.place places)
    where
      event-at_place : (h : Hit) (g : Effect) (of_h : IsEffectOf rank theory events h g) → g.event ≡ event_of rank of_h.event
      event-at_place h g of_h = event-effects_of theory (event_of rank of_h.event) g (IsMember-slice_get (effects_of theory (event_of rank of_h.event)) h.place g of_h.at_place)

  -- so effects of distinct hits are distinct
  pub effects-apart : IsTrue (is_history (history_of rank events)) → (hits : List Hit) (effects : List Effect) → AreEffectsOf rank theory events hits effects
      → IsPairwise (λ a b. IsFalse (same_hit a b)) hits → IsPairwise (λ e f. IsFalse (same_entry e f)) effects
  effects-apart history [] [] are pairs = tt
  effects-apart history [] (e ∷ effects) are pairs = absurd are
  effects-apart history (h ∷ hits) [] are pairs = absurd are
  effects-apart history (h ∷ hits) (e ∷ effects) are pairs = (
    λ f later.
        let found = hit-of_effect hits effects are.1 f later in
        false_from_ne_true (same_entry e f) (λ same. false≢true (sym (pairs.0 found.0 found.1) ∙ same_place history h found.0 e f are.0 found.2 same)),
    effects-apart history hits effects are.1 pairs.1,
  )

-- ---- the hits of a visit

-- the number of a kept term leads back to it, and the other way
pub finds_terms : (table : List KeptProp) → IsOneToOne table → FindsItsTerms table
finds_terms table one n p there = prop_of-term_at table n p one.in_order there

module _ {T : Type 0} (rank : T → ℤ) (theory : Theory) (new : List PlainEvent) (view : View T) (tally : Tally) (change : Change T) (r t : ℤ) (dirty : DirtyRows)
    (agenda : List (Due T)) (due : List PropId) (looked : Looked) (planned : Planned T) (active : Effect → Bool) (progress : Progress)
    (can : CanLook rank theory new view tally change r t dirty agenda due looked planned active progress) (one : IsOneToOne view.table) (slots : AreAtSlots view.store.events)
    (removals : List (Removal T)) (removals_are : removals ≡ filter (λ (removal : Removal T). int_eq (rank removal.at) t) change.remove) (hits : List Hit)
    (are : AreHits rank view.entries.slots t dirty due removals hits) where
  -- the list of the store
  abbrev old : List PlainEvent
  old = history_of rank view.store.events

  -- what is found before the visit
  abbrev found : Found
  found = found_by rank view.table dirty agenda looked planned active

  -- an event under a slot at the instant that is not to be taken out stands in the new list
  pub stays-new : (slot : Slot) (event : Event T) → event_at slot view.store.events ≡ Some event → rank event.at ≡ t → has_slot slot removals ≡ false
      → IsTrue (has_event new (event_of rank event))
  stays-new slot event there here stays =
      let k = kept_under view.store.events slot event there in
      let told = can.underway.change_is.removed k.0 (Contains-from_member view.store.events k.0 k.1) in
      let missing : has_slot k.0.0 change.remove ≡ false =
      ap (λ n. list_any (λ (removal : Removal T). removal.slot.0 == n) change.remove) k.2 ∙ false_from_ne_true (has_slot slot change.remove) (λ goes. false≢true (sym stays ∙ goes_here goes)) in
      ap (λ e. has_event new (event_of rank e)) (sym k.3) ∙ not-false (has_event new (plain_of rank k.0)) (sym told ∙ missing)
    where
      goes_here : has_slot slot change.remove ≡ true → has_slot slot removals ≡ true
      goes_here goes =
          let found = list_any-member (λ (removal : Removal T). removal.slot.0 == slot.0) change.remove goes in
          let time = All-contains (λ (removal : Removal T). option_map (λ (e : Event T). e.at) (event_at removal.slot view.store.events) ≡ Some removal.at) change.remove found.0
          can.underway.change_is.times (Contains-from_member change.remove found.0 found.1) in
          let same : found.0.slot.0 ≡ slot.0 = eqb-true found.0.slot.0 slot.0 found.2 in
          let at : found.0.at ≡ event.at =
          sym
          (ap (λ o. unwrap_or o found.0.at)
          (sym (ap (λ n. option_map (λ (e : Event T). e.at) (event_at (record { 0 = n }) view.store.events)) same ∙ ap (option_map (λ (e : Event T). e.at)) there) ∙ time)) in
          ap (has_slot slot) removals_are
          ∙ member-list_any (λ (removal : Removal T). removal.slot.0 == slot.0) (filter (λ (removal : Removal T). int_eq (rank removal.at) t) change.remove) found.0
          (IsMember-filter (λ (removal : Removal T). int_eq (rank removal.at) t) change.remove found.0 found.1
          (ap (λ u. int_eq u t) (ap rank at ∙ here) ∙ int_eq-same t))
          found.2

  -- and one of the new list is not to be taken out, at no instant
  pub new-stays_ever : (slot : Slot) (event : Event T) → event_at slot view.store.events ≡ Some event → IsTrue (has_event new (event_of rank event)) → has_slot slot change.remove ≡ false
  new-stays_ever slot event there kept =
      let k = kept_under view.store.events slot event there in
      let told = can.underway.change_is.removed k.0 (Contains-from_member view.store.events k.0 k.1) in
      ap (λ n. list_any (λ (removal : Removal T). removal.slot.0 == n) change.remove) (sym k.2) ∙ told ∙ ap not (ap (λ e. has_event new (event_of rank e)) k.3 ∙ kept)

  pub new-stays : (slot : Slot) (event : Event T) → event_at slot view.store.events ≡ Some event → IsTrue (has_event new (event_of rank event)) → has_slot slot removals ≡ false
  new-stays slot event there kept =
      ap (has_slot slot) removals_are
      ∙ list_any-filter_none (λ (removal : Removal T). removal.slot.0 == slot.0) (λ (removal : Removal T). int_eq (rank removal.at) t) change.remove (new-stays_ever slot event there kept)

  -- the entry of a hit is of a kept event there, and sees a change
  pub record IsSeenBy (hit : Hit) (effect : Effect) : Type 0 where
    pub of_hit : IsEffectOf rank theory view.store.events hit effect
    pub kept : IsMember (entries_at theory (kept_events old new) t) effect
    pub seen : IsTrue (sees theory old new effect)

  -- an entry of a kept event at the instant
  kept-member : (event : Event T) (place : ℕ) (effect : Effect) (slot : Slot) → event_at slot view.store.events ≡ Some event → rank event.at ≡ t
      → slice_get (effects_of theory (event_of rank event)) place ≡ Some effect → IsTrue (has_event new (event_of rank event))
      → IsMember (entries_at theory (kept_events old new) t) effect
  unfolding kept_events
  kept-member event place effect slot there here at_place stays =
      IsMember-flat_map (effects_of theory) (events_at t (filter (has_event new) old)) (event_of rank event) effect
      (IsMember-filter (λ (e : PlainEvent). int_eq e.rank t) (filter (has_event new) old) (event_of rank event)
      (IsMember-filter (has_event new) old (event_of rank event) (event-member rank view.store.events slot event there) stays)
      (ap (λ u. int_eq u t) here ∙ int_eq-same t))
      (IsMember-slice_get (effects_of theory (event_of rank event)) place effect at_place)

  pub hit-effect : (hit : Hit) → IsMember hits hit → (effect : Effect) × IsSeenBy hit effect
  hit-effect hit member =
      let by = hit-by rank view.entries.slots t dirty due removals hits are hit member in
      let dependent = depends_on (dependent_at by.prop.0 view.entries.slots hit.slot.0 hit.place) by.depends in
      let entries = can.underway.both.caches.entries_of in
      let finds = finds_terms view.table one in
      let known = dependent-kept rank theory old view.table view.store view.entries entries hit.slot.0 hit.place by.prop.0 dependent.0 dependent.1 in
      let reading = reads-dependent rank theory old view.table view.store view.entries entries finds by.prop.0 known.0 known.1 hit.slot.0 hit.place dependent.0 dependent.1 in
      let here : rank reading.event.at ≡ t = ap (λ (d : Dependent T). rank d.at) (sym reading.dependent_is) ∙ int_eq-is (rank dependent.0.at) t dependent.2 in
      let member_there = kept-member reading.event hit.place reading.effect hit.slot reading.there here reading.at_place
      (stays-new hit.slot reading.event reading.there here by.stays) in (
        reading.effect,
        record {
          of_hit = record { event = reading.event; there = reading.there; at_place = reading.at_place };
          kept = member_there;
          seen =
              (HitsAreSeen-law theory old new (keeps view.table) r found reading.effect can.swept
              (Contains-from_member (entries_at theory (kept_events old new) (r +ℤ pos 1)) reading.effect (subst (λ u. IsMember (entries_at theory (kept_events old new) u) reading.effect) can.next member_there))).1 (
                known.0,
                ap (λ o. is_some (option_and_then (λ (id : ℕ). dirty_at id dirty) o)) (finds by.prop.0 known.0 known.1) ∙ by.dirty_there,
                ap (λ o. option_map_or (λ id. has_due rank (r +ℤ pos 1) id agenda) o false) (finds by.prop.0 known.0 known.1)
                    ∙ ap (λ u. has_due rank u by.prop.0 agenda) (sym can.next)
                    ∙ sym (can.due_is by.prop.0)
                    ∙ member-list_any (λ (p : PropId). p.0 == by.prop.0) due by.prop by.due_there (eq-eqb by.prop.0 by.prop.0 refl),
                reading.reading,
              );
        },
      )
    where
      depends_on : (o : Option (Dependent T)) → option_map_or (λ (d : Dependent T). int_eq (rank d.at) t) o false ≡ true
          → (d : Dependent T) × (o ≡ Some d) × (int_eq (rank d.at) t ≡ true)
      depends_on None none = absurd (false≢true none)
      depends_on (Some d) there = (d, refl, there)

  -- and each entry of a kept event there that sees a change is that of a hit
  pub seen-hit : (effect : Effect) → IsMember (entries_at theory (kept_events old new) t) effect → IsTrue (sees theory old new effect)
      → (hit : Hit) × IsMember hits hit × IsEffectOf rank theory view.store.events hit effect
  unfolding kept_events
  seen-hit effect member seeing =
      let hit_of =
      (HitsAreSeen-law theory old new (keeps view.table) r found effect can.swept
      (Contains-from_member (entries_at theory (kept_events old new) (r +ℤ pos 1)) effect (subst (λ u. IsMember (entries_at theory (kept_events old new) u) effect) can.next member))).0 seeing in
      let id = some_number (prop_of hit_of.0 view.table) hit_of.1 in
      let known = term_at-prop_of view.table hit_of.0 id.0 one id.1 in
      let dirty_there : is_some (dirty_at id.0 dirty) ≡ true = ap (λ o. is_some (option_and_then (λ (n : ℕ). dirty_at n dirty) o)) (sym id.1) ∙ hit_of.1 in
      let due_there : has_number id.0 due ≡ true =
      can.due_is id.0 ∙ ap (λ u. has_due rank u id.0 agenda) can.next
      ∙ ap (λ o. option_map_or (λ n. has_due rank (r +ℤ pos 1) n agenda) o false) (sym id.1) ∙ hit_of.2 in
      let at = IsMember-from_flat_map (effects_of theory) (events_at t (filter (has_event new) old)) effect member in
      let present = IsMember-from_filter (λ (e : PlainEvent). int_eq e.rank t) (filter (has_event new) old) at.0 at.1 in
      let kept = IsMember-from_filter (has_event new) old at.0 present.0 in
      let stands = StandsAt-member rank theory view.store.events slots at.0 effect kept.0 at.2 in
      named effect stands.0 (sym (ap (λ (e : PlainEvent). e.rank) (sym stands.1)) ∙ int_eq-is at.0.rank t present.1) (ap (has_event new) stands.1 ∙ kept.1)
      id.0 hit_of.0 known dirty_there due_there hit_of.3
    where
      some_number : (o : Option ℕ) → is_some (option_and_then (λ (n : ℕ). dirty_at n dirty) o) ≡ true → (n : ℕ) × (o ≡ Some n)
      some_number None none = absurd (false≢true none)
      some_number (Some n) there = (n, refl)

      named : (effect : Effect) (stands : StandsAt rank theory view.store.events effect) → rank stands.event.at ≡ t → IsTrue (has_event new (event_of rank stands.event)) → (n : ℕ) (p : Ground)
          → term_at n view.table ≡ Some p → is_some (dirty_at n dirty) ≡ true → has_number n due ≡ true → IsTrue (reads p effect)
          → (hit : Hit) × IsMember hits hit × IsEffectOf rank theory view.store.events hit effect
      named effect stands here stays n p known dirty_there due_there reading =
          let made = dependent-reads rank theory (history_of rank view.store.events) view.table view.store view.entries can.underway.both.caches.entries_of (finds_terms view.table one) n p known
          stands.slot stands.event stands.place effect stands.there stands.at_place ∙ ap (λ (on : Bool). dependent_if on stands.event.at stands.slot.0 stands.place) reading in
          let depends : depends_at rank view.entries.slots t stands.slot.0 stands.place n ≡ true =
          ap (λ o. option_map_or (λ (d : Dependent T). int_eq (rank d.at) t) o false) made ∙ ap (λ u. int_eq u t) here ∙ int_eq-same t in
          let prop = list_any-member (λ (q : PropId). q.0 == n) due due_there in
          let is_prop : prop.0.0 ≡ n = eqb-true prop.0.0 n prop.2 in
          let on_due : depends_on_due rank view.entries.slots t dirty due stands.slot.0 stands.place ≡ true =
          member-list_any (λ (q : PropId). is_some (dirty_at q.0 dirty) && depends_at rank view.entries.slots t stands.slot.0 stands.place q.0) due prop.0 prop.1
          (subst (λ m. (is_some (dirty_at m dirty) && depends_at rank view.entries.slots t stands.slot.0 stands.place m) ≡ true) (sym is_prop)
          (and_from (is_some (dirty_at n dirty)) (depends_at rank view.entries.slots t stands.slot.0 stands.place n) dirty_there depends)) in
          let hit = list_any-member (is_hit stands.slot.0 stands.place) hits
          (are.hit stands.slot.0 stands.place
          ∙ and_from (not (has_slot stands.slot removals)) (depends_on_due rank view.entries.slots t dirty due stands.slot.0 stands.place)
          (ap not (new-stays stands.slot stands.event stands.there stays)) on_due) in
          let places = and_parts (hit.0.slot.0 == stands.slot.0) (hit.0.place == stands.place) hit.2 in
          let slot_is : hit.0.slot.0 ≡ stands.slot.0 = eqb-true hit.0.slot.0 stands.slot.0 places.0 in
          let place_is : hit.0.place ≡ stands.place = eqb-true hit.0.place stands.place places.1 in (
            hit.0,
            hit.1,
            record {
              event = stands.event;
              there = ap (λ m. event_at (record { 0 = m }) view.store.events) slot_is ∙ stands.there;
              at_place = ap (slice_get (effects_of theory (event_of rank stands.event))) place_is ∙ stands.at_place;
            },
          )

  -- So the effects of the hits are the list of what sees a change at the instant.
  pub hits-seen : (seen : List Effect) → AreEffectsOf rank theory view.store.events hits seen → ListsSeen theory old new t seen
  unfolding same_entry
  hits-seen seen of_hits = record {
    once =
        IsDistinct-from_pairwise same_entry seen
        (effects-apart rank theory view.store.events can.underway.both.caches.history hits seen of_hits (IsPairwise-from_distinct same_hit hits are.once));
    kept = λ effect contained.
        let hit = hit-of_effect rank theory view.store.events hits seen of_hits effect (IsMember-from_contains seen effect contained) in
        let other = hit-effect hit.0 hit.1 in
        let same = one_effect rank theory view.store.events hit.0 effect other.0 hit.2 other.1.of_hit in (
          Contains-from_member (entries_at theory (kept_events old new) t) effect (subst (IsMember (entries_at theory (kept_events old new) t)) (sym same) other.1.kept),
          subst (λ e. IsTrue (sees theory old new e)) (sym same) other.1.seen,
        );
    all = λ effect contained seeing.
        let hit = seen-hit effect (IsMember-from_contains (entries_at theory (kept_events old new) t) effect contained) seeing in
        let other = effect-of_hit rank theory view.store.events hits seen of_hits hit.0 hit.1 in
        member-list_any (same_entry effect) seen other.0 other.1 (subst (λ e. IsTrue (same_entry effect e)) (one_effect rank theory view.store.events hit.0 effect other.0 hit.2 other.2) (same_entry-itself effect));
  }
