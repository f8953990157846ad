-- The bits of slots show which entries of the store's events are active once an instant was looked at.
use Rattle.std.proofs.Common.{◌≡◌, ℕ, ℤ, ◌≤ℤ◌, Bool, true, false, not, ◌&&◌, List, filter, find, ◌++◌, Option, Some, None, is_some, IsTrue, IsFalse, refl, sym, ap, subst, ◌∙◌, ⊎_elim, arith}
use Rattle.std.specs.Prelude.{◌==◌, option_map, slice_get, unwrap_or}
use Rattle.std.specs.List.{All, list_any}
use Rattle.std.specs.Ordering.{int_eq}
use Rattle.std.proofs.lemmas.Bool.{and_from, and_parts, cases_Bool, cond-true, cond-false, eq-eqb, eqb-true, false≢true, false_from_ne_true}
use Rattle.std.proofs.lemmas.Int.{ints}
use Rattle.std.proofs.lemmas.List.Elements.{All-append, All-contains, All-weaker}
use Rattle.std.proofs.lemmas.Option.{none-some}
use Rattle.ec_rows.proofs.OrderedPairs.{IsPairwise-ascending, ascending-from_pairwise}
use Rattle.ec_terms.specs.declared.ids.PropId.{PropId}
use Rattle.ec_terms.specs.declared.ids.Slot.{Slot}
use Rattle.ec_terms.specs.declared.theory.Theory.{Theory}
use Rattle.ec_axioms.specs.declared.event.Event.{Event}
use Rattle.ec_axioms.specs.Calculus.{Effect, PlainEvent, effects_of}
use Rattle.ec_axioms.specs.Changes.{has_event}
use Rattle.ec_axioms.specs.Events.{event_of}
use Rattle.ec_axioms.proofs.Members.{Contains-from_member, IsMember, find-None, list_any-member, member-list_any, IsMember-slice_get}
use Rattle.ec_numbered.specs.Due.{Due}
use Rattle.ec_changes.specs.Turns.{same_entry}
use Rattle.ec_changes.proofs.Activity.{event-effects_of}
use Rattle.ec_changes.proofs.KeptEvents.{has_event-member}
use Rattle.ec_changes.proofs.Hits.{IsPairwise-append}
use Rattle.ec_store.specs.Store.{event_at, history_of}
use Rattle.ec_numbered.specs.ByNumber.{kept_at}
use Rattle.ec_parts.specs.declared.tally.Tally.{Tally}
use Rattle.ec_parts.specs.Activity.{is_bit_set}
use Rattle.ec_parts.specs.StandFor.{View}
use Rattle.ec_parts.proofs.LinksByNumber.{IsOneToOne}
use Rattle.ec_parts.proofs.Waiting.{All-from_members}
use Rattle.ec_revise.specs.declared.change.Change.{Change}
use Rattle.ec_revise.specs.declared.change.Removal.{Removal}
use Rattle.ec_revise.specs.Change.{has_slot}
use Rattle.ec_delta.specs.declared.delta.Looked.{Looked}
use Rattle.ec_delta.specs.declared.delta.Planned.{Planned}
use Rattle.ec_delta.specs.declared.flips.Flip.{Flip}
use Rattle.ec_delta.specs.Looked.{active_found, active_of, are_apart, flip_at}
use Rattle.ec_sweep.specs.declared.hits.Hit.{Hit}
use Rattle.ec_sweep.specs.declared.progress.Progress.{Progress}
use Rattle.ec_sweep.specs.Acting.{FlipsHits, acts_at, has_hit_in}
use Rattle.ec_sweep.specs.Hits.{AreHits, has_hit, is_hit}
use Rattle.ec_sweep.specs.State.{DirtyRows, is_current_over}
use Rattle.ec_sweep.specs.Visiting.{CanLook}
use Rattle.ec_sweep.proofs.HitActivity.{acts-found, no_flip_yet}
use Rattle.ec_sweep.proofs.HitEffects.{AreEffectsOf, IsEffectOf, effect-of_hit, hit-of_effect, new-stays_ever, one_effect, same_place}
use Rattle.ec_sweep.proofs.LookedActivity.{active_then, hit-rank, kept-has_event, seen-kept, seen-rank, then-other, then-seen}
use Rattle.ec_sweep.proofs.NowActive.{active_found-first, active_found-second, none_of_added}
use Rattle.ec_sweep.proofs.ReadingEntries.{AreAtSlots, event-member}

module _ {T : Type 0} (rank : T → ℤ) (theory : Theory) (new : List PlainEvent) (view : View T) (tally : Tally) (change : Change T) (r t : ℤ) (dirty : DirtyRows)
    (agenda : List (Due T)) (due : List PropId) (looked : Looked) (planned : Planned T) (active : Effect → Bool) (progress : Progress)
    (can : CanLook rank theory new view tally change r t dirty agenda due looked planned active progress) (one : IsOneToOne view.table) (slots : AreAtSlots view.store.events)
    (removals : List (Removal T)) (removals_are : removals ≡ filter (λ (removal : Removal T). int_eq (rank removal.at) t) change.remove) (hits : List Hit)
    (are : AreHits rank view.entries.slots t dirty due removals hits) (seen : List Effect) (of_hits : AreEffectsOf rank theory view.store.events hits seen)
    (after : Looked) (flips : FlipsHits (is_current_over rank view.points dirty) t view.entries.slots hits looked.flips after.flips) where
  -- what is active then
  abbrev active_after : Effect → Bool
  active_after = active_then rank theory new view tally change r t dirty agenda due looked planned active progress can one slots removals removals_are hits are seen of_hits

  -- the entry at a place of a slot, as a hit
  abbrev place_of : Slot → ℕ → Hit
  place_of slot k = record { slot = slot; place = k }

  -- a slot with a hit has an event at the instant, and an entry of it sees a change
  record IsHitSlot (slot : Slot) : Type 0 where
    event : Event T
    effect : Effect
    there : event_at slot view.store.events ≡ Some event
    member : IsMember seen effect
    of_event : effect.event ≡ event_of rank event
    here : rank event.at ≡ t

  hit-slot : (slot : Slot) → IsTrue (has_hit_in slot.0 hits) → IsHitSlot slot
  hit-slot slot some =
      let hit = list_any-member (λ (h : Hit). h.slot.0 == slot.0) hits some in
      let effect = effect-of_hit rank theory view.store.events hits seen of_hits hit.0 hit.1 in
      record {
        event = effect.2.event;
        effect = effect.0;
        there = ap (λ n. event_at (record { 0 = n }) view.store.events) (sym (eqb-true hit.0.slot.0 slot.0 hit.2)) ∙ effect.2.there;
        member = effect.1;
        of_event = event-effects_of theory (event_of rank effect.2.event) effect.0 (IsMember-slice_get (effects_of theory (event_of rank effect.2.event)) hit.0.place effect.0 effect.2.at_place);
        here = hit-rank rank theory new view tally change r t dirty agenda due looked planned active progress can one slots removals removals_are hits are seen of_hits hit.0 effect.0 effect.2 effect.1;
      }

  -- a slot has one event
  one_event : (slot : Slot) (e f : Event T) → event_at slot view.store.events ≡ Some e → event_at slot view.store.events ≡ Some f → e ≡ f
  one_event slot e f first second = ap (λ o. unwrap_or o e) (sym first ∙ second)

  -- the entry at a place with a hit sees a change
  hit-effect_at : (slot : Slot) (k : ℕ) → has_hit slot.0 k hits ≡ true → (effect : Effect) × IsMember seen effect × IsEffectOf rank theory view.store.events (place_of slot k) effect
  hit-effect_at slot k some =
      let hit = list_any-member (is_hit slot.0 k) hits some in
      let places = and_parts (hit.0.slot.0 == slot.0) (hit.0.place == k) hit.2 in
      let effect = effect-of_hit rank theory view.store.events hits seen of_hits hit.0 hit.1 in (
        effect.0,
        effect.1,
        record {
          event = effect.2.event;
          there = ap (λ n. event_at (record { 0 = n }) view.store.events) (sym (eqb-true hit.0.slot.0 slot.0 places.0)) ∙ effect.2.there;
          at_place = ap (slice_get (effects_of theory (event_of rank effect.2.event))) (sym (eqb-true hit.0.place k places.1)) ∙ effect.2.at_place;
        },
      )

  -- at a place without a hit the bit is as it was
  bit-stays : (slot : Slot) (event : Event T) (k : ℕ) → event_at slot view.store.events ≡ Some event → has_hit slot.0 k hits ≡ false
      → is_bit_set (active_found slot after.flips (kept_at slot.0 view.entries.slots)) k ≡ is_bit_set (active_found slot looked.flips (kept_at slot.0 view.entries.slots)) k
  bit-stays slot event k there none = ap (λ fs. is_bit_set (active_found slot fs (kept_at slot.0 view.entries.slots)) k) flips.are ∙ of (flip_at slot flips.added) refl
    where
      of : (o : Option ℕ) → flip_at slot flips.added ≡ o
          → is_bit_set (active_found slot (looked.flips ++ flips.added) (kept_at slot.0 view.entries.slots)) k ≡ is_bit_set (active_found slot looked.flips (kept_at slot.0 view.entries.slots)) k
      of None missing = ap (λ w. is_bit_set w k) (active_found-first slot looked.flips flips.added (kept_at slot.0 view.entries.slots) missing)
      of (Some word) some =
          let at = hit-slot slot (flips.of_hits slot (ap is_some some)) in
          let here : rank event.at ≡ t = ap (λ (e : Event T). rank e.at) (one_event slot event at.event there at.there) ∙ at.here in
          let missing = no_flip_yet rank theory new view tally change r t dirty agenda due looked planned active progress can one slot event there here in
          ap (λ w. is_bit_set w k) (active_found-second slot looked.flips flips.added (kept_at slot.0 view.entries.slots) missing)
          ∙ flips.bits slot k
          ∙ cond-false (has_hit slot.0 k hits) (acts_at (is_current_over rank view.points dirty) t view.entries.slots (place_of slot k)) (is_bit_set (active_of (kept_at slot.0 view.entries.slots)) k) none
          ∙ ap (λ o. is_bit_set (unwrap_or o (active_of (kept_at slot.0 view.entries.slots))) k) (sym missing)

  -- at a place with one it is as the entry acts
  pub stored-then : (slot : Slot) (event : Event T) (k : ℕ) (effect : Effect) → event_at slot view.store.events ≡ Some event → slice_get (effects_of theory (event_of rank event)) k ≡ Some effect
      → active_after effect ≡ is_bit_set (active_found slot after.flips (kept_at slot.0 view.entries.slots)) k
  stored-then slot event k effect there at_place = ⊎_elim hit no_hit (cases_Bool (has_hit slot.0 k hits))
    where
      mine : IsEffectOf rank theory view.store.events (place_of slot k) effect
      mine = record { event = event; there = there; at_place = at_place }

      hit : has_hit slot.0 k hits ≡ true → active_after effect ≡ is_bit_set (active_found slot after.flips (kept_at slot.0 view.entries.slots)) k
      hit some =
          let found = hit-effect_at slot k some in
          let member : IsMember seen effect = subst (IsMember seen) (one_effect rank theory view.store.events (place_of slot k) found.0 effect found.2 mine) found.1 in
          let here = hit-rank rank theory new view tally change r t dirty agenda due looked planned active progress can one slots removals removals_are hits are seen of_hits (place_of slot k) effect mine member in
          let missing = no_flip_yet rank theory new view tally change r t dirty agenda due looked planned active progress can one slot event there here in
          then-seen rank theory new view tally change r t dirty agenda due looked planned active progress can one slots removals removals_are hits are seen of_hits effect member
          ∙ sym
          (acts-found rank theory new view tally change r t dirty agenda due looked planned active progress can one (place_of slot k) effect mine
          (seen-rank rank theory new view tally change r t dirty agenda due looked planned active progress can one slots removals removals_are hits are seen of_hits effect member))
          ∙ sym
          (cond-true (has_hit slot.0 k hits) (acts_at (is_current_over rank view.points dirty) t view.entries.slots (place_of slot k)) (is_bit_set (active_of (kept_at slot.0 view.entries.slots)) k) some)
          ∙ sym (flips.bits slot k)
          ∙ sym (ap (λ w. is_bit_set w k) (active_found-second slot looked.flips flips.added (kept_at slot.0 view.entries.slots) missing))
          ∙ sym (ap (λ fs. is_bit_set (active_found slot fs (kept_at slot.0 view.entries.slots)) k) flips.are)

      turned_hit : (h : Hit) → ((slot.0 == h.slot.0) && (k == h.place)) ≡ true → is_hit slot.0 k h ≡ true
      turned_hit h same =
          let parts = and_parts (slot.0 == h.slot.0) (k == h.place) same in
          and_from (h.slot.0 == slot.0) (h.place == k) (eq-eqb h.slot.0 slot.0 (sym (eqb-true slot.0 h.slot.0 parts.0))) (eq-eqb h.place k (sym (eqb-true k h.place parts.1)))

      no_hit : has_hit slot.0 k hits ≡ false → active_after effect ≡ is_bit_set (active_found slot after.flips (kept_at slot.0 view.entries.slots)) k
      no_hit none =
          then-other rank theory new view tally change r t dirty agenda due looked planned active progress can one slots removals removals_are hits are seen of_hits effect
          (false_from_ne_true (list_any (same_entry effect) seen)
          (λ some.
          let other = list_any-member (same_entry effect) seen some in
          let h = hit-of_effect rank theory view.store.events hits seen of_hits other.0 other.1 in
          let same = same_place rank theory view.store.events can.underway.both.caches.history (place_of slot k) h.0 effect other.0 mine h.2 other.2 in
          false≢true (sym none ∙ member-list_any (is_hit slot.0 k) hits h.0 h.1 (turned_hit h.0 same))))
          (none_of_added theory (history_of rank view.store.events) new t effect
          (has_event-member (history_of rank view.store.events) effect.event
          (subst (IsMember (history_of rank view.store.events))
          (sym (event-effects_of theory (event_of rank event) effect (IsMember-slice_get (effects_of theory (event_of rank event)) k effect at_place)))
          (event-member rank view.store.events slot event there))))
          ∙ can.shows.stored slot event k effect there at_place
          ∙ sym (bit-stays slot event k there none)

  -- behind the entries no bit is set
  pub stored_whole-then : (slot : Slot) (event : Event T) (k : ℕ) → event_at slot view.store.events ≡ Some event → slice_get (effects_of theory (event_of rank event)) k ≡ None
      → is_bit_set (active_found slot after.flips (kept_at slot.0 view.entries.slots)) k ≡ false
  stored_whole-then slot event k there nothing =
      bit-stays slot event k there
      (false_from_ne_true (has_hit slot.0 k hits)
      (λ some.
      let found = hit-effect_at slot k some in
      none-some found.0
      (sym nothing ∙ ap (λ e. slice_get (effects_of theory (event_of rank e)) k) (one_event slot event found.2.event there found.2.there) ∙ found.2.at_place)))
      ∙ can.shows.stored_whole slot event k there nothing

  -- ---- new bits

  -- those of a slot are of a slot with a hit
  flip-slot : (flip : Flip) → IsMember flips.added flip → IsHitSlot flip.slot
  flip-slot flip member = hit-slot flip.slot (flips.of_hits flip.slot (some (find (λ (f : Flip). f.slot.0 == flip.slot.0) flips.added) refl))
    where
      some : (o : Option Flip) → find (λ (f : Flip). f.slot.0 == flip.slot.0) flips.added ≡ o → is_some (option_map (λ (f : Flip). f.active) o) ≡ true
      some None none = absurd (false≢true (sym (find-None (λ (f : Flip). f.slot.0 == flip.slot.0) flips.added flip none member) ∙ eq-eqb flip.slot.0 flip.slot.0 refl))
      some (Some f) found = refl

  later : (s : ℤ) → s ≤ℤ r → s ≤ℤ t
  later s early = let next = can.next in omega (arith, ints)

  pub flipped-then : All (λ (flip : Flip). (event : Event T) × (event_at flip.slot view.store.events ≡ Some event) × (rank event.at ≤ℤ t)) after.flips
  flipped-then =
      subst (All (λ (flip : Flip). (event : Event T) × (event_at flip.slot view.store.events ≡ Some event) × (rank event.at ≤ℤ t))) (sym flips.are)
      (All-append (λ (flip : Flip). (event : Event T) × (event_at flip.slot view.store.events ≡ Some event) × (rank event.at ≤ℤ t)) looked.flips flips.added
      (All-weaker (λ (flip : Flip). (event : Event T) × (event_at flip.slot view.store.events ≡ Some event) × (rank event.at ≤ℤ r))
      (λ (flip : Flip). (event : Event T) × (event_at flip.slot view.store.events ≡ Some event) × (rank event.at ≤ℤ t))
      (λ flip early. (early.0, early.1, later (rank early.0.at) early.2)) looked.flips can.shows.flipped)
      (All-from_members (λ (flip : Flip). (event : Event T) × (event_at flip.slot view.store.events ≡ Some event) × (rank event.at ≤ℤ t)) flips.added
      (λ flip member. let at = flip-slot flip member in (at.event, at.there, up_to (rank at.event.at) at.here))))
    where
      up_to : (s : ℤ) → s ≡ t → s ≤ℤ t
      up_to s here = omega (arith, ints)

  pub stayed-then : All (λ (flip : Flip). IsFalse (has_slot flip.slot change.remove)) after.flips
  stayed-then =
      subst (All (λ (flip : Flip). IsFalse (has_slot flip.slot change.remove))) (sym flips.are)
      (All-append (λ (flip : Flip). IsFalse (has_slot flip.slot change.remove)) looked.flips flips.added can.shows.stayed
      (All-from_members (λ (flip : Flip). IsFalse (has_slot flip.slot change.remove)) flips.added
      (λ flip member.
      let at = flip-slot flip member in
      let kept = seen-kept rank theory new view tally change r t dirty agenda due looked planned active progress can one slots removals removals_are hits are seen of_hits at.effect at.member in
      new-stays_ever rank theory new view tally change r t dirty agenda due looked planned active progress can one slots removals removals_are hits are flip.slot at.event at.there
      (ap (has_event new) (sym at.of_event) ∙ (kept-has_event theory (history_of rank view.store.events) new t at.effect kept).1))))

  pub apart-then : IsTrue (are_apart after.flips)
  apart-then =
      subst (λ fs. IsTrue (are_apart fs)) (sym flips.are)
      (ascending-from_pairwise (λ (f g : Flip). not (f.slot.0 == g.slot.0)) (looked.flips ++ flips.added)
      (IsPairwise-append (λ (f g : Flip). IsTrue (not (f.slot.0 == g.slot.0))) looked.flips flips.added
      (IsPairwise-ascending (λ (f g : Flip). not (f.slot.0 == g.slot.0)) looked.flips can.shows.apart)
      (IsPairwise-ascending (λ (f g : Flip). not (f.slot.0 == g.slot.0)) flips.added flips.apart)
      (λ f g left right.
      ap not
      (false_from_ne_true (f.slot.0 == g.slot.0)
      (λ same.
      let early = All-contains (λ (flip : Flip). (event : Event T) × (event_at flip.slot view.store.events ≡ Some event) × (rank event.at ≤ℤ r)) looked.flips f can.shows.flipped
      (Contains-from_member looked.flips f left) in
      let at = flip-slot g right in
      let there : event_at f.slot view.store.events ≡ Some at.event =
      ap (λ n. event_at (record { 0 = n }) view.store.events) (eqb-true f.slot.0 g.slot.0 same) ∙ at.there in
      let one_time : rank early.0.at ≡ t = ap (λ (e : Event T). rank e.at) (one_event f.slot early.0 at.event early.1 there) ∙ at.here in
      never (rank early.0.at) one_time early.2)))))
    where
      never : (s : ℤ) → s ≡ t → s ≤ℤ r → ⊥
      never s here early = let next = can.next in omega (arith, ints)
