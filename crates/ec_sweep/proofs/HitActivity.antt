-- Whether an entry of a hit is active, by numbers and by terms.
use Rattle.std.proofs.Common.{◌≡◌, ℕ, ℤ, ◌≤ℤ◌, Bool, false, List, find, Option, Some, None, refl, sym, ap, ap₂, subst, ◌∙◌, arith}
use Rattle.std.specs.Prelude.{◌==◌, option_map, option_and_then, slice_get, unwrap_or}
use Rattle.std.specs.Option.{option_map_or}
use Rattle.std.proofs.lemmas.Bool.{eqb-true}
use Rattle.std.proofs.lemmas.Int.{ints}
use Rattle.std.proofs.lemmas.List.Elements.{All-contains}
use Rattle.ec_terms.specs.declared.ids.PropId.{PropId}
use Rattle.ec_terms.specs.declared.ids.Slot.{Slot}
use Rattle.ec_terms.specs.declared.theory.Theory.{Theory}
use Rattle.ec_axioms.specs.declared.event.Event.{Event}
use Rattle.ec_axioms.specs.Calculus.{PlainEvent, Effect, is_active}
use Rattle.ec_axioms.specs.Marks.{current_after, last_mark_before}
use Rattle.ec_axioms.proofs.HistoryLaws.{CurrencyIsOfTheLastMark-law}
use Rattle.ec_axioms.proofs.Members.{Contains-from_member, find-Some}
use Rattle.ec_numbered.specs.Due.{Due}
use Rattle.ec_store.specs.Store.{event_at, history_of}
use Rattle.ec_numbered.specs.ByNumber.{kept_at}
use Rattle.ec_context.specs.Activity.{IsCurrencyOfTerms}
use Rattle.ec_context.proofs.Shown.{literals_agree-is_active}
use Rattle.ec_entries.specs.declared.event_entries.EventEntries.{EventEntries}
use Rattle.ec_parts.specs.declared.tally.Tally.{Tally}
use Rattle.ec_parts.specs.Activity.{is_bit_set}
use Rattle.ec_parts.specs.StandFor.{View}
use Rattle.ec_parts.proofs.LinksByNumber.{IsOneToOne}
use Rattle.ec_revise.specs.declared.change.Change.{Change}
use Rattle.ec_revise.specs.Sweep.{Found}
use Rattle.ec_revise.specs.Visit.{currency_found}
use Rattle.ec_delta.specs.declared.delta.Looked.{Looked}
use Rattle.ec_delta.specs.declared.delta.Planned.{Planned}
use Rattle.ec_delta.specs.declared.flips.Flip.{Flip}
use Rattle.ec_delta.specs.Looked.{active_of, flip_at}
use Rattle.ec_sweep.specs.declared.hits.Hit.{Hit}
use Rattle.ec_sweep.specs.declared.progress.Progress.{Progress}
use Rattle.ec_sweep.specs.State.{DirtyRows, dirty_at, found_by, is_current_over}
use Rattle.ec_sweep.specs.Visiting.{CanLook}
use Rattle.ec_sweep.specs.Acting.{acts, acts_at, was_active}
use Rattle.ec_sweep.proofs.HitEffects.{IsEffectOf, finds_terms}
use Rattle.ec_sweep.proofs.ReadingEntries.{entered-event, placed-effect}

module _ {T : Type 0} (rank : T → ℤ) (theory : Theory) (new : List PlainEvent) (view : View T) (tally : Tally) (change : Change T) (r t : ℤ) (dirty : DirtyRows)
    (agenda : List (Due T)) (due : List PropId) (looked : Looked) (planned : Planned T) (active : Effect → Bool) (progress : Progress)
    (can : CanLook rank theory new view tally change r t dirty agenda due looked planned active progress) (one : IsOneToOne view.table) where
  -- the list of the store, and what is found before the visit
  abbrev old : List PlainEvent
  old = history_of rank view.store.events

  abbrev found : Found
  found = found_by rank view.table dirty agenda looked planned active

  -- the currency over the dirty properties is the one that is found
  pub currency_over-found : IsCurrencyOfTerms view.table (is_current_over rank view.points dirty) (currency_found theory old found) t
  currency_over-found id term known =
      ap₂ unwrap_or (sym (ap (option_and_then (λ (n : ℕ). dirty_at n dirty)) (finds_terms view.table one id term known)))
      (ap₂ (λ b ms. current_after b (last_mark_before ms t)) (can.underway.both.caches.marks_of.initials.initial id term known) (can.underway.both.caches.marks_of.marks id term known)
      ∙ sym (CurrencyIsOfTheLastMark-law theory old term t can.underway.both.caches.history))

  -- so a hit acts where its entry is active by what is found
  pub acts-found : (hit : Hit) (effect : Effect) → IsEffectOf rank theory view.store.events hit effect → effect.event.rank ≡ t
      → acts_at (is_current_over rank view.points dirty) t view.entries.slots hit ≡ is_active (currency_found theory old found) effect
  acts-found hit effect of_hit here =
      let kept = entered-event rank theory old view.table view.store view.entries can.underway.both.caches.entries_of hit.slot of_hit.event of_hit.there in
      let placed = placed-effect rank theory old view.table view.store view.entries can.underway.both.caches.entries_of of_hit.event kept.0 kept.2 hit.place effect of_hit.at_place in
      ap (λ o. option_map_or (acts (is_current_over rank view.points dirty) t) (option_and_then (λ (k : EventEntries T). slice_get k.list hit.place) o) false) kept.1
      ∙ ap (λ o. option_map_or (acts (is_current_over rank view.points dirty) t) o false) placed.1.entry_there
      ∙ ap (λ u. acts (is_current_over rank view.points dirty) u placed.0) (sym here)
      ∙ literals_agree-is_active view.table (is_current_over rank view.points dirty) (currency_found theory old found) effect.event
      (subst (IsCurrencyOfTerms view.table (is_current_over rank view.points dirty) (currency_found theory old found)) (sym here) currency_over-found) placed.0 effect.entry placed.1.shown

  -- no new bits are known yet of a slot with an event at the instant
  pub no_flip_yet : (slot : Slot) (event : Event T) → event_at slot view.store.events ≡ Some event → rank event.at ≡ t → flip_at slot looked.flips ≡ None
  no_flip_yet slot event there here = of (find (λ (flip : Flip). flip.slot.0 == slot.0) looked.flips) refl
    where
      of : (o : Option Flip) → find (λ (flip : Flip). flip.slot.0 == slot.0) looked.flips ≡ o → option_map (λ (flip : Flip). flip.active) (find (λ (flip : Flip). flip.slot.0 == slot.0) looked.flips) ≡ None
      of None none = ap (option_map (λ (flip : Flip). flip.active)) none
      of (Some flip) some =
          let member = find-Some (λ (f : Flip). f.slot.0 == slot.0) looked.flips flip some in
          let flipped = All-contains (λ (f : Flip). (e : Event T) × (event_at f.slot view.store.events ≡ Some e) × (rank e.at ≤ℤ r)) looked.flips flip can.shows.flipped
          (Contains-from_member looked.flips flip member.0) in
          let same : flipped.0 ≡ event =
          ap (λ o. unwrap_or o flipped.0)
          (sym flipped.1 ∙ ap (λ n. event_at (record { 0 = n }) view.store.events) (eqb-true flip.slot.0 slot.0 member.1) ∙ there) in
          let early : t ≤ℤ r = subst (λ u. u ≤ℤ r) (ap (λ (e : Event T). rank e.at) same ∙ here) flipped.2 in
          let next = can.next in absurd (omega (arith, ints, early, next))

  -- so an entry of a hit was active by the bits that are kept where it was found so
  pub was-found : (hit : Hit) (effect : Effect) (of_hit : IsEffectOf rank theory view.store.events hit effect) → rank of_hit.event.at ≡ t
      → was_active view.entries.slots hit ≡ active effect
  was-found hit effect of_hit here =
      ap (λ o. is_bit_set (unwrap_or o (active_of (kept_at hit.slot.0 view.entries.slots))) hit.place) (sym (no_flip_yet hit.slot of_hit.event of_hit.there here))
      ∙ sym (can.shows.stored hit.slot of_hit.event hit.place effect of_hit.there of_hit.at_place)
