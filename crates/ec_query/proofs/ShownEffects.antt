-- The effects of an event, place by place with the entries that are kept of it.
use Rattle.std.proofs.Common.{◌≡◌, ℕ, ◌+◌, ◌<◌, ◌≤◌, Bool, true, false, ◌&&◌, List, [], ◌∷◌, length, map, find, take, Option, Some, None, option_map, IsSome, refl, sym, ap, subst, ◌∙◌, arith}
use Rattle.std.specs.Prelude.{ℤ, slice_get}
use Rattle.std.specs.List.{list_any}
use Rattle.std.specs.Option.{option_map_or}
use Rattle.std.proofs.lemmas.Bool.{or_from}
use Rattle.std.proofs.lemmas.List.{length-map, take_all}
use Rattle.std.proofs.lemmas.List.Folds.{list_any_more}
use Rattle.std.proofs.lemmas.Option.{none-some, same_Some, slice_get-map, slice_get_within, get_or_from_slice_get}
use Rattle.std.proofs.Math.Bool.{and_comm}
use Rattle.ec_lists.proofs.Finds.{find_here, find-map, find-none}
use Rattle.ec_terms.specs.declared.ids.Slot.{Slot}
use Rattle.ec_terms.specs.declared.theory.Theory.{Theory}
use Rattle.ec_terms.specs.Domain.{GroundEntry, entries_of}
use Rattle.ec_axioms.specs.declared.event.Event.{Event}
use Rattle.ec_axioms.specs.Calculus.{Effect, PlainCause, PlainEvent, cause_of, effects_of, is_active, is_current}
use Rattle.ec_axioms.specs.Events.{event_of}
use Rattle.ec_store.specs.Table.{KeptProp}
use Rattle.ec_context.specs.declared.entry.Entry.{Entry}
use Rattle.ec_context.specs.Entries.{shown_entries, shown_entry}
use Rattle.ec_context.proofs.EachOf.{each_of-at}
use Rattle.ec_context.proofs.Shown.{IsShownAs-entry, length-shown}
use Rattle.ec_store.specs.Store.{Store, event_at}
use Rattle.ec_numbered.specs.ByNumber.{kept_at}
use Rattle.ec_entries.specs.declared.event_entries.EventEntries.{EventEntries}
use Rattle.ec_entries.specs.Dependents.{Entered}
use Rattle.ec_parts.specs.Activity.{is_bit_set}
use Rattle.ec_parts.specs.Caches.{AreEntriesOf, IsEntered, IsEnteredIn}
use Rattle.ec_query.specs.Sought.{AreEffects, first_of_event, is_cause}

-- ---- the effects of one event

-- an effect at the place of an entry
pub record IsEffectAt (table : List KeptProp) (effects : List Effect) (k : ℕ) (entry : Entry) : Type 0 where
  pub effect : Effect
  pub there : slice_get effects k ≡ Some effect
  pub shown : shown_entry table entry ≡ Some effect.entry

pub effect-at : (table : List KeptProp) (entries : List Entry) (effects : List Effect) → shown_entries table entries ≡ Some (map (λ (effect : Effect). effect.entry) effects)
    → (k : ℕ) (entry : Entry) → slice_get entries k ≡ Some entry → IsEffectAt table effects k entry
effect-at table entries effects shown k entry there =
    let found = each_of-at (shown_entry table) entries (map (λ (effect : Effect). effect.entry) effects) shown k entry there in
    of (slice_get effects k) refl found.0 found.1 (sym (slice_get-map (λ (effect : Effect). effect.entry) effects k) ∙ found.2)
  where
    of : (o : Option Effect) → slice_get effects k ≡ o → (ground : GroundEntry) → shown_entry table entry ≡ Some ground → option_map (λ (effect : Effect). effect.entry) o ≡ Some ground
        → IsEffectAt table effects k entry
    of None there ground shown is = absurd (none-some ground is)
    of (Some effect) there ground shown is = record { effect = effect; there = there; shown = shown ∙ sym is }

module _ (theory : Theory) (events : List PlainEvent) (table : List KeptProp) (entries : List Entry) (active : ℕ) (effects : List Effect)
    (are : AreEffects theory events table entries active effects) (wanted : GroundEntry → Bool) where
  length-effects : length entries ≡ length effects
  length-effects = length-shown table entries (map (λ (effect : Effect). effect.entry) effects) are.shown ∙ length-map effects (λ (effect : Effect). effect.entry)

  module _ (k : ℕ) (entry : Entry) (there : slice_get entries k ≡ Some entry) (asked : Bool)
      (asked_is : (shown : GroundEntry) → shown_entry table entry ≡ Some shown → asked ≡ (is_bit_set active k && wanted shown)) (none : list_any (is_cause theory events wanted) (take k effects) ≡ false) where
    at : IsEffectAt table effects k entry
    at = effect-at table entries effects are.shown k entry there

    within : k < length effects
    within = slice_get_within effects k at.effect at.there

    cause-is : is_cause theory events wanted at.effect ≡ asked
    cause-is =
        sym (asked_is at.effect.entry at.shown
        ∙ ap (λ b. b && wanted at.effect.entry) (are.bits k ∙ ap (λ o. option_map_or (is_active (is_current theory events)) o false) at.there)
        ∙ and_comm (is_active (is_current theory events) at.effect) (wanted at.effect.entry))

    -- the first that does what is sought and is active
    pub rule-found : asked ≡ true → Some entry.rule ≡ option_map (λ (effect : Effect). effect.entry.rule) (find (is_cause theory events wanted) effects)
    rule-found passes =
        let own = get_or_from_slice_get effects k at.effect at.effect at.there in
        ap Some (IsShownAs-entry table entry at.effect.entry at.shown).rule
        ∙ sym (ap (option_map (λ (effect : Effect). effect.entry.rule))
        (find_here (is_cause theory events wanted) effects k at.effect within none (ap (is_cause theory events wanted) own ∙ cause-is ∙ passes) ∙ ap Some own))

    -- or not yet
    pub rule-not_yet : asked ≡ false → list_any (is_cause theory events wanted) (take (k + 1) effects) ≡ false
    rule-not_yet fails =
        let own = get_or_from_slice_get effects k at.effect at.effect at.there in
        list_any_more (is_cause theory events wanted) effects k at.effect within ∙ or_from _ _ none (ap (is_cause theory events wanted) own ∙ cause-is ∙ fails)

  -- none is
  pub rule-none : (k : ℕ) → length entries ≤ k → list_any (is_cause theory events wanted) (take k effects) ≡ false → None ≡ option_map (λ (effect : Effect). effect.entry.rule) (find (is_cause theory events wanted) effects)
  rule-none k end none =
      sym (ap (option_map (λ (effect : Effect). effect.entry.rule)) (find-none (is_cause theory events wanted) effects (ap (list_any (is_cause theory events wanted)) (sym (take_all k effects (omega (arith, length-effects, end)))) ∙ none)))

-- ---- what is kept of an event

module _ {T : Type 0} (rank : T → ℤ) (theory : Theory) (events : List PlainEvent) (table : List KeptProp) where
  -- the entries that are kept of an event are those of its effects
  pub effects-entered : (event : Event T) (kept : EventEntries T) → IsEntered rank theory events table event kept
      → AreEffects theory events table kept.list kept.active (effects_of theory (event_of rank event))
  unfolding effects_of
  effects-entered event kept is = record {
    shown = is.entries ∙ ap Some (sym (own (entries_of theory event.term)));
    bits = is.active;
  }
    where
      own : (entries : List GroundEntry) → map (λ (effect : Effect). effect.entry) (map (λ (entry : GroundEntry). record { event = event_of rank event; entry = entry }) entries) ≡ entries
      own [] = refl
      own (entry ∷ entries) = ap (λ es. entry ∷ es) (own entries)

  -- what is kept of an event in its slot
  pub record IsKeptOf (entered : Entered T) (slot : Slot) (event : Event T) : Type 0 where
    pub kept : EventEntries T
    pub there : kept_at slot.0 entered.slots ≡ Some kept
    pub entered_as : IsEntered rank theory events table event kept

  pub kept-of : (store : Store T) (entered : Entered T) → AreEntriesOf rank theory events table store entered → (slot : Slot) (event : Event T) → event_at slot store.events ≡ Some event
      → IsKeptOf entered slot event
  kept-of store entered are slot event there = of (kept_at slot.0 entered.slots) refl (subst (λ o. IsEnteredIn rank theory events table o (kept_at slot.0 entered.slots)) there (are slot))
    where
      of : (o : Option (EventEntries T)) → kept_at slot.0 entered.slots ≡ o → IsEnteredIn rank theory events table (Some event) (kept_at slot.0 entered.slots) → IsKeptOf entered slot event
      of None here is = absurd (subst (IsEnteredIn rank theory events table (Some event)) here is)
      of (Some kept) here is = record { kept = kept; there = here; entered_as = subst (IsEnteredIn rank theory events table (Some event)) here is }

  module _ (store : Store T) (entered : Entered T) (are : AreEntriesOf rank theory events table store entered) (slot : Slot) (event : Event T) (there : event_at slot store.events ≡ Some event) where
    -- something is kept of it
    pub is_kept : IsSome (kept_at slot.0 entered.slots)
    is_kept = let own = kept-of store entered are slot event there in subst (λ (o : Option (EventEntries T)). IsSome o) (sym own.there) refl

    -- its time
    pub time-of : (at : T) → option_map (λ (kept : EventEntries T). kept.at) (kept_at slot.0 entered.slots) ≡ Some at → at ≡ event.at
    time-of at is =
        let own = kept-of store entered are slot event there in
        sym (same_Some own.kept.at at (sym (ap (option_map (λ (kept : EventEntries T). kept.at)) own.there) ∙ is)) ∙ own.entered_as.time

    -- and its entries
    pub effects-of : (list : List Entry) (active : ℕ) → option_map (λ (kept : EventEntries T). kept.list) (kept_at slot.0 entered.slots) ≡ Some list
        → option_map (λ (kept : EventEntries T). kept.active) (kept_at slot.0 entered.slots) ≡ Some active → AreEffects theory events table list active (effects_of theory (event_of rank event))
    effects-of list active list_is active_is =
        let own = kept-of store entered are slot event there in
        let same_list = same_Some own.kept.list list (sym (ap (option_map (λ (kept : EventEntries T). kept.list)) own.there) ∙ list_is) in
        let same_active = same_Some own.kept.active active (sym (ap (option_map (λ (kept : EventEntries T). kept.active)) own.there) ∙ active_is) in
        subst (λ (n : ℕ). AreEffects theory events table list n (effects_of theory (event_of rank event))) same_active
        (subst (λ (es : List Entry). AreEffects theory events table es own.kept.active (effects_of theory (event_of rank event))) same_list (effects-entered event own.kept own.entered_as))

-- ---- the cause of one event

-- the first cause among the entries of an event names the event
pub first_of_event-rule : (theory : Theory) (events : List PlainEvent) (wanted : GroundEntry → Bool) (e : PlainEvent) (rule : Option ℕ)
    → rule ≡ option_map (λ (effect : Effect). effect.entry.rule) (find (is_cause theory events wanted) (effects_of theory e))
    → option_map (λ r. record { id = e.id; rule = r }) rule ≡ first_of_event theory events wanted e
unfolding effects_of
first_of_event-rule theory events wanted e rule is =
    let made : GroundEntry → Effect = λ entry. record { event = e; entry = entry } in
    let found : find (is_cause theory events wanted) (map made (entries_of theory e.term)) ≡ option_map made (find (λ entry. is_cause theory events wanted (made entry)) (entries_of theory e.term)) =
    find-map (is_cause theory events wanted) made (entries_of theory e.term) in
    ap (option_map (λ r. record { id = e.id; rule = r })) is
    ∙ ap (λ (o : Option Effect). option_map (λ r. record { id = e.id; rule = r }) (option_map (λ (effect : Effect). effect.entry.rule) o)) found
    ∙ of (find (λ entry. is_cause theory events wanted (made entry)) (entries_of theory e.term))
    ∙ ap (option_map cause_of) (sym found)
  where
    of : (o : Option GroundEntry)
        → option_map {T = ℕ} {U = PlainCause} (λ r. record { id = e.id; rule = r }) (option_map (λ (effect : Effect). effect.entry.rule) (option_map (λ (entry : GroundEntry). record { event = e; entry = entry }) o))
        ≡ option_map cause_of (option_map (λ (entry : GroundEntry). record { event = e; entry = entry }) o)
    of None = refl
    of (Some entry) = refl
