-- What an entry of a store's event reads, by terms and by the dependents that stand under the numbers of a table.
use Rattle.std.proofs.Common.{◌≡◌, ℕ, ℤ, Bool, ◌||◌, List, [], ◌∷◌, Option, Some, None, IsTrue, refl, sym, ap, ap₂, subst, ◌∙◌, inl, ⊎_elim}
use Rattle.std.specs.Prelude.{unwrap_or, option_map, option_and_then, slice_get}
use Rattle.std.specs.List.{list_any, All}
use Rattle.std.specs.Option.{option_to_list}
use Rattle.std.specs.Ordering.{int_eq}
use Rattle.std.proofs.lemmas.Bool.{cases_Bool, and_from, or_cases, eq-eqb, eqb-true, false≢true, false_from_ne_true}
use Rattle.std.proofs.lemmas.List.Elements.{All-contains}
use Rattle.std.proofs.lemmas.Option.{none-some, slice_get-map}
use Rattle.ec_terms.specs.declared.ids.Slot.{Slot}
use Rattle.ec_terms.specs.declared.ground.Ground.{Ground}
use Rattle.ec_terms.specs.declared.theory.Theory.{Theory}
use Rattle.ec_terms.specs.Term.{term_eq}
use Rattle.ec_terms.specs.Domain.{GroundLiteral, GroundEntry, entries_of}
use Rattle.ec_axioms.specs.declared.event.Event.{Event}
use Rattle.ec_axioms.specs.Calculus.{PlainEvent, Effect, effects_of}
use Rattle.ec_axioms.specs.Events.{event_of}
use Rattle.ec_axioms.specs.Plain.{events_at}
use Rattle.ec_axioms.proofs.Members.{Contains-from_member, IsMember, IsMember-filter, IsMember-from_filter, IsMember-from_map, IsMember-map, list_any-member, member-list_any, IsMember-slice_get, slice_get-member}
use Rattle.ec_changes.specs.Differences.{entries_at, reads}
use Rattle.ec_changes.proofs.JoinedMembers.{IsMember-flat_map, IsMember-from_flat_map}
use Rattle.ec_store.specs.Table.{KeptProp, term_at}
use Rattle.ec_store.proofs.EventLemmas.{kept_under}
use Rattle.ec_store.specs.Store.{Kept, Store, event_at, history_of, plain_of}
use Rattle.ec_numbered.specs.ByNumber.{kept_at}
use Rattle.ec_context.specs.declared.entry.Entry.{Entry}
use Rattle.ec_context.specs.declared.entry.EntryLiteral.{EntryLiteral}
use Rattle.ec_context.specs.Entries.{each_of, is_of, shown_entry, shown_literal, shown_literals}
use Rattle.ec_context.proofs.EachOf.{each_of-at, each_of-first, each_of-slice_get}
use Rattle.ec_context.proofs.Shown.{IsLiteralShownAs-literal, IsShownAs-entry}
use Rattle.ec_entries.specs.declared.event_entries.Dependent.{Dependent}
use Rattle.ec_entries.specs.declared.event_entries.EventEntries.{EventEntries}
use Rattle.ec_entries.specs.Dependents.{AreDependents, Entered, any_on, dependent_at, dependent_if, dependent_in, is_from}
use Rattle.ec_parts.specs.Caches.{AreEntriesOf, IsEntered, IsEnteredIn}
use Rattle.ec_revise.specs.ShownTurns.{FindsItsTerms}
use Rattle.ec_revise.proofs.ByTerm.{number-term}

-- ---- what a table shows

-- a table that shows literals keeps the term of each
literals-kept : (table : List KeptProp) (literals : List EntryLiteral) (shown : List GroundLiteral) → shown_literals table literals ≡ Some shown → (n : ℕ) → IsTrue (any_on n literals)
    → (q : Ground) × (term_at n table ≡ Some q)
literals-kept table [] shown is n none = absurd (false≢true none)
literals-kept table (literal ∷ literals) shown is n some =
    let parts = each_of-first (shown_literal table) literal literals shown is in
    ⊎_elim
    (λ here. (parts.first.prop, ap (λ k. term_at k table) (sym (eqb-true literal.prop.0 n here)) ∙ (IsLiteralShownAs-literal table literal parts.first parts.first_is).prop))
    (λ later. literals-kept table literals parts.others parts.others_are n later)
    (or_cases (is_of n literal) (any_on n literals) some)

-- a literal is of a number where its term is that of the number
module _ (table : List KeptProp) (finds : FindsItsTerms table) (id : ℕ) (p : Ground) (kept : term_at id table ≡ Some p) where
  literal-term : (literal : EntryLiteral) (shown : GroundLiteral) → shown_literal table literal ≡ Some shown → is_of id literal ≡ term_eq shown.prop p
  literal-term literal shown is = number-term table literal.prop.0 id shown.prop p finds (IsLiteralShownAs-literal table literal shown is).prop kept

  literals-terms : (literals : List EntryLiteral) (shown : List GroundLiteral) → shown_literals table literals ≡ Some shown
      → any_on id literals ≡ list_any (λ (l : GroundLiteral). term_eq l.prop p) shown
  unfolding each_of
  literals-terms [] shown is = ap (λ (o : Option (List GroundLiteral)). list_any (λ (l : GroundLiteral). term_eq l.prop p) (unwrap_or o [])) is
  literals-terms (literal ∷ literals) shown is =
      let parts = each_of-first (shown_literal table) literal literals shown is in
      ap₂ (λ a b. a || b) (literal-term literal parts.first parts.first_is) (literals-terms literals parts.others parts.others_are)
      ∙ ap (list_any (λ (l : GroundLiteral). term_eq l.prop p)) (sym parts.all_are)

  -- an entry has a literal on the number where the entry that is shown reads the term
  pub any_on-reads : (entry : Entry) (effect : Effect) → shown_entry table entry ≡ Some effect.entry → any_on id entry.literals ≡ reads p effect
  unfolding reads
  any_on-reads entry effect is = literals-terms entry.literals effect.entry.literals (IsShownAs-entry table entry effect.entry is).literals

-- ---- the entries of a store

-- each event of a store is the one under its slot
abbrev pub AreAtSlots : {T : Type 0} → List (Kept T) → Type 0
AreAtSlots {T} events = All (λ (kept : Kept T). event_at kept.0 events ≡ Some kept.1) events

-- an entry of an event under a slot, with the place where it stands
pub record StandsAt {T : Type 0} (rank : T → ℤ) (theory : Theory) (events : List (Kept T)) (effect : Effect) : Type 0 where
  pub slot : Slot
  pub event : Event T
  pub place : ℕ
  pub there : event_at slot events ≡ Some event
  pub at_place : slice_get (effects_of theory (event_of rank event)) place ≡ Some effect

-- the event under a slot is one of the history
pub event-member : {T : Type 0} (rank : T → ℤ) (events : List (Kept T)) (slot : Slot) (event : Event T) → event_at slot events ≡ Some event
    → IsMember (history_of rank events) (event_of rank event)
event-member rank events slot event there =
    let k = kept_under events slot event there in subst (λ e. IsMember (history_of rank events) (event_of rank e)) k.3 (IsMember-map (plain_of rank) events k.0 k.1)

-- each entry of an event stands at a place
pub StandsAt-member : {T : Type 0} (rank : T → ℤ) (theory : Theory) (events : List (Kept T)) → AreAtSlots events → (e : PlainEvent) (effect : Effect)
    → IsMember (history_of rank events) e → IsMember (effects_of theory e) effect → (stands : StandsAt rank theory events effect) × (event_of rank stands.event ≡ e)
StandsAt-member {T} rank theory events slots e effect member one =
    let kept = IsMember-from_map (plain_of rank) events e member in
    let there = All-contains (λ (k : Kept T). event_at k.0 events ≡ Some k.1) events kept.0 slots (Contains-from_member events kept.0 kept.1) in
    let place = slice_get-member (effects_of theory e) effect one in (
      record {
        slot = kept.0.0;
        event = kept.0.1;
        place = place.0;
        there = there;
        at_place = ap (λ f. slice_get (effects_of theory f) place.0) kept.2 ∙ place.1;
      },
      kept.2,
    )

-- an entry of an event, with the event
abbrev pub effect_by : PlainEvent → GroundEntry → Effect
effect_by e = λ entry. record { event = e; entry = entry }

module _ {T : Type 0} (rank : T → ℤ) (theory : Theory) (events : List PlainEvent) (table : List KeptProp) (store : Store T) (entered : Entered T)
    (are : AreEntriesOf rank theory events table store entered) where
  pub entered-event : (slot : Slot) (event : Event T) → event_at slot store.events ≡ Some event
      → (kept : EventEntries T) × (kept_at slot.0 entered.slots ≡ Some kept) × IsEntered rank theory events table event kept
  entered-event slot event there = of (kept_at slot.0 entered.slots) refl (subst (λ o. IsEnteredIn rank theory events table o (kept_at slot.0 entered.slots)) there (are slot))
    where
      of : (o : Option (EventEntries T)) → kept_at slot.0 entered.slots ≡ o → IsEnteredIn rank theory events table (Some event) (kept_at slot.0 entered.slots)
          → (kept : EventEntries T) × (kept_at slot.0 entered.slots ≡ Some kept) × IsEntered rank theory events table event kept
      of None here is = absurd (subst (IsEnteredIn rank theory events table (Some event)) here is)
      of (Some kept) here is = (kept, here, subst (IsEnteredIn rank theory events table (Some event)) here is)

  pub entered-kept : (slot : Slot) (kept : EventEntries T) → kept_at slot.0 entered.slots ≡ Some kept
      → (event : Event T) × (event_at slot store.events ≡ Some event) × IsEntered rank theory events table event kept
  entered-kept slot kept there = of (event_at slot store.events) refl (subst (IsEnteredIn rank theory events table (event_at slot store.events)) there (are slot))
    where
      of : (o : Option (Event T)) → event_at slot store.events ≡ o → IsEnteredIn rank theory events table (event_at slot store.events) (Some kept)
          → (event : Event T) × (event_at slot store.events ≡ Some event) × IsEntered rank theory events table event kept
      of None here is = absurd (subst (λ o. IsEnteredIn rank theory events table o (Some kept)) here is)
      of (Some event) here is = (event, here, subst (λ o. IsEnteredIn rank theory events table o (Some kept)) here is)

  -- the entries of an event, place by place: the ones that are shown of what is kept
  pub effect-shown : (event : Event T) (kept : EventEntries T) → IsEntered rank theory events table event kept → (place : ℕ)
      → slice_get (effects_of theory (event_of rank event)) place
      ≡ option_map (effect_by (event_of rank event)) (option_and_then (shown_entry table) (slice_get kept.list place))
  unfolding effects_of
  effect-shown event kept is place =
      slice_get-map (effect_by (event_of rank event)) (entries_of theory event.term) place
      ∙ ap (option_map (effect_by (event_of rank event)))
      (each_of-slice_get (shown_entry table) kept.list (entries_of theory event.term) is.entries place)

  -- an entry that stands at a place of what is kept, with the entry of the calculus
  pub record IsPlaced (event : Event T) (kept : EventEntries T) (place : ℕ) (entry : Entry) (effect : Effect) : Type 0 where
    pub entry_there : slice_get kept.list place ≡ Some entry
    pub effect_there : slice_get (effects_of theory (event_of rank event)) place ≡ Some effect
    pub event_is : effect.event ≡ event_of rank event
    pub shown : shown_entry table entry ≡ Some effect.entry

  pub placed-effect : (event : Event T) (kept : EventEntries T) → IsEntered rank theory events table event kept → (place : ℕ) (effect : Effect)
      → slice_get (effects_of theory (event_of rank event)) place ≡ Some effect → (entry : Entry) × IsPlaced event kept place entry effect
  placed-effect event kept is place effect there = of (slice_get kept.list place) refl (sym (effect-shown event kept is place) ∙ there)
    where
      of : (o : Option Entry) → slice_get kept.list place ≡ o
          → option_map (effect_by (event_of rank event)) (option_and_then (shown_entry table) (slice_get kept.list place)) ≡ Some effect → (entry : Entry) × IsPlaced event kept place entry effect
      of None here both = absurd (none-some effect (sym (ap (λ o. option_map (effect_by (event_of rank event)) (option_and_then (shown_entry table) o)) here) ∙ both))
      of (Some entry) here both = shown (shown_entry table entry) refl (sym (ap (λ o. option_map (effect_by (event_of rank event)) (option_and_then (shown_entry table) o)) here) ∙ both)
        where
          shown : (o : Option GroundEntry) → shown_entry table entry ≡ o → option_map (effect_by (event_of rank event)) (shown_entry table entry) ≡ Some effect
              → (e : Entry) × IsPlaced event kept place e effect
          shown None none both = absurd (none-some effect (sym (ap (option_map (effect_by (event_of rank event))) none) ∙ both))
          shown (Some ground) is_shown both =
              let same : record { event = event_of rank event; entry = ground } ≡ effect = ap (λ o. unwrap_or o (record { event = event_of rank event; entry = ground })) (sym (ap (option_map (effect_by (event_of rank event))) is_shown) ∙ both) in (
                entry,
                record {
                  entry_there = here;
                  effect_there = there;
                  event_is = ap (λ (e : Effect). e.event) (sym same);
                  shown = is_shown ∙ ap (λ (e : Effect). Some e.entry) same;
                },
              )

  pub placed-entry : (event : Event T) (kept : EventEntries T) → IsEntered rank theory events table event kept → (place : ℕ) (entry : Entry)
      → slice_get kept.list place ≡ Some entry → (effect : Effect) × IsPlaced event kept place entry effect
  placed-entry event kept is place entry there =
      let shown = each_of-at (shown_entry table) kept.list (entries_of theory event.term) is.entries place entry there in (
        effect_by (event_of rank event) shown.0,
        record {
          entry_there = there;
          effect_there = effect-shown event kept is place
              ∙ ap (λ o. option_map (effect_by (event_of rank event)) (option_and_then (shown_entry table) o)) there
              ∙ ap (option_map (effect_by (event_of rank event))) shown.1;
          event_is = refl;
          shown = shown.1;
        },
      )

  -- ---- dependents

  -- a table keeps the term of a number on which an entry depends
  pub dependent-kept : (slot place n : ℕ) (dependent : Dependent T) → dependent_at n entered.slots slot place ≡ Some dependent → (q : Ground) × (term_at n table ≡ Some q)
  dependent-kept slot place n dependent is = of (kept_at slot entered.slots) refl is
    where
      of : (o : Option (EventEntries T)) → kept_at slot entered.slots ≡ o
          → option_and_then (λ (kept : EventEntries T). dependent_in n kept.at slot kept.list place) o ≡ Some dependent → (q : Ground) × (term_at n table ≡ Some q)
      of None here both = absurd (none-some dependent both)
      of (Some kept) here both =
          let found = entered-kept (record { 0 = slot }) kept here in in_list (slice_get kept.list place) refl both found.0 found.2
        where
          in_list : (o : Option Entry) → slice_get kept.list place ≡ o → option_and_then (λ (entry : Entry). dependent_if (any_on n entry.literals) kept.at slot place) o ≡ Some dependent
              → (event : Event T) → IsEntered rank theory events table event kept → (q : Ground) × (term_at n table ≡ Some q)
          in_list None none both event entered_is = absurd (none-some dependent both)
          in_list (Some entry) some both event entered_is =
              let placed = placed-entry event kept entered_is place entry some in
              ⊎_elim
              (λ on. literals-kept table entry.literals placed.0.entry.literals (IsShownAs-entry table entry placed.0.entry placed.1.shown).literals n on)
              (λ off. absurd (none-some dependent (sym (ap (λ (b : Bool). dependent_if b kept.at slot place) off) ∙ both)))
              (cases_Bool (any_on n entry.literals))

  module _ (finds : FindsItsTerms table) (id : ℕ) (p : Ground) (known : term_at id table ≡ Some p) where
    -- The entry at a place of an event makes a dependent of a number exactly where it reads the term of the number.
    pub dependent-reads : (slot : Slot) (event : Event T) (place : ℕ) (effect : Effect) → event_at slot store.events ≡ Some event
        → slice_get (effects_of theory (event_of rank event)) place ≡ Some effect
        → dependent_at id entered.slots slot.0 place ≡ dependent_if (reads p effect) event.at slot.0 place
    dependent-reads slot event place effect there at_place =
        let found = entered-event slot event there in
        let placed = placed-effect event found.0 found.2 place effect at_place in
        ap (λ o. option_and_then (λ (kept : EventEntries T). dependent_in id kept.at slot.0 kept.list place) o) found.1
        ∙ ap (option_and_then (λ (entry : Entry). dependent_if (any_on id entry.literals) found.0.at slot.0 place)) placed.1.entry_there
        ∙ ap₂ (λ on at. dependent_if on at slot.0 place) (any_on-reads table finds id p known placed.0 effect placed.1.shown) found.2.time

    -- an entry that makes a dependent, with all that it is
    pub record ReadsAt (slot place : ℕ) (dependent : Dependent T) : Type 0 where
      pub event : Event T
      pub effect : Effect
      pub there : event_at (record { 0 = slot }) store.events ≡ Some event
      pub at_place : slice_get (effects_of theory (event_of rank event)) place ≡ Some effect
      pub reading : IsTrue (reads p effect)
      pub dependent_is : dependent ≡ record { at = event.at; slot = record { 0 = slot }; place = place }

    pub reads-dependent : (slot place : ℕ) (dependent : Dependent T) → dependent_at id entered.slots slot place ≡ Some dependent → ReadsAt slot place dependent
    reads-dependent slot place dependent is = of (kept_at slot entered.slots) refl is
      where
        of : (o : Option (EventEntries T)) → kept_at slot entered.slots ≡ o
            → option_and_then (λ (kept : EventEntries T). dependent_in id kept.at slot kept.list place) (kept_at slot entered.slots) ≡ Some dependent → ReadsAt slot place dependent
        of None here both =
            absurd (none-some dependent (sym (ap (option_and_then (λ (kept : EventEntries T). dependent_in id kept.at slot kept.list place)) here) ∙ both))
        of (Some kept) here both =
            let found = entered-kept (record { 0 = slot }) kept here in
            in_list (slice_get kept.list place) refl (sym (ap (option_and_then (λ (k : EventEntries T). dependent_in id k.at slot k.list place)) here) ∙ both) found.0 found.1 found.2
          where
            in_list : (o : Option Entry) → slice_get kept.list place ≡ o → dependent_in id kept.at slot kept.list place ≡ Some dependent
                → (event : Event T) → event_at (record { 0 = slot }) store.events ≡ Some event → IsEntered rank theory events table event kept → ReadsAt slot place dependent
            in_list None none both event there entered_is =
                absurd (none-some dependent (sym (ap (option_and_then (λ (entry : Entry). dependent_if (any_on id entry.literals) kept.at slot place)) none) ∙ both))
            in_list (Some entry) some both event there entered_is =
                let placed = placed-entry event kept entered_is place entry some in
                let same : dependent_if (reads p placed.0) event.at slot place ≡ Some dependent =
                sym (ap₂ (λ on at. dependent_if on at slot place) (any_on-reads table finds id p known entry placed.0 placed.1.shown) entered_is.time)
                ∙ sym (ap (option_and_then (λ (e : Entry). dependent_if (any_on id e.literals) kept.at slot place)) some)
                ∙ both in
                ⊎_elim
                (λ reading. record {
                  event = event;
                  effect = placed.0;
                  there = there;
                  at_place = placed.1.effect_there;
                  reading = reading;
                  dependent_is = ap (λ o. unwrap_or o dependent) (sym same ∙ ap (λ on. dependent_if on event.at slot place) reading);
                })
                (λ blind. absurd (none-some dependent (sym (ap (λ on. dependent_if on event.at slot place) blind) ∙ same)))
                (cases_Bool (reads p placed.0))

    -- ---- at an instant

    module _ (slots : AreAtSlots store.events) (dependents : List (Dependent T)) (exact : AreDependents rank id entered.slots dependents) (u : ℤ) where
      -- a dependent that an entry makes is a member
      pub dependent-member : (slot place : ℕ) (dependent : Dependent T) → dependent_at id entered.slots slot place ≡ Some dependent → IsMember dependents dependent
      dependent-member slot place dependent is =
          (IsMember-from_filter (is_from slot place) dependents dependent
          (subst (λ ds. IsMember ds dependent) (sym (exact.exact slot place ∙ ap option_to_list is)) (inl refl))).0

      -- and a member is one that an entry makes
      pub member-dependent : (dependent : Dependent T) → IsMember dependents dependent → dependent_at id entered.slots dependent.slot.0 dependent.place ≡ Some dependent
      member-dependent dependent member =
          of (dependent_at id entered.slots dependent.slot.0 dependent.place) refl
          (subst (λ ds. IsMember ds dependent) (exact.exact dependent.slot.0 dependent.place)
          (IsMember-filter (is_from dependent.slot.0 dependent.place) dependents dependent member
          (and_from _ _ (eq-eqb dependent.slot.0 dependent.slot.0 refl) (eq-eqb dependent.place dependent.place refl))))
        where
          of : (o : Option (Dependent T)) → dependent_at id entered.slots dependent.slot.0 dependent.place ≡ o
              → IsMember (option_to_list (dependent_at id entered.slots dependent.slot.0 dependent.place)) dependent
              → dependent_at id entered.slots dependent.slot.0 dependent.place ≡ Some dependent
          of None none there = absurd (subst (λ o. IsMember (option_to_list o) dependent) none there)
          of (Some other) some there =
              some ∙ ⊎_elim (λ same. ap Some same) (λ nothing. absurd nothing) (subst (λ o. IsMember (option_to_list o) dependent) some there)

      stands_there : (effect : Effect) (stands : StandsAt rank theory store.events effect) → IsTrue (int_eq (rank stands.event.at) u) → IsTrue (reads p effect)
          → IsTrue (list_any (λ (d : Dependent T). int_eq (rank d.at) u) dependents)
      stands_there effect stands here reading =
          member-list_any (λ (d : Dependent T). int_eq (rank d.at) u) dependents
          (record { at = stands.event.at; slot = record { 0 = stands.slot.0 }; place = stands.place })
          (dependent-member stands.slot.0 stands.place (record { at = stands.event.at; slot = record { 0 = stands.slot.0 }; place = stands.place })
          (dependent-reads stands.slot stands.event stands.place effect stands.there stands.at_place ∙ ap (λ (on : Bool). dependent_if on stands.event.at stands.slot.0 stands.place) reading))
          here

      -- An entry of the store at an instant reads a kept term exactly where a dependent of its number stands there.
      pub entries_read-dependents : list_any (reads p) (entries_at theory (history_of rank store.events) u) ≡ list_any (λ (d : Dependent T). int_eq (rank d.at) u) dependents
      entries_read-dependents =
          ⊎_elim
          (λ some. some ∙ sym (into some))
          (λ none. none ∙ sym (false_from_ne_true _ (λ some. false≢true (sym none ∙ back some))))
          (cases_Bool (list_any (reads p) (entries_at theory (history_of rank store.events) u)))
        where
          into : IsTrue (list_any (reads p) (entries_at theory (history_of rank store.events) u)) → IsTrue (list_any (λ (d : Dependent T). int_eq (rank d.at) u) dependents)
          into some =
              let found = list_any-member (reads p) (entries_at theory (history_of rank store.events) u) some in
              let at = IsMember-from_flat_map (effects_of theory) (events_at u (history_of rank store.events)) found.0 found.1 in
              let present = IsMember-from_filter (λ (e : PlainEvent). int_eq e.rank u) (history_of rank store.events) at.0 at.1 in
              let stands = StandsAt-member rank theory store.events slots at.0 found.0 present.0 at.2 in
              stands_there found.0 stands.0 (ap (λ (e : PlainEvent). int_eq e.rank u) stands.1 ∙ present.1) found.2

          back : IsTrue (list_any (λ (d : Dependent T). int_eq (rank d.at) u) dependents) → IsTrue (list_any (reads p) (entries_at theory (history_of rank store.events) u))
          back some =
              let found = list_any-member (λ (d : Dependent T). int_eq (rank d.at) u) dependents some in
              let reading = reads-dependent found.0.slot.0 found.0.place found.0 (member-dependent found.0 found.1) in
              let here : IsTrue (int_eq (rank reading.event.at) u) = ap (λ (d : Dependent T). int_eq (rank d.at) u) (sym reading.dependent_is) ∙ found.2 in
              member-list_any (reads p) (entries_at theory (history_of rank store.events) u) reading.effect
              (IsMember-flat_map (effects_of theory) (events_at u (history_of rank store.events)) (event_of rank reading.event) reading.effect
              (IsMember-filter (λ (e : PlainEvent). int_eq e.rank u) (history_of rank store.events) (event_of rank reading.event)
              (event-member rank store.events (record { 0 = found.0.slot.0 }) reading.event reading.there) here)
              (IsMember-slice_get (effects_of theory (event_of rank reading.event)) found.0.place reading.effect reading.at_place))
              reading.reading
