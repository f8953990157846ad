-- One event that arrives at a list: the change that adds it, and what it comes to as a batch.
use Rattle.std.proofs.Common.{◌≡◌, ◌≤◌, ◌+◌, ◌||◌, ℤ, Bool, true, false, not, cond, List, [], ◌∷◌, length, map, filter, Some, All, IsTrue, is_some, refl, sym, ap, subst, ◌∙◌, inl, inr, arith}
use Rattle.std.specs.Prelude.{bytes_eq, option_map, Err}
use Rattle.std.proofs.lemmas.Bool.{cond-true, cond-false, false≢true, false_from_ne_true, or_left}
use Rattle.std.proofs.lemmas.List.Elements.{All-nil}
use Rattle.ec_lists.proofs.Numbers.{bytes_eq_comm}
use Rattle.ec_terms.specs.declared.ids.PropId.{PropId}
use Rattle.ec_terms.specs.declared.theory.Theory.{Theory}
use Rattle.ec_terms.specs.Domain.{entries_of}
use Rattle.ec_axioms.specs.declared.event.Event.{Event}
use Rattle.ec_axioms.specs.Calculus.{PlainEvent}
use Rattle.ec_axioms.specs.Changes.{asserting, comes_before, events_only_in, has_event, has_id, is_history, with_event}
use Rattle.ec_axioms.specs.Events.{event_of}
use Rattle.ec_axioms.specs.Links.{most_events}
use Rattle.ec_axioms.proofs.Histories.{is_history-with_event}
use Rattle.ec_axioms.proofs.Members.{IsMember, IsMember-from_contains, IsMember-map, list_any-false}
use Rattle.ec_changes.proofs.KeptEvents.{IsMember-from_has_event, has_event-member}
use Rattle.ec_context.specs.declared.entry.Entry.{Entry}
use Rattle.ec_context.specs.Entries.{shown_entries}
use Rattle.ec_store.specs.Store.{Kept, event_at, history_of, plain_of}
use Rattle.ec_numbered.specs.PropSet.{has_number}
use Rattle.ec_parts.specs.declared.tally.Tally.{Tally}
use Rattle.ec_parts.specs.StandFor.{StandFor, View}
use Rattle.ec_store.specs.Table.{KeptProp}
use Rattle.ec_replies.proofs.Limits.{length-with_event}
use Rattle.ec_revise.specs.declared.change.Change.{Change}
use Rattle.ec_revise.specs.declared.change.Removal.{Removal}
use Rattle.ec_revise.specs.Change.{IsChange, entries_to_show, has_slot, removal_before}
use Rattle.ec_rows.specs.Ordered.{is_ascending}
use Rattle.ec_batch.specs.declared.refusal.Refusal.{Refusal}
use Rattle.ec_batch.specs.declared.refusal.Refusal.TheVariants.{Update, Memory}
use Rattle.ec_batch.specs.ComingIn.{HasComeIn, IsTurnedAway}
use Rattle.ec_batch.specs.Limits.{IsWithinLimits}
use Rattle.ec_changes.proofs.FoundEvents.{event_with-member, event_with-put, found-has_event, has_id-found}
use Rattle.ec_batch.proofs.WalkSteps.{few-let_in, is_live-with, listed-more}
use Rattle.ec_engine.specs.CarriedOut.{LeadsTo}
use Rattle.ec_engine.specs.Revise.{IsRevised}

-- ---- the events that a list has alone

-- a list whose events all stand in another has none alone
none_new : (all events : List PlainEvent) → ((f : PlainEvent) → IsMember events f → has_event all f ≡ true) → filter (λ g. not (has_event all g)) events ≡ []
none_new all [] there = refl
none_new all (f ∷ events) there =
    cond-false (not (has_event all f)) _ _ (ap not (there f (inl refl))) ∙ none_new all events (λ g later. there g (inr later))

-- and with an event that does not, it has that one alone
only_new : (all events : List PlainEvent) (e : PlainEvent) → has_event all e ≡ false → ((f : PlainEvent) → IsMember events f → has_event all f ≡ true)
    → filter (λ g. not (has_event all g)) (with_event e events) ≡ e ∷ []
unfolding with_event
only_new all [] e new there = cond-true (not (has_event all e)) _ _ (ap not new)
only_new all (f ∷ events) e new there = by_place (only_new all events e new (λ g later. there g (inr later))) (comes_before e f)
  where
    by_place : filter (λ g. not (has_event all g)) (with_event e events) ≡ e ∷ [] → (before : Bool) → filter (λ g. not (has_event all g)) (cond before (e ∷ f ∷ events) (f ∷ with_event e events)) ≡ e ∷ []
    by_place rest true = cond-true (not (has_event all e)) _ _ (ap not new) ∙ ap (λ es. e ∷ es) (none_new all (f ∷ events) there)
    by_place rest false = cond-false (not (has_event all f)) _ _ (ap not (there f (inl refl))) ∙ rest

module _ (events : List PlainEvent) (e : PlainEvent) (history : IsTrue (is_history events)) (absent : has_id e.id events ≡ false) where
  -- an event whose identity is absent does not stand in the list
  not_there : has_event events e ≡ false
  not_there =
      false_from_ne_true (has_event events e)
      (λ there. false≢true (sym absent ∙ has_id-found e.id events ∙ ap is_some (event_with-member events e history (IsMember-from_has_event events e there))))

  -- it is the only one that the list with it has alone
  event_alone : events_only_in (with_event e events) events ≡ e ∷ []
  unfolding events_only_in
  event_alone = only_new events events e not_there (λ f member. has_event-member events f member)

  -- and the others stand there still
  stays_in : (f : PlainEvent) → IsMember events f → has_event (with_event e events) f ≡ true
  unfolding has_id
  stays_in f member =
      let other : bytes_eq e.id f.id ≡ false = bytes_eq_comm e.id f.id ∙ list_any-false (λ (g : PlainEvent). bytes_eq g.id e.id) events f absent member in
      found-has_event f.id f (with_event e events) (event_with-put f.id e events absent ∙ cond-false (bytes_eq e.id f.id) _ _ other ∙ event_with-member events f history member)

-- ---- the change

-- a change that adds one event leads to the list with it
IsChange-alone : {T : Type 0} (rank : T → ℤ) (theory : Theory) (table : List KeptProp) (events : List (Kept T)) (event : Event T) (list : List Entry) (change : Change T)
    → IsTrue (is_history (history_of rank events)) → has_id event.id (history_of rank events) ≡ false → shown_entries table list ≡ Some (entries_of theory event.term)
    → change.remove ≡ [] → change.add ≡ event ∷ [] → change.entries ≡ list ∷ [] → IsChange rank theory table events (with_event (event_of rank event) (history_of rank events)) change
unfolding is_ascending
IsChange-alone rank theory table events event list change history absent shown removes adds lists =
    let hist = history_of rank events in
    let e = event_of rank event in
    record {
      history = is_history-with_event e hist history absent;
      removed = λ kept among.
          ap (has_slot kept.0) removes
          ∙ sym (ap not (stays_in hist e history absent (plain_of rank kept) (IsMember-map (plain_of rank) events kept (IsMember-from_contains events kept among))));
      times = subst (All (λ (removal : Removal _). option_map (λ event. event.at) (event_at removal.slot events) ≡ Some removal.at)) (sym removes) (All-nil _);
      order = ap (is_ascending (removal_before rank)) removes;
      added = ap (map (event_of rank)) adds ∙ sym (event_alone hist e history absent);
      entries = ap (map (shown_entries table)) lists ∙ ap (λ o. o ∷ []) shown ∙ sym (ap (map (entries_to_show theory)) adds);
    }

-- an event that has come into the tables leads there, within the limits
pub LeadsTo-come_in : {T : Type 0} (rank : T → ℤ) (theory : Theory) (view : View T) (tally : Tally) (event : Event T) (fresh : List PropId) (list : List Entry) (change : Change T)
    → HasComeIn rank theory view.store.events (event_of rank event) view tally fresh list → IsTrue (is_history (history_of rank view.store.events))
    → IsWithinLimits theory (history_of rank view.store.events) → has_id event.id (history_of rank view.store.events) ≡ false → length (history_of rank view.store.events) + 1 ≤ most_events
    → change.remove ≡ [] → change.add ≡ event ∷ [] → change.entries ≡ list ∷ []
    → LeadsTo rank theory view tally change fresh [] (with_event (event_of rank event) (history_of rank view.store.events))
LeadsTo-come_in rank theory view tally event fresh list change come history within absent room removes adds lists =
    let hist = history_of rank view.store.events in
    let e = event_of rank event in
    let limits = few-let_in theory (with_event e hist) (with_event e hist) come.few in
    let one_more = length-with_event e hist in
    record {
      underway = record {
        both = come.both;
        change_is = IsChange-alone rank theory view.table view.store.events event list change history absent come.shown removes adds lists;
        few_old = within.few_mentions;
        few_new = limits.0;
      };
      within = record { few_events = omega arith; few_mentions = limits.0; few_links = limits.1 };
      fresh_listed = come.listed;
      idle_listed = listed-more theory hist (with_event e hist) view.table view.table (λ id. has_number id fresh) (λ id. has_number id fresh || has_number id [])
          (λ id p is. inl is) (λ id p is live. or_left _ _ (is_live-with theory e hist p live)) (λ id was. or_left _ _ was) come.listed;
    }

-- the same where the store of the parts has the events
pub LeadsTo-arrived : {T : Type 0} (rank : T → ℤ) (theory : Theory) (events : List (Kept T)) (view : View T) (tally : Tally) (event : Event T) (fresh : List PropId) (list : List Entry) (change : Change T)
    → view.store.events ≡ events → HasComeIn rank theory events (event_of rank event) view tally fresh list → IsTrue (is_history (history_of rank events))
    → IsWithinLimits theory (history_of rank events) → has_id event.id (history_of rank events) ≡ false → length (history_of rank events) + 1 ≤ most_events
    → change.remove ≡ [] → change.add ≡ event ∷ [] → change.entries ≡ list ∷ []
    → LeadsTo rank theory view tally change fresh [] (with_event (event_of rank event) (history_of rank events))
LeadsTo-arrived rank theory events view tally event fresh list change stored come history within absent room removes adds lists =
    subst (λ es. LeadsTo rank theory view tally change fresh [] (with_event (event_of rank event) (history_of rank es))) stored
    (LeadsTo-come_in rank theory view tally event fresh list change
    (subst (λ es. HasComeIn rank theory es (event_of rank event) view tally fresh list) (sym stored) come)
    (subst (λ es. IsTrue (is_history (history_of rank es))) (sym stored) history)
    (subst (λ es. IsWithinLimits theory (history_of rank es)) (sym stored) within)
    (subst (λ es. has_id event.id (history_of rank es) ≡ false) (sym stored) absent)
    (subst (λ es. length (history_of rank es) + 1 ≤ most_events) (sym stored) room)
    removes adds lists)

-- ---- what comes of it

module _ {T : Type 0} (rank : T → ℤ) (theory : Theory) (events : List (Kept T)) (e : PlainEvent) (view : View T) (tally : Tally) where
  -- an event that is turned away leaves the parts at the list of the store
  pub stands_turned_away : (refusal : Refusal) → IsTurnedAway rank theory events e view tally refusal → StandFor rank theory (history_of rank events) view tally
  stands_turned_away (Update place cut) away = away.1
  stands_turned_away (Memory none) away = away.1

  -- and the list as it was
  pub IsRevised-turned_away : (refusal : Refusal) → IsTurnedAway rank theory events e view tally refusal
      → IsRevised theory (history_of rank events) (asserting e ∷ []) (Err refusal) (history_of rank view.store.events)
  IsRevised-turned_away (Update place cut) away = (away.0, away.1.both.caches.events_of)
  IsRevised-turned_away (Memory none) away = (away.0, away.1.both.caches.events_of)

-- a change leads to the same list under the same theory, with the same properties listed
pub LeadsTo-moved : {T : Type 0} (rank : T → ℤ) (theory later : Theory) (view : View T) (tally : Tally) (change : Change T) (fresh given dying : List PropId) (soon : List PlainEvent)
    → later ≡ theory → given ≡ fresh → LeadsTo rank theory view tally change fresh dying soon → LeadsTo rank later view tally change given dying soon
LeadsTo-moved rank theory later view tally change fresh given dying soon theories givens leads =
    subst (λ t. LeadsTo rank t view tally change given dying soon) (sym theories) (subst (λ ids. LeadsTo rank theory view tally change ids dying soon) (sym givens) leads)
