-- The events that a change takes out and puts in: each stands in one of the two lists alone, at its time.
use Rattle.std.proofs.Common.{◌≡◌, ℤ, true, false, List, [], ◌∷◌, ◌&&◌, Option, Some, None, option_map, map, find, refl, sym, ap, ap₂, subst, ◌∙◌}
use Rattle.std.specs.Prelude.{Contains, ◌==◌, int_le, not}
use Rattle.std.specs.List.{list_all}
use Rattle.std.proofs.lemmas.Bool.{eqb-true, eq-eqb, not-true}
use Rattle.std.proofs.lemmas.List.Elements.{All-contains}
use Rattle.ec_terms.specs.declared.theory.Theory.{Theory}
use Rattle.ec_axioms.specs.declared.event.Event.{Event}
use Rattle.ec_axioms.specs.Calculus.{PlainEvent}
use Rattle.ec_axioms.specs.Changes.{comes_before, events_only_in, has_event, is_history}
use Rattle.ec_axioms.specs.Events.{event_of}
use Rattle.ec_axioms.proofs.Members.{Contains-from_member, IsMember-from_contains, find-Some, member-list_any}
use Rattle.ec_axioms.proofs.OrderedEvents.{is_history-filter}
use Rattle.ec_axioms.proofs.Instants.{int_le-comes_before}
use Rattle.ec_store.specs.Store.{Kept, event_at, history_of, plain_of}
use Rattle.ec_store.specs.Table.{KeptProp}
use Rattle.ec_rows.specs.Ordered.{is_ascending}
use Rattle.ec_lists.proofs.Booleans.{and-left, and-right}
use Rattle.ec_revise.specs.declared.change.Change.{Change}
use Rattle.ec_revise.specs.declared.change.Removal.{Removal}
use Rattle.ec_revise.specs.Change.{IsChange}

-- ---- added events

-- events that are a history are in order of time
pub is_ascending-history : {T : Type 0} (rank : T → ℤ) (add : List (Event T)) → is_history (map (event_of rank) add) ≡ true
    → is_ascending (λ (e f : Event T). int_le (rank e.at) (rank f.at)) add ≡ true
unfolding is_ascending is_history
is_ascending-history rank [] history = refl
is_ascending-history {T} rank (e ∷ add) history =
    ap₂ (λ a b. a && b) (each add (and-left _ _ (and-left _ _ history))) (is_ascending-history rank add (and-right _ _ history))
  where
    each : (es : List (Event T)) → list_all (comes_before (event_of rank e)) (map (event_of rank) es) ≡ true → list_all (λ (f : Event T). int_le (rank e.at) (rank f.at)) es ≡ true
    each [] all = refl
    each (f ∷ es) all = ap₂ (λ a b. a && b) (int_le-comes_before (event_of rank e) (event_of rank f) (and-left _ _ all)) (each es (and-right _ _ all))

module _ {T : Type 0} (rank : T → ℤ) (theory : Theory) (table : List KeptProp) (events : List (Kept T)) (new : List PlainEvent) (change : Change T)
    (is : IsChange rank theory table events new change) where
  -- the added events are in order of time
  pub added-order : is_ascending (λ (e f : Event T). int_le (rank e.at) (rank f.at)) change.add ≡ true
  unfolding events_only_in
  added-order = is_ascending-history rank change.add (subst (λ es. is_history es ≡ true) (sym is.added) (is_history-filter (λ e. not (has_event (history_of rank events) e)) new is.history))

  -- a removed event stands in the store under its slot, at its time, and not in the new list
  pub record IsRemoved (removal : Removal T) : Type 0 where
    pub kept : Kept T
    pub member : Contains events kept
    pub slot : kept.0.0 ≡ removal.slot.0
    pub time : kept.1.at ≡ removal.at
    pub gone : has_event new (plain_of rank kept) ≡ false

  pub IsRemoved-of : (removal : Removal T) → Contains change.remove removal → IsRemoved removal
  IsRemoved-of removal contained = of (find (λ (kept : Kept T). kept.0.0 == removal.slot.0) events) refl (All-contains (λ (r : Removal T). option_map (λ event. event.at) (event_at r.slot events) ≡ Some r.at) change.remove removal is.times contained)
    where
      of : (o : Option (Kept T)) → find (λ (kept : Kept T). kept.0.0 == removal.slot.0) events ≡ o
          → option_map (λ event. event.at) (event_at removal.slot events) ≡ Some removal.at → IsRemoved removal
      of None none time = cc
      of (Some kept) some time =
          let found = find-Some (λ (k : Kept T). k.0.0 == removal.slot.0) events kept some in
          let member : Contains events kept = Contains-from_member events kept found.0 in
          let slot : kept.0.0 ≡ removal.slot.0 = eqb-true kept.0.0 removal.slot.0 found.1 in
          record {
            kept = kept;
            member = member;
            slot = slot;
            time = let at : Some kept.1.at ≡ Some removal.at = sym (ap (λ o. option_map (λ (e : Event T). e.at) (option_map (λ (k : Kept T). k.1) o)) some) ∙ time in cc;
            gone = not-true (has_event new (plain_of rank kept))
                (sym (is.removed kept member)
                ∙ member-list_any (λ (r : Removal T). r.slot.0 == kept.0.0) change.remove removal (IsMember-from_contains change.remove removal contained) (eq-eqb removal.slot.0 kept.0.0 (sym slot)));
          }
