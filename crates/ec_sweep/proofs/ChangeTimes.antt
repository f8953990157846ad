-- The times of a change: its lists ascend by them, and each event that stands in one list alone has its time among them.
use Rattle.std.proofs.Common.{◌≡◌, ℤ, true, not, List, find, Some, IsTrue, sym, ap, subst, ◌∙◌}
use Rattle.std.specs.Prelude.{◌==◌, option_map}
use Rattle.std.specs.List.{All}
use Rattle.std.proofs.lemmas.Bool.{eqb-true}
use Rattle.std.proofs.lemmas.List.Elements.{All-contains}
use Rattle.ec_rows.proofs.OrderedPairs.{IsPairwise-from_map}
use Rattle.ec_terms.specs.declared.theory.Theory.{Theory}
use Rattle.ec_axioms.specs.declared.event.Event.{Event}
use Rattle.ec_axioms.specs.Calculus.{PlainEvent}
use Rattle.ec_axioms.specs.Changes.{comes_before, events_only_in, has_event}
use Rattle.ec_axioms.specs.Events.{event_of}
use Rattle.ec_axioms.proofs.Members.{Contains-from_member, IsMember, IsMember-from_filter, IsMember-from_map, IsPairwise, IsPairwise-filter, list_any-member}
use Rattle.ec_axioms.proofs.Instants.{int_le-comes_before}
use Rattle.ec_changes.proofs.KeptEvents.{IsPairwise-from_history}
use Rattle.ec_store.specs.Store.{Kept, event_at, history_of, plain_of}
use Rattle.ec_store.specs.Table.{KeptProp}
use Rattle.ec_revise.specs.declared.change.Change.{Change}
use Rattle.ec_revise.specs.declared.change.Removal.{Removal}
use Rattle.ec_revise.specs.Change.{IsChange, has_slot, removal_before}
use Rattle.ec_sweep.proofs.Gaps.{ascends_by, ascends_by-order, ascends_by-pairs}
use Rattle.ec_sweep.proofs.NextVisit.{removal_before-le}

module _ {T : Type 0} (rank : T → ℤ) (theory : Theory) (table : List KeptProp) (events : List (Kept T)) (new : List PlainEvent) (change : Change T)
    (is : IsChange rank theory table events new change) where
  -- removals ascend by their times
  pub removals_ascend : ascends_by (λ (removal : Removal T). rank removal.at) change.remove ≡ true
  removals_ascend = ascends_by-order (removal_before rank) (λ (removal : Removal T). rank removal.at) (removal_before-le rank) change.remove is.order

  -- and so do added events
  pub additions_ascend : ascends_by (λ (event : Event T). rank event.at) change.add ≡ true
  unfolding events_only_in
  additions_ascend =
      ascends_by-pairs (λ (e f : Event T). IsTrue (comes_before (event_of rank e) (event_of rank f))) (λ (event : Event T). rank event.at)
      (λ e f before. int_le-comes_before (event_of rank e) (event_of rank f) before) change.add
      (IsPairwise-from_map (λ e f. IsTrue (comes_before e f)) (event_of rank) change.add
      (subst (IsPairwise (λ e f. IsTrue (comes_before e f))) (sym is.added)
      (IsPairwise-filter (λ e f. IsTrue (comes_before e f)) (λ e. not (has_event (history_of rank events) e)) new (IsPairwise-from_history new is.history))))

  -- an event of the old list alone is removed at its time
  pub removal_of : All (λ (kept : Kept T). event_at kept.0 events ≡ Some kept.1) events → (e : PlainEvent) → IsMember (events_only_in (history_of rank events) new) e
      → (removal : Removal T) × IsMember change.remove removal × (rank removal.at ≡ e.rank)
  unfolding events_only_in
  removal_of slots e member =
      let single = IsMember-from_filter (λ e. not (has_event new e)) (history_of rank events) e member in
      let kept = IsMember-from_map (plain_of rank) events e single.0 in
      let gone : has_slot kept.0.0 change.remove ≡ true =
      is.removed kept.0 (Contains-from_member events kept.0 kept.1) ∙ ap (λ f. not (has_event new f)) kept.2 ∙ single.1 in
      let found = list_any-member (λ (removal : Removal T). removal.slot.0 == kept.0.0.0) change.remove gone in
      (found.0, found.1, ap rank (time kept.0 found.0 (eqb-true found.0.slot.0 kept.0.0.0 found.2) kept.1 found.1) ∙ ap (λ f. f.rank) kept.2)
    where
      time : (kept : Kept T) (removal : Removal T) → removal.slot.0 ≡ kept.0.0 → IsMember events kept → IsMember change.remove removal → removal.at ≡ kept.1.at
      time kept removal number member removed =
          let at_slot : event_at kept.0 events ≡ Some kept.1 = All-contains (λ (k : Kept T). event_at k.0 events ≡ Some k.1) events kept slots (Contains-from_member events kept member) in
          let at_removal : option_map (λ (event : Event T). event.at) (event_at removal.slot events) ≡ Some removal.at =
          All-contains (λ (r : Removal T). option_map (λ (event : Event T). event.at) (event_at r.slot events) ≡ Some r.at) change.remove removal is.times
          (Contains-from_member change.remove removal removed) in
          let same : event_at removal.slot events ≡ event_at kept.0 events = ap (λ n. option_map (λ (k : Kept T). k.1) (find (λ (k : Kept T). k.0.0 == n) events)) number in
          let times : Some removal.at ≡ Some kept.1.at = sym at_removal ∙ ap (option_map (λ (event : Event T). event.at)) (same ∙ at_slot) in
          cc

  -- an event of the new list alone is added at its time
  pub addition_of : (e : PlainEvent) → IsMember (events_only_in new (history_of rank events)) e → (event : Event T) × IsMember change.add event × (rank event.at ≡ e.rank)
  addition_of e member =
      let found = IsMember-from_map (event_of rank) change.add e (subst (λ events. IsMember events e) (sym is.added) member) in
      (found.0, found.1, ap (λ f. f.rank) found.2)
