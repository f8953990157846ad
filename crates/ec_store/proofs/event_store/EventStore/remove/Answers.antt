-- An event less in the records, the identities and the times is an event less in the store.
use Rattle.std.proofs.Common.{rules, ◌≡◌, Some, IsSome, subst, sym, ap, ◌∙◌, arith}
use Rattle.std.proofs.lemmas.Grind.{common_steps}
use Rattle.std.specs.Option.{option_copied}
use Rattle.ec_axioms.specs.declared.event.Event.{Event}
use Rattle.slab.specs.Slab.{get as record_at}
use Rattle.ec_axioms.specs.Changes.{without_event}
use Rattle.ec_store.specs.EventRecords.{kept_of}
use Rattle.ec_store.specs.Store.{Store, history_of, event_at, without_kept}
use Rattle.ec_store.proofs.IdentityLemmas.{IsCutAt, IsCutAt-key, IsInOrder-identities}
use Rattle.ec_store.proofs.StoreLemmas.{listed-within, IsSome-from_copied, IsSome-record, event_at-record, has_entry-live, IsStore-remove, kept_of-remove, history_of-remove}
use Rattle.ec_store.proofs.event_store.EventStore.remove.Goals as goal
use Rattle.ec_store.proofs.event_store.EventStore.remove.Goals.{After-unwrap-event}

pub unwrap-event-requires : goal.unwrap-event-requires
unwrap-event-requires g c =
    subst IsSome (sym c.try_remove.ensures.value)
    (IsSome-record g.T.Moment.rank (record_at c.self.inside.records) (g.X.TimeRow.times c.self.inside.times) _ c.args.slot (ap (λ (s : Store _). s.events) c.self.view_is) c.requires.live)

pub unwrap-requires : goal.unwrap-requires
unwrap-requires g c =
    IsSome-from_copied c.get.result _ c.get.ensures
    (IsSome-record g.T.Moment.rank (record_at c.self.inside.records) (g.X.TimeRow.times c.self.inside.times) _ c.args.slot (ap (λ (s : Store _). s.events) c.self.view_is) c.requires.live)

-- the event that the records give up is the one under the slot
shown : (g : _) (c : After-unwrap-event g) → event_at c.args.slot c.args.self.now.events ≡ Some c.unwrap-event.result
shown g c =
    event_at-record g.T.Moment.rank (record_at c.self.inside.records) (g.X.TimeRow.times c.self.inside.times) _ c.args.slot _ (ap (λ (s : Store _). s.events) c.self.view_is) c.requires.live
    (sym c.try_remove.ensures.value ∙ c.unwrap-event.ensures)

live : (g : _) (c : After-unwrap-event g) →
    event_at c.args.slot (kept_of (record_at c.self.inside.records) (g.X.TimeRow.times c.self.inside.times)) ≡ Some c.unwrap-event.result
live g c = ap (λ (s : Store _). event_at c.args.slot s.events) c.self.view_is ∙ shown g c

-- and the one whose identity was searched
cut : (g : _) (c : After-unwrap-event g) → IsCutAt (record_at c.self.inside.records) c.self.inside.identities.items c.unwrap-event.result.id c.place_of-place.result
cut g c =
    let both : Some c.unwrap.result.now ≡ Some c.unwrap-event.result = sym (ap option_copied c.unwrap.ensures) ∙ c.get.ensures ∙ sym c.try_remove.ensures.value ∙ c.unwrap-event.ensures in
    let same : c.unwrap.result.now ≡ c.unwrap-event.result = cc in
    IsCutAt-key (record_at c.self.inside.records) c.self.inside.identities.items c.key_of.result c.unwrap.result.now.id c.unwrap-event.result.id c.place_of-place.result
    c.key_of.ensures (ap (λ (e : Event _). e.id) same) c.place_of-place.ensures.cut

pub place_of-place-requires : goal.place_of-place-requires
place_of-place-requires g c =
    IsInOrder-identities (record_at c.self.inside.records) c.self.inside.identities.items c.self.invariant.keyed c.key_of.result c.unwrap.result.now.id c.key_of.ensures

pub remove-requires : goal.remove-requires
remove-requires g c =
    let at = (goal.at.remove-requires g c).After-unwrap-event in
    listed-within g.T.Moment.rank _ _ _ _ c.self.invariant c.args.slot c.unwrap-event.result (live g at) c.try_remove.ensures.updates.others
    c.place_of-place.result c.place_of-place.ensures.within (cut g at)

pub take_out-requires : goal.take_out-requires
take_out-requires g c = has_entry-live g.T.Moment.rank _ _ _ c.args.slot c.unwrap-event.result c.self.invariant (live g (goal.at.take_out-requires g c).After-unwrap-event)

pub invariant_of-self : goal.invariant_of-self
invariant_of-self g c =
    IsStore-remove g.T.Moment.rank _ _ _ _ _ c.self.invariant c.args.slot c.unwrap-event.result (live g (goal.at.invariant_of-self g c).After-unwrap-event)
    c.try_remove.ensures.updates.others c.take_out.ensures.times _ c.place_of-place.result c.place_of-place.ensures.within
    (cut g (goal.at.invariant_of-self g c).After-unwrap-event) c.remove.ensures.items

pub returns-clause-event : goal.returns-clause-event
returns-clause-event g c = shown g (goal.at.returns-clause-event g c).After-unwrap-event

pub returns-clause-events : goal.returns-clause-events
returns-clause-events g c =
    kept_of-remove g.T.Moment.rank _ _ _ _ _ c.self.invariant c.args.slot c.unwrap-event.result (live g (goal.at.returns-clause-events g c).After-unwrap-event)
    c.try_remove.ensures.updates.others c.take_out.ensures.times
    ∙ ap (λ (s : Store _). without_kept c.unwrap-event.result.id s.events) c.self.view_is

pub returns-clause-history : goal.returns-clause-history
returns-clause-history g c =
    history_of-remove g.T.Moment.rank _ _ _ _ _ c.self.invariant c.args.slot c.unwrap-event.result (live g (goal.at.returns-clause-history g c).After-unwrap-event)
    c.try_remove.ensures.updates.others c.take_out.ensures.times
    ∙ ap (λ (s : Store _). without_event c.unwrap-event.result.id (history_of g.T.Moment.rank s.events)) c.self.view_is

pub returns-clause-steps : goal.returns-clause-steps
returns-clause-steps g c = search rules

pub returns-clause-places : goal.returns-clause-places
returns-clause-places c = grind (arith, common_steps)

pub returns-clause-spare : goal.returns-clause-spare
returns-clause-spare c = grind (arith, common_steps)
