-- An event more in the records, the identities and the times is an event more in the store.
use Rattle.std.proofs.Common.{sym, ap, ◌∙◌, arith}
use Rattle.std.proofs.lemmas.Grind.{common_steps}
use Rattle.std.specs.List.{insert}
use Rattle.slab.specs.Slab.{get as record_at}
use Rattle.ec_axioms.specs.Changes.{with_event}
use Rattle.ec_axioms.specs.Events.{event_of}
use Rattle.ec_rows.specs.Times.{with_entry}
use Rattle.ec_store.specs.Store.{Store, history_of, slot_of, event_at, with_kept}
use Rattle.ec_store.specs.Identities.{key_of}
use Rattle.ec_store.proofs.IdentityLemmas.{IsInOrder-identities, IsCutAt-key}
use Rattle.ec_store.proofs.StoreLemmas.{has_entry-absent, IsStore-insert, kept_of-insert, history_of-insert, event_at-insert, event_at-free}
use Rattle.ec_store.proofs.event_store.EventStore.insert.Goals as goal

pub put-requires-clause-absent : goal.put-requires-clause-absent
put-requires-clause-absent g c =
    rw c.copied-id.ensures.same
    (has_entry-absent g.T.Moment.rank _ _ _ (g.T.Moment.rank c.args.event.at) c.args.event.id c.self.invariant
    (ap (λ (s : Store _). slot_of c.args.event.id s.events) c.self.view_is ∙ c.requires.absent))

pub place_of-place-requires : goal.place_of-place-requires
place_of-place-requires g c =
    IsInOrder-identities (record_at c.self.inside.records) c.self.inside.identities.items c.self.invariant.keyed c.key_of-key.result c.copied-id.result c.key_of-key.ensures

pub invariant_of-self : goal.invariant_of-self
invariant_of-self g c =
    IsStore-insert g.T.Moment.rank _ _ _ _ _ c.self.invariant (record { 0 = c.insert_reserved.result }, c.args.event)
    (ap (λ (s : Store _). slot_of c.args.event.id s.events) c.self.view_is ∙ c.requires.absent)
    c.insert_reserved.ensures.was_vacant c.insert_reserved.ensures.updates.changed c.insert_reserved.ensures.updates.others
    (c.put.ensures.times
    ∙ ap (λ id. with_entry g.T.Moment.rank (c.args.event.at, id, record { 0 = c.insert_reserved.result }) (g.X.TimeRow.times c.self.inside.times)) c.copied-id.ensures.same)
    _ c.place_of-place.result c.place_of-place.ensures.within
    (IsCutAt-key (record_at c.self.inside.records) c.self.inside.identities.items c.key_of-key.result c.copied-id.result c.args.event.id c.place_of-place.result
    c.key_of-key.ensures c.copied-id.ensures.same c.place_of-place.ensures.cut)
    (c.insert.ensures.items
    ∙ ap (λ n. insert c.self.inside.identities.items c.place_of-place.result (record { key = n; slot = c.insert_reserved.result }))
    (c.key_of-key.ensures ∙ ap key_of c.copied-id.ensures.same))

pub returns-clause-free : goal.returns-clause-free
returns-clause-free g c =
    sym (ap (λ (s : Store _). event_at (record { 0 = c.insert_reserved.result }) s.events) c.self.view_is)
    ∙ event_at-free g.T.Moment.rank (record_at c.self.inside.records) (g.X.TimeRow.times c.self.inside.times) (record { 0 = c.insert_reserved.result }) c.insert_reserved.ensures.was_vacant

pub returns-clause-slot : goal.returns-clause-slot
returns-clause-slot g c =
    event_at-insert g.T.Moment.rank _ _ _ _ _ c.self.invariant (record { 0 = c.insert_reserved.result }, c.args.event)
    (ap (λ (s : Store _). slot_of c.args.event.id s.events) c.self.view_is ∙ c.requires.absent)
    c.insert_reserved.ensures.was_vacant c.insert_reserved.ensures.updates.changed c.insert_reserved.ensures.updates.others
    (c.put.ensures.times
    ∙ ap (λ id. with_entry g.T.Moment.rank (c.args.event.at, id, record { 0 = c.insert_reserved.result }) (g.X.TimeRow.times c.self.inside.times)) c.copied-id.ensures.same)

pub returns-clause-events : goal.returns-clause-events
returns-clause-events g c =
    kept_of-insert g.T.Moment.rank _ _ _ _ _ c.self.invariant (record { 0 = c.insert_reserved.result }, c.args.event)
    (ap (λ (s : Store _). slot_of c.args.event.id s.events) c.self.view_is ∙ c.requires.absent)
    c.insert_reserved.ensures.was_vacant c.insert_reserved.ensures.updates.changed c.insert_reserved.ensures.updates.others
    (c.put.ensures.times
    ∙ ap (λ id. with_entry g.T.Moment.rank (c.args.event.at, id, record { 0 = c.insert_reserved.result }) (g.X.TimeRow.times c.self.inside.times)) c.copied-id.ensures.same)
    ∙ ap (λ (s : Store _). with_kept g.T.Moment.rank (record { 0 = c.insert_reserved.result }, c.args.event) s.events) c.self.view_is

pub returns-clause-history : goal.returns-clause-history
returns-clause-history g c =
    history_of-insert g.T.Moment.rank _ _ _ _ _ c.self.invariant (record { 0 = c.insert_reserved.result }, c.args.event)
    (ap (λ (s : Store _). slot_of c.args.event.id s.events) c.self.view_is ∙ c.requires.absent)
    c.insert_reserved.ensures.was_vacant c.insert_reserved.ensures.updates.changed c.insert_reserved.ensures.updates.others
    (c.put.ensures.times
    ∙ ap (λ id. with_entry g.T.Moment.rank (c.args.event.at, id, record { 0 = c.insert_reserved.result }) (g.X.TimeRow.times c.self.inside.times)) c.copied-id.ensures.same)
    ∙ ap (λ (s : Store _). with_event (event_of g.T.Moment.rank c.args.event) (history_of g.T.Moment.rank s.events)) c.self.view_is

pub insert-requires-clause-room : goal.insert-requires-clause-room
insert-requires-clause-room c = grind (arith, common_steps)

pub put-requires-clause-room : goal.put-requires-clause-room
put-requires-clause-room c = grind (arith, common_steps)

pub insert_reserved-requires : goal.insert_reserved-requires
insert_reserved-requires c = grind (arith, common_steps)

pub returns-clause-places : goal.returns-clause-places
returns-clause-places c = grind (arith, common_steps)

pub returns-clause-spare : goal.returns-clause-spare
returns-clause-spare c = grind (arith, common_steps)
