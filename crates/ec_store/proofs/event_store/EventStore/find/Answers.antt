-- The keys of the identities find the event that the events have.
use Rattle.std.proofs.Common.{◌≡◌, Some, sym, ap, ◌∙◌, is_some}
use Rattle.slab.specs.Slab.{get as record_at}
use Rattle.ec_store.specs.Store.{Store, slot_of}
use Rattle.ec_store.proofs.IdentityLemmas.{IsInOrder-identities, slot_of-identities, slot-from_some, slot-from_none}
use Rattle.ec_store.proofs.StoreLemmas.{event_at-slot_of, if_some_event}
use Rattle.ec_store.proofs.event_store.EventStore.find.Goals as goal
use Rattle.ec_store.proofs.event_store.EventStore.find.Goals.{In-Some}

pub find-requires : goal.find-requires
find-requires g c = IsInOrder-identities (record_at c.self.inside.records) c.self.inside.identities.items c.self.invariant.keyed c.key_of.result c.args.id.now c.key_of.ensures

-- the slot that is found is that of the event
found : (g : _) (c : In-Some g) → slot_of c.args.id.now c.args.self.now.events ≡ Some (record { 0 = c.in-Some.slot })
found g c =
    ap (λ (s : Store _). slot_of c.args.id.now s.events) (sym c.self.view_is)
    ∙ slot-from_some _ c.in-Some.slot
    (sym (c.self.invariant.found c.args.id.now)
    ∙ sym (slot_of-identities (record_at c.self.inside.records) c.self.inside.identities.items c.self.invariant.keyed c.key_of.result c.args.id.now c.key_of.ensures)
    ∙ sym c.in-Some.ensures)

pub returns-in-Some-clause-slot : goal.returns-in-Some-clause-slot
returns-in-Some-clause-slot g c = sym (found g (goal.at.returns-in-Some-clause-slot g c).In-Some)

pub returns-in-Some-clause-live : goal.returns-in-Some-clause-live
returns-in-Some-clause-live g c =
    ap is_some (event_at-slot_of g.T.Moment.rank (record_at c.self.inside.records) (g.X.TimeRow.times c.self.inside.times) _ c.args.id.now (record { 0 = c.in-Some.slot })
    (ap (λ (s : Store _). s.events) c.self.view_is) (found g (goal.at.returns-in-Some-clause-live g c).In-Some)).1

pub returns-in-Some-clause-event : goal.returns-in-Some-clause-event
returns-in-Some-clause-event g c =
    let at = event_at-slot_of g.T.Moment.rank (record_at c.self.inside.records) (g.X.TimeRow.times c.self.inside.times) _ c.args.id.now (record { 0 = c.in-Some.slot })
    (ap (λ (s : Store _). s.events) c.self.view_is) (found g (goal.at.returns-in-Some-clause-event g c).In-Some) in
    if_some_event _ _ at.0 at.1 at.2

pub returns-in-None-clause-slot : goal.returns-in-None-clause-slot
returns-in-None-clause-slot g c =
    sym (ap (λ (s : Store _). slot_of c.args.id.now s.events) (sym c.self.view_is)
    ∙ slot-from_none _ (sym (c.self.invariant.found c.args.id.now)
    ∙ sym (slot_of-identities (record_at c.self.inside.records) c.self.inside.identities.items c.self.invariant.keyed c.key_of.result c.args.id.now c.key_of.ensures)
    ∙ sym c.in-None.ensures))
