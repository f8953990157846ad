-- The event is let into the tables, and its change is made of it.
use Rattle.std.proofs.Common.{ap, ◌∙◌}
use Rattle.ec_axioms.specs.Changes.{with_event}
use Rattle.ec_axioms.specs.Events.{event_of}
use Rattle.ec_store.specs.Store.{history_of}
use Rattle.ec_parts.specs.StandFor.{view_of}
use Rattle.ec_batch.proofs.ComingIn.{made_alone, may_want_alone}
use Rattle.ec_batch.proofs.WalkSteps.{asked_limits, may_want-asserted}
use Rattle.ec_engine.proofs.Arrivals.{LeadsTo-arrived}
use Rattle.ec_engine.proofs.arriving.arrive_new.Goals as goal

pub returns-in-Err-clause-arrived : goal.returns-in-Err-clause-arrived
returns-in-Err-clause-arrived g c =
    let rank = g.T.Moment.rank in
    let theory = c.args.parts.now.checked in
    let hist = history_of rank c.args.parts.now.store.events in
    let e = event_of rank c.args.event in
    (may_want_alone theory hist e (may_want-asserted theory hist e c.requires.absent c.requires.room), c.requires.stand)

pub returns-in-Ok-let_in-clause-arrived : goal.returns-in-Ok-let_in-clause-arrived
returns-in-Ok-let_in-clause-arrived g c =
    let rank = g.T.Moment.rank in
    let theory = c.args.parts.now.checked in
    let events = c.args.parts.now.store.events in
    let hist = history_of rank events in
    let e = event_of rank c.args.event in
    let come = c.in-Ok-let_in.ensures.let_in in (
      made_alone theory hist (with_event e hist) e (asked_limits theory hist e c.requires.absent c.requires.room ∙ come.few),
      LeadsTo-arrived rank theory events (view_of c.let_in.new.parts) c.let_in.new.tally c.args.event c.let_in.new.fresh.items c.in-Ok-let_in.list c.addition.result
          (ap (λ s. s.events) c.in-Ok-let_in.ensures.store) come c.requires.stand.both.caches.history c.requires.within c.requires.absent c.requires.room
          c.addition.ensures.remove c.addition.ensures.add c.addition.ensures.entries,
    )
