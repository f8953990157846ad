-- An event that is asserted is recorded, and one that is retracted where it is found.
use Rattle.std.proofs.Common.{None, Some, sym, subst}
use Rattle.ec_axioms.specs.declared.event.Update.{Update}
use Rattle.ec_axioms.specs.Events.{event_of, plain_update}
use Rattle.ec_store.specs.Store.{history_of}
use Rattle.ec_past.specs.Logged.{plain_records}
use Rattle.ec_past.specs.Records.{IsRecordOf, added, redone, removed}
use Rattle.ec_past.proofs.RecordLists.{recorded-assert, recorded-none, recorded-retract}
use Rattle.ec_past.proofs.recording.record_of.Goals as goal

pub returns-in_ok-copied_event-in-Assert-clause-recorded : goal.returns-in_ok-copied_event-in-Assert-clause-recorded
returns-in_ok-copied_event-in-Assert-clause-recorded g c = λ theory made.
    let rank = g.T.Moment.rank in
    let before = redone (plain_records rank c.args.records.now) (history_of rank c.args.store.now.events) in
    let copy = event_of rank c.in_ok-copied_event-in-Assert.field-0 in
    subst (λ (u : Update g.row.T.Denot). IsRecordOf theory before (plain_update rank u) (Some (added copy))) (sym c.in-Assert.is)
    (recorded-assert theory before (event_of rank c.in-Assert.event) copy c.in_ok-copied_event-in-Assert.ensures)

pub returns-in_ok-copied_event-in-Some-clause-recorded : goal.returns-in_ok-copied_event-in-Some-clause-recorded
returns-in_ok-copied_event-in-Some-clause-recorded g c = λ theory made.
    let rank = g.T.Moment.rank in
    let before = redone (plain_records rank c.args.records.now) (history_of rank c.args.store.now.events) in
    let copy = event_of rank c.in_ok-copied_event-in-Some.field-0 in
    subst (λ (u : Update g.row.T.Denot). IsRecordOf theory before (plain_update rank u) (Some (removed copy))) (sym c.in-Retract.is)
    (recorded-retract theory before c.in-Retract.id (event_of rank c.in-Some.event.now) copy c.in_ok-copied_event-in-Some.ensures (c.in-Some.ensures.event theory made))

pub returns-in-None-clause-recorded : goal.returns-in-None-clause-recorded
returns-in-None-clause-recorded g c = λ theory made.
    let rank = g.T.Moment.rank in
    let before = redone (plain_records rank c.args.records.now) (history_of rank c.args.store.now.events) in
    subst (λ (u : Update g.row.T.Denot). IsRecordOf theory before (plain_update rank u) None) (sym c.in-Retract.is)
    (recorded-none theory before c.in-Retract.id (c.in-None.ensures.event theory made))
