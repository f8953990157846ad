-- What the last record left is found, or else what the store has.
use Rattle.std.proofs.Common.{◌≡◌, None, Some, sym, ap, ◌∙◌}
use Rattle.std.specs.Prelude.{option_map}
use Rattle.ec_axioms.specs.Events.{event_of}
use Rattle.ec_store.specs.Store.{history_of}
use Rattle.ec_batch.proofs.WalkSteps.{stored_event}
use Rattle.ec_past.specs.Logged.{plain_record, plain_records}
use Rattle.ec_past.proofs.RecordLists.{found-by, none-stored}
use Rattle.ec_past.proofs.recording.event_after.Goals as goal

pub returns-in-Some-Added-clause-event : goal.returns-in-Some-Added-clause-event
returns-in-Some-Added-clause-event g c = λ theory made.
    let rank = g.T.Moment.rank in
    found-by theory c.args.id.now (history_of rank c.args.store.now.events) (plain_records rank c.args.records.now) _
    (ap (λ r. Some (plain_record rank r)) (sym c.in-Some-Added.field-0-is) ∙ c.in-Some-Added.ensures) made

pub returns-in-Some-Removed-clause-event : goal.returns-in-Some-Removed-clause-event
returns-in-Some-Removed-clause-event g c = λ theory made.
    let rank = g.T.Moment.rank in
    found-by theory c.args.id.now (history_of rank c.args.store.now.events) (plain_records rank c.args.records.now) _
    (ap (λ r. Some (plain_record rank r)) (sym c.in-Some-Removed.field-0-is) ∙ c.in-Some-Removed.ensures) made

pub returns-in-Some-clause-event : goal.returns-in-Some-clause-event
returns-in-Some-clause-event g c = λ theory made.
    let rank = g.T.Moment.rank in
    let events = c.args.store.now.events in
    let stored = stored_event rank events c.args.id.now c.in-Some.slot c.len.ensures.slots (sym c.in-Some.ensures.slot) in
    let same : Some stored.0 ≡ Some c.event.result.now = sym stored.1 ∙ c.event.ensures.event in
    ap (option_map (event_of rank)) (sym same) ∙ sym stored.2
    ∙ found-by theory c.args.id.now (history_of rank events) (plain_records rank c.args.records.now) None c.in-None.ensures made

pub returns-in-None-find-clause-event : goal.returns-in-None-find-clause-event
returns-in-None-find-clause-event g c = λ theory made.
    let rank = g.T.Moment.rank in
    none-stored rank c.args.id.now c.args.store.now.events (sym c.in-None-find.ensures.slot)
    ∙ found-by theory c.args.id.now (history_of rank c.args.store.now.events) (plain_records rank c.args.records.now) None c.in-None.ensures made
