-- Each update of a batch that is accepted has its record.
use Rattle.std.proofs.Common.{◌+◌, List, [], ◌∷◌, Option, length, map, take, sym, ap, ◌∙◌, subst, length-append, arith}
use Rattle.std.specs.Prelude.{option_map}
use Rattle.std.proofs.lemmas.List.{map-append, take_all}
use Rattle.ec_axioms.specs.declared.event.Update.{Update}
use Rattle.ec_axioms.specs.Events.{plain_update}
use Rattle.ec_store.specs.Store.{history_of}
use Rattle.ec_past.specs.declared.log_record.LogRecord.{LogRecord}
use Rattle.ec_past.specs.Logged.{plain_record, plain_records}
use Rattle.ec_past.specs.Records.{AreMade, AreRecordsOf, IsRecordOf, PlainRecord, redone}
use Rattle.ec_past.proofs.RecordLists.{recorded-more, recorded-never}
use Rattle.ec_past.proofs.recording.records_of.Goals as goal

pub returns-in_default-clause-records : goal.returns-in_default-clause-records
returns-in_default-clause-records g c = λ theory after accepted.
    let rank = g.T.Moment.rank in
    let before = history_of rank c.args.store.now.events in
    let update = plain_update rank c.update-item.result in
    let so_far = c.loop-update.invariant.records theory after accepted in
    let so = subst (λ (rs : List (LogRecord g.row.T.Denot)). IsRecordOf theory (redone (plain_records rank rs) before) update (option_map (plain_record rank) c.in_ok-record.field-0)) c.as_slice.ensures.value
    (c.in_ok-record.ensures.recorded theory (subst (λ (rs : List (LogRecord g.row.T.Denot)). AreMade theory before (plain_records rank rs)) (sym c.as_slice.ensures.value) so_far.made)) in
    absurd
    (recorded-never (plain_update rank) theory before after c.args.batch.now c.loop-update.update-index c.update-item.result (plain_records rank c.loop-update.records.items) accepted so_far c.loop-update-test.true c.update-item.is
    (subst (λ (o : Option (LogRecord g.row.T.Denot)). IsRecordOf theory (redone (plain_records rank c.loop-update.records.items) before) update (option_map (plain_record rank) o)) c.in_default.is so))

pub loop-update-preserved : goal.loop-update-preserved
loop-update-preserved g c = record {
  records = λ theory after accepted.
      let rank = g.T.Moment.rank in
      let before = history_of rank c.args.store.now.events in
      let update = plain_update rank c.update-item.result in
      let items = c.loop-update.records.items in
      let so_far = c.loop-update.invariant.records theory after accepted in
      let so = subst (λ (rs : List (LogRecord g.row.T.Denot)). IsRecordOf theory (redone (plain_records rank rs) before) update (option_map (plain_record rank) c.in_ok-record.field-0)) c.as_slice.ensures.value
      (c.in_ok-record.ensures.recorded theory (subst (λ (rs : List (LogRecord g.row.T.Denot)). AreMade theory before (plain_records rank rs)) (sym c.as_slice.ensures.value) so_far.made)) in
      let all = ap (plain_records rank) c.in_ok-push.ensures.items ∙ map-append (plain_record rank) items (c.in-Some.record ∷ []) in
      subst (λ (rs : List PlainRecord). AreRecordsOf theory before (map (plain_update rank) (take (c.loop-update.update-index + 1) c.args.batch.now)) rs) (sym all)
      (recorded-more (plain_update rank) theory before after c.args.batch.now c.loop-update.update-index c.update-item.result (plain_records rank items) accepted so_far c.loop-update-test.true c.update-item.is
      (plain_record rank c.in-Some.record)
      (subst (λ (o : Option (LogRecord g.row.T.Denot)). IsRecordOf theory (redone (plain_records rank items) before) update (option_map (plain_record rank) o)) c.in-Some.is so));
  few = omega (arith, ap length c.in_ok-push.ensures.items, length-append c.loop-update.records.items (c.in-Some.record ∷ []), c.loop-update.invariant.few);
  few_steps = omega (arith, c.in_ok-record.ensures.steps, c.loop-update.invariant.few_steps);
}

pub returns-clause-records : goal.returns-clause-records
returns-clause-records g c = λ theory after accepted.
    let rank = g.T.Moment.rank in
    let before = history_of rank c.args.store.now.events in
    subst (λ (rs : List (LogRecord g.row.T.Denot)). AreRecordsOf theory before (map (plain_update rank) c.args.batch.now) (plain_records rank rs)) (sym c.from_vec.ensures)
    (subst (λ (us : List (Update g.row.T.Denot)). AreRecordsOf theory before (map (plain_update rank) us) (plain_records rank c.loop-update.records.items)) (take_all c.loop-update.update-index c.args.batch.now c.loop-update-test.false)
    (c.loop-update.invariant.records theory after accepted))
