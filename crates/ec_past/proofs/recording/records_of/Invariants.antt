-- The records so far are those of the updates so far, if the whole batch is accepted.
use Rattle.std.proofs.Common.{◌≡◌, ◌+◌, ◌≤◌, List, length, map, take, Ok}
use Rattle.ec_terms.specs.declared.theory.Theory.{Theory}
use Rattle.ec_axioms.specs.Calculus.{PlainEvent}
use Rattle.ec_axioms.specs.Events.{plain_update}
use Rattle.ec_replies.specs.Updates.{updated_by}
use Rattle.ec_store.specs.Store.{history_of}
use Rattle.ec_past.specs.Logged.{plain_records}
use Rattle.ec_past.specs.Records.{AreRecordsOf}
use Rattle.ec_past.proofs.recording.records_of.Given as goal

abbrev pub invariant-loop-update : goal.invariant-loop-update
invariant-loop-update g l = record {
  records : (theory : Theory) (after : List PlainEvent) → updated_by theory (history_of g.T.Moment.rank l.store.events) (map (plain_update g.T.Moment.rank) l.batch) ≡ Ok after
      → AreRecordsOf theory (history_of g.T.Moment.rank l.store.events) (map (plain_update g.T.Moment.rank) (take l.update-index l.batch)) (plain_records g.T.Moment.rank l.records.items);
  few : length l.records.items ≤ l.update-index;
  few_steps : l.steps ≤ l.initial.steps + l.update-index;
}
