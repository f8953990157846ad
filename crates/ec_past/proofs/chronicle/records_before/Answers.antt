-- The store has the events of the engine.
use Rattle.std.proofs.Common.{map}
use Rattle.ec_axioms.specs.Events.{plain_update}
use Rattle.ec_store.specs.Store.{history_of}
use Rattle.ec_past.proofs.RecordLists.{records-stored}
use Rattle.ec_past.proofs.chronicle.records_before.Goals as goal

pub returns-clause-records : goal.returns-clause-records
returns-clause-records g c =
    let rank = g.T.Moment.rank in
    records-stored rank c.args.engine.now.theory (history_of rank c.store_of.result.now.events) c.args.engine.now.events (map (plain_update rank) c.args.batch.now) c.records_of.result
    c.store_of.ensures.events c.records_of.ensures.records
