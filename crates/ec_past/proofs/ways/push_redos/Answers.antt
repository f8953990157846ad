-- The record is made again at last.
use Rattle.std.proofs.Common.{map}
use Rattle.ec_axioms.specs.Events.{plain_update}
use Rattle.ec_past.proofs.WayLemmas.{redos_of-last}
use Rattle.ec_past.proofs.ways.push_redos.Goals as goal

pub loop-record-preserved : goal.loop-record-preserved
loop-record-preserved g c =
    redos_of-last g.T.Moment.rank c.args.records.now c.loop-record.record-index c.record-item.result c.in_ok-update.update c.loop-record.way.items c.push.new.self.items (map (plain_update g.T.Moment.rank) c.args.way.now.items)
    c.loop-record-test.true c.record-item.is c.in_ok-update.ensures c.in_ok-push.ensures.items c.loop-record.invariant
