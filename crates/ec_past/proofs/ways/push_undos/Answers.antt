-- The record at the place is taken back at last.
use Rattle.std.proofs.Common.{map, arith}
use Rattle.ec_axioms.specs.Events.{plain_update}
use Rattle.ec_past.proofs.WayLemmas.{undos_of-first}
use Rattle.ec_past.proofs.ways.push_undos.Goals as goal

pub loop-place-preserved : goal.loop-place-preserved
loop-place-preserved g c = record {
  in_range = omega (arith, c.loop-place.invariant.in_range);
  so_far =
      undos_of-first g.T.Moment.rank c.args.records.now _ c.loop-place.place c.index-records-place.result c.in_ok-update.update c.loop-place.way.items c.push.new.self.items (map (plain_update g.T.Moment.rank) c.args.way.now.items)
      (omega (arith, c.loop-place-test.true)) (omega (arith, c.loop-place-test.true, c.loop-place.invariant.in_range)) c.index-records-place.is c.in_ok-update.ensures c.in_ok-push.ensures.items c.loop-place.invariant.so_far;
}
