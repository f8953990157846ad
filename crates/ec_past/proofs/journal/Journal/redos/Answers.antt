-- What is kept at the place is made again at last.
use Rattle.std.proofs.Common.{map, sym, ap, ◌∙◌, arith}
use Rattle.ec_axioms.specs.Events.{plain_update}
use Rattle.ec_past.specs.Logged.{plain_records}
use Rattle.ec_past.specs.Ways.{redos_of_all}
use Rattle.ec_past.proofs.WayLemmas.{places-none, redos-last}
use Rattle.ec_past.proofs.journal.Journal.redos.Goals as goal

pub loop-place-init : goal.loop-place-init
loop-place-init g c = record {
  above = c.requires.order;
  below = omega arith;
  so_far = ap (map (plain_update g.T.Moment.rank)) c.new-way.ensures.items ∙ sym (ap redos_of_all (places-none c.args.high c.args.self.now.kept));
}

pub loop-place-preserved : goal.loop-place-preserved
loop-place-preserved g c = record {
  above = omega (arith, c.loop-place-test.true);
  below = omega (arith, c.loop-place.invariant.below);
  so_far =
      redos-last _ c.loop-place.place c.args.high c.args.self.now.kept (plain_records g.T.Moment.rank c.records.result.now) (map (plain_update g.T.Moment.rank) c.loop-place.way.items) (map (plain_update g.T.Moment.rank) c.push_redos.new.way.items)
      (omega (arith, c.loop-place-test.true)) c.records.ensures (omega (arith, c.loop-place-test.true, c.loop-place.invariant.below)) c.loop-place.invariant.so_far c.in_ok-push_redos.ensures;
}
