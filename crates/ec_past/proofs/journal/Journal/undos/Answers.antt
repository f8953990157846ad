-- What is kept at the place is taken back at last.
use Rattle.std.proofs.Common.{map, sym, ap, ◌∙◌, arith}
use Rattle.ec_axioms.specs.Events.{plain_update}
use Rattle.ec_past.specs.Logged.{plain_records}
use Rattle.ec_past.specs.Ways.{undos_of_all}
use Rattle.ec_past.proofs.WayLemmas.{places-none, undos-last}
use Rattle.ec_past.proofs.journal.Journal.undos.Goals as goal

pub loop-place-init : goal.loop-place-init
loop-place-init g c = ap (map (plain_update g.T.Moment.rank)) c.new-way.ensures.items ∙ sym (ap undos_of_all (places-none c.args.low c.args.self.now.kept))

pub loop-place-preserved : goal.loop-place-preserved
loop-place-preserved g c =
    undos-last c.args.low c.loop-place.place _ c.args.self.now.kept (plain_records g.T.Moment.rank c.records.result.now) (map (plain_update g.T.Moment.rank) c.loop-place.way.items) (map (plain_update g.T.Moment.rank) c.push_undos.new.way.items)
    (omega arith) c.records.ensures c.loop-place.auto.place c.loop-place.invariant c.in_ok-push_undos.ensures
