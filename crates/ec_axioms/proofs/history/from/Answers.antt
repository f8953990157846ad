-- What is not before the time stands behind the partition point.
use Rattle.std.specs.Prelude.{int_lt, int_le}
use Rattle.std.proofs.lemmas.List.Sorted.{IsPartitionPoint-from_clause}
use Rattle.std.proofs.lemmas.List.{take_rest}
use Rattle.std.proofs.Common.{sym, ap, ◌∙◌, map, arith}
use Rattle.std.proofs.lemmas.Grind.{common_steps}
use Rattle.ec_lists.proofs.Integers.{int_le-not_lt}
use Rattle.ec_axioms.specs.Events.{event_of}
use Rattle.ec_axioms.proofs.OrderedEvents.{IsPartitionedBy-before, filter-back}
use Rattle.ec_axioms.proofs.history.from.Goals as goal

pub returns : goal.returns
returns g c =
    let plain = event_of g.T.Moment.rank in
    let t = g.T.Moment.rank c.args.at in
    let events = c.args.events.now in
    let start = c.partition_point-start.result in
    let parted = IsPartitionedBy-before plain events t c.requires.ordered in
    let point = IsPartitionPoint-from_clause (λ e. int_lt (plain e).rank t) _ _ c.partition_point-start.ensures.partitioned parted (λ a r q k. grind (arith, common_steps)) in
    ap (map plain) (take_rest events start)
    ∙ sym (filter-back plain (λ e. int_lt e.rank t) (λ e. int_le t e.rank) events start (λ e. int_le-not_lt t e.rank) point)
