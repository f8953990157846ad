-- What is before the time stands in front of the partition point.
use Rattle.std.specs.Prelude.{int_lt}
use Rattle.std.proofs.lemmas.List.Sorted.{IsPartitionPoint-from_clause}
use Rattle.std.proofs.Common.{rules, sym}
use Rattle.ec_axioms.specs.Events.{event_of}
use Rattle.ec_axioms.proofs.OrderedEvents.{IsPartitionedBy-before, filter-front}
use Rattle.ec_axioms.proofs.history.before.Goals as goal

pub returns : goal.returns
returns g c =
    let plain = event_of g.T.Moment.rank in
    let t = g.T.Moment.rank c.args.at in
    let parted = IsPartitionedBy-before plain c.args.events.now t c.requires.ordered in
    let point = IsPartitionPoint-from_clause (λ e. int_lt (plain e).rank t) _ _ c.partition_point-end.ensures.partitioned parted (λ a r q k. search rules) in
    sym (filter-front plain (λ e. int_lt e.rank t) c.args.events.now c.partition_point-end.result point)
