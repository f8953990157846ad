-- The search cuts the list behind those up to the time.
use Rattle.std.proofs.Common.{rules}
use Rattle.std.specs.Prelude.{int_le}
use Rattle.std.proofs.lemmas.List.Sorted.{IsPartitionPoint-from_clause}
use Rattle.ec_lists.proofs.Partitions.{length-partition}
use Rattle.ec_sweep.proofs.TimedRuns.{IsPartitionedBy-up_to}
use Rattle.ec_sweep.proofs.runs.count_removals.Goals as goal

pub returns-clause-count : goal.returns-clause-count
returns-clause-count g c =
    length-partition (λ x. int_le (g.T.Moment.rank x.at) (g.T.Moment.rank c.args.at)) c.args.removals.now c.partition_point.result c.partition_point.ensures.bound
    (IsPartitionPoint-from_clause (λ x. int_le (g.T.Moment.rank x.at) (g.T.Moment.rank c.args.at)) c.args.removals.now _ c.partition_point.ensures.partitioned
    (IsPartitionedBy-up_to g.T.Moment.rank (λ x. x.at) (g.T.Moment.rank c.args.at) c.args.removals.now c.requires) (λ a r f' called. search (rules, called)))
