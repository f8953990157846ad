-- The search cuts the list where the test of the closure ends.
use Rattle.std.proofs.Common.{rules}
use Rattle.std.proofs.lemmas.List.Sorted.{IsPartitionPoint-from_clause}
use Rattle.ec_points.proofs.ClashLemmas.{IsPartitionedBy-before, before}
use Rattle.ec_points.proofs.clashes.count_before.Goals as goal

pub returns-clause-cut : goal.returns-clause-cut
returns-clause-cut g c =
    IsPartitionPoint-from_clause (before g.T.Moment.rank c.args.clash.now) c.args.list.now.items _ c.partition_point.ensures.partitioned
    (IsPartitionedBy-before g.T.Moment.rank c.args.clash.now c.args.list.now.items c.requires) (λ a r f' called. search (rules, called))
