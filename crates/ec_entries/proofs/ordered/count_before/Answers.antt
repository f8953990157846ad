-- The search cuts the list where the test of the closure ends.
use Rattle.std.proofs.Common.{rules}
use Rattle.std.proofs.lemmas.List.Sorted.{IsPartitionPoint-from_clause}
use Rattle.ec_entries.proofs.Orders.{IsPartitionedBy-earlier}
use Rattle.ec_entries.proofs.Readings.{earlier}
use Rattle.ec_entries.proofs.ordered.count_before.Goals as goal

pub returns-clause-cut : goal.returns-clause-cut
returns-clause-cut g c =
    IsPartitionPoint-from_clause (earlier g.T.Moment.rank (g.T.Moment.rank c.args.at)) c.args.list.now.items _ c.partition_near.ensures.partitioned
    (IsPartitionedBy-earlier g.T.Moment.rank (g.T.Moment.rank c.args.at) c.args.list.now.items c.requires) (λ a r f' called. search (rules, called))
