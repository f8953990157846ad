-- The search cuts the list where the test of the closure ends.
use Rattle.std.proofs.Common.{rules}
use Rattle.std.proofs.lemmas.List.Sorted.{IsPartitionPoint-from_clause}
use Rattle.ec_entries.proofs.Orders.{IsPartitionedBy-up_to}
use Rattle.ec_entries.proofs.Readings.{up_to}
use Rattle.ec_entries.proofs.ordered.count_up_to.Goals as goal

pub returns-clause-cut : goal.returns-clause-cut
returns-clause-cut g c =
    IsPartitionPoint-from_clause (up_to g.T.Moment.rank (g.T.Moment.rank c.args.at)) c.args.list.now.items _ c.partition_near.ensures.partitioned
    (IsPartitionedBy-up_to g.T.Moment.rank (g.T.Moment.rank c.args.at) c.args.list.now.items c.requires) (λ a r f' called. search (rules, called))
