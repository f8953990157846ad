-- The search cuts the list where the test of the closure ends.
use Rattle.std.proofs.Common.{rules}
use Rattle.std.specs.Prelude.{int_lt}
use Rattle.std.proofs.lemmas.List.Sorted.{IsPartitionPoint-from_clause}
use Rattle.ec_points.specs.declared.clashes.Clash.{Clash}
use Rattle.ec_points.proofs.CalmTimes.{IsPartitionedBy-earlier}
use Rattle.ec_points.proofs.clashes.count_earlier.Goals as goal

pub returns : goal.returns
returns g c =
    IsPartitionPoint-from_clause (λ (clash : Clash _). int_lt (g.T.Moment.rank clash.at) (g.T.Moment.rank c.args.at)) c.args.list.now.items _ c.partition_point.ensures.partitioned
    (IsPartitionedBy-earlier g.T.Moment.rank (g.T.Moment.rank c.args.at) c.args.list.now.items c.requires) (λ a r f' called. search (rules, called))
