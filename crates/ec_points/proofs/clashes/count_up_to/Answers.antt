-- The search cuts the list where the test of the closure ends.
use Rattle.std.proofs.Common.{rules}
use Rattle.std.specs.Prelude.{int_le}
use Rattle.std.proofs.lemmas.List.Sorted.{IsPartitionPoint-from_clause}
use Rattle.ec_points.specs.declared.clashes.Clash.{Clash}
use Rattle.ec_points.proofs.ClashLemmas.{IsPartitionedBy-up_to, drop-up_to}
use Rattle.ec_points.proofs.clashes.count_up_to.Goals as goal

pub returns : goal.returns
returns g c =
    drop-up_to g.T.Moment.rank (g.T.Moment.rank c.args.at) c.args.list.now.items c.partition_point.result
    (IsPartitionPoint-from_clause (λ (clash : Clash _). int_le (g.T.Moment.rank clash.at) (g.T.Moment.rank c.args.at)) c.args.list.now.items _ c.partition_point.ensures.partitioned
    (IsPartitionedBy-up_to g.T.Moment.rank (g.T.Moment.rank c.args.at) c.args.list.now.items c.requires) (λ a r f' called. search (rules, called)))
