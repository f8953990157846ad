-- The search cuts the row where the test of the closure ends.
use Rattle.std.proofs.Common.{rules}
use Rattle.std.proofs.lemmas.List.Sorted.{IsPartitionPoint-from_clause}
use Rattle.ec_rows.proofs.TimeLemmas.{is_before, IsPartitionedBy-place}
use Rattle.ec_block_rows.proofs.block_times.place_in.Goals as goal

pub returns-clause-cut : goal.returns-clause-cut
returns-clause-cut g c =
    IsPartitionPoint-from_clause (is_before g.T.Moment.rank (g.T.Moment.rank c.args.at, c.args.id.now)) c.args.times.now.items _
    c.partition_point.ensures.partitioned
    (IsPartitionedBy-place g.T.Moment.rank (g.T.Moment.rank c.args.at, c.args.id.now) c.args.times.now.items c.requires) (λ a r f' called. search (rules, called))
