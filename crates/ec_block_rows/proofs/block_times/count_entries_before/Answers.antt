-- The search cuts the row where the test of the closure ends.
use Rattle.std.proofs.Common.{rules, int_lt}
use Rattle.std.proofs.lemmas.List.Sorted.{IsPartitionPoint-from_clause}
use Rattle.ec_rows.proofs.TimeLemmas.{IsPartitionedBy-time, length-entries_before}
use Rattle.ec_block_rows.proofs.block_times.count_entries_before.Goals as goal

pub returns : goal.returns
returns g c =
    length-entries_before g.T.Moment.rank (g.T.Moment.rank c.args.at) c.args.times.now.items _ c.partition_point.ensures.bound
    (IsPartitionPoint-from_clause (λ entry. int_lt (g.T.Moment.rank entry.0) (g.T.Moment.rank c.args.at)) c.args.times.now.items _
    c.partition_point.ensures.partitioned
    (IsPartitionedBy-time g.T.Moment.rank (g.T.Moment.rank c.args.at) c.args.times.now.items c.requires) (λ a r f' called. search (rules, called)))
