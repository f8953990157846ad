-- The search cuts the row where the test of the closure ends.
use Rattle.std.proofs.Common.{rules, int_le}
use Rattle.std.proofs.lemmas.List.Sorted.{IsPartitionPoint-from_clause}
use Rattle.ec_rows.proofs.TimedLemmas.{IsCutUpTo, IsPartitionedBy-up_to, take-up_to, drop-after}
use Rattle.ec_block_rows.proofs.search.count_up_to.Goals as goal

cut : (g : _) (c : goal.After-partition_point g) → IsCutUpTo g.T.Moment.rank g.X.Timed.time (g.T.Moment.rank c.args.at) c.args.row.now.items c.partition_point.result
cut g c =
    IsPartitionPoint-from_clause (λ x. int_le (g.T.Moment.rank (g.X.Timed.time x)) (g.T.Moment.rank c.args.at)) c.args.row.now.items _
    c.partition_point.ensures.partitioned
    (IsPartitionedBy-up_to g.T.Moment.rank g.X.Timed.time (g.T.Moment.rank c.args.at) c.args.row.now.items c.requires) (λ a r f' called. search (rules, called))

pub returns-clause-up_to : goal.returns-clause-up_to
returns-clause-up_to g c = take-up_to g.T.Moment.rank g.X.Timed.time (g.T.Moment.rank c.args.at) c.args.row.now.items _ (cut g c)

pub returns-clause-rest : goal.returns-clause-rest
returns-clause-rest g c = drop-after g.T.Moment.rank g.X.Timed.time (g.T.Moment.rank c.args.at) c.args.row.now.items _ (cut g c)
