-- The search cuts the row where the test of the closure ends.
use Rattle.std.proofs.Common.{rules, int_lt}
use Rattle.std.proofs.lemmas.List.Sorted.{IsPartitionPoint-from_clause}
use Rattle.ec_rows.proofs.TimedLemmas.{IsPartitionedBy-before, take-before, drop-from}
use Rattle.ec_block_rows.proofs.search.count_before.Goals as goal

pub returns-clause-cut : goal.returns-clause-cut
returns-clause-cut g c =
    IsPartitionPoint-from_clause (λ x. int_lt (g.T.Moment.rank (g.X.Timed.time x)) (g.T.Moment.rank c.args.at)) c.args.row.now.items _
    c.partition_near.ensures.partitioned
    (IsPartitionedBy-before g.T.Moment.rank g.X.Timed.time (g.T.Moment.rank c.args.at) c.args.row.now.items c.requires) (λ a r f' called. search (rules, called))

pub returns-clause-before : goal.returns-clause-before
returns-clause-before g c = take-before g.T.Moment.rank g.X.Timed.time (g.T.Moment.rank c.args.at) c.args.row.now.items _ (returns-clause-cut g c)

pub returns-clause-rest : goal.returns-clause-rest
returns-clause-rest g c = drop-from g.T.Moment.rank g.X.Timed.time (g.T.Moment.rank c.args.at) c.args.row.now.items _ (returns-clause-cut g c)
