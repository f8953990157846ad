-- The search cuts the rows where the test of the closure ends.
use Rattle.std.proofs.Common.{rules}
use Rattle.std.proofs.lemmas.List.Sorted.{IsPartitionPoint-from_clause}
use Rattle.ec_terms.specs.Term.{ground_of}
use Rattle.ec_watch.specs.Watched.{is_below}
use Rattle.ec_watch.proofs.Cuts.{IsPartitionedBy-below}
use Rattle.ec_watch.proofs.watches.count_before.Goals as goal

pub returns-clause-cut : goal.returns-clause-cut
returns-clause-cut c =
    IsPartitionPoint-from_clause (is_below (ground_of c.args.p.now)) c.args.rows.now _
    c.partition_point.ensures.partitioned
    (IsPartitionedBy-below (ground_of c.args.p.now) c.args.rows.now c.requires.ascend) (λ a r f' called. search (rules, called))
