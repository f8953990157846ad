-- The search cuts the list where the test of the closure ends.
use Rattle.std.proofs.Common.{rules}
use Rattle.std.proofs.lemmas.List.Sorted.{IsPartitionPoint-from_clause}
use Rattle.ec_numbered.specs.Due.{comes_before}
use Rattle.ec_numbered.proofs.DueLemmas.{IsPartitionedBy-due}
use Rattle.ec_numbered.proofs.due_place.count_before.Goals as goal

pub returns-clause-cut : goal.returns-clause-cut
returns-clause-cut g c =
    IsPartitionPoint-from_clause (λ x. comes_before g.T.Moment.rank x (c.args.at, c.args.p)) c.args.dues.now.items _
    c.partition_point.ensures.partitioned
    (IsPartitionedBy-due g.T.Moment.rank (c.args.at, c.args.p) c.args.dues.now.items c.requires) (λ a r f' called. search (rules, called))
