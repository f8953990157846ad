-- The search cuts the list where the test of the closure ends.
use Rattle.std.proofs.Common.{rules}
use Rattle.std.proofs.lemmas.List.Sorted.{IsPartitionPoint-from_clause}
use Rattle.ec_numbered.specs.PropSet.{comes_before}
use Rattle.ec_numbered.proofs.Numbers.{IsPartitionedBy-number}
use Rattle.ec_query.proofs.sought.count_before.Goals as goal

pub returns-clause-cut : goal.returns-clause-cut
returns-clause-cut c =
    IsPartitionPoint-from_clause (λ q. comes_before q c.args.p) c.args.list.now _
    c.partition_point.ensures.partitioned
    (IsPartitionedBy-number c.args.p c.args.list.now c.requires) (λ a r f' called. search (rules, called))
