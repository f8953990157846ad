-- The search cuts the list where the test of the closure ends; where the last number comes before, all do.
use Rattle.std.proofs.Common.{◌-◌, length, rules, arith}
use Rattle.std.proofs.lemmas.List.Sorted.{IsPartitionPoint-from_clause}
use Rattle.ec_numbered.specs.PropSet.{comes_before}
use Rattle.ec_numbered.proofs.Numbers.{IsPartitionedBy-number}
use Rattle.ec_numbered.proofs.ascending.count_before.Goals as goal

pub returns-then-is_behind_last-clause-cut : goal.returns-then-is_behind_last-clause-cut
returns-then-is_behind_last-clause-cut c = (
  (λ k d low high.
      IsPartitionedBy-number c.args.p c.args.list.now c.requires k (length c.args.list.now - 1) d (omega (arith, high)) (omega (arith, high))
      (c.is_behind_last.ensures c.if-is_behind_last.true d (omega (arith, high)))),
  (λ k d low high. absurd (omega (arith, low, high))),
)

pub returns-clause-cut : goal.returns-clause-cut
returns-clause-cut c =
    IsPartitionPoint-from_clause (λ q. comes_before q c.args.p) c.args.list.now _
    c.partition_point.ensures.partitioned
    (IsPartitionedBy-number c.args.p c.args.list.now c.requires) (λ a r f' called. search (rules, called))
