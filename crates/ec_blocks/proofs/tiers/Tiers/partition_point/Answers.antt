-- Where there are no rings, the members lie as they are seen.
use Rattle.std.proofs.Common.{◌≡◌, List, true, false, length, sym, ap, subst, ◌∙◌, arith}
use Rattle.std.specs.List.Sorted.{IsPartitionedBy, IsPartitionPoint}
use Rattle.std.proofs.lemmas.List.{nil_from_length}
use Rattle.ec_blocks.specs.Tiers.{unrolled}
use Rattle.ec_blocks.proofs.TierLemmas.{unrolled-length}
use Rattle.ec_blocks.proofs.tiers.Tiers.partition_point.Goals as goal

pub returns-then-len-eq0-clause-bound : goal.returns-then-len-eq0-clause-bound
returns-then-len-eq0-clause-bound g c =
    omega (arith, c.cut.ensures.bound, ap length c.deref.ensures.value, ap (λ v. length v.items) c.self.view_is, unrolled-length c.self.inside.heads.items c.self.inside.members.items)

pub returns-then-len-eq0-clause-partitioned : goal.returns-then-len-eq0-clause-partitioned
returns-then-len-eq0-clause-partitioned g c p computes parted =
    let same : c.deref.result.now ≡ c.args.self.now.items =
    c.deref.ensures.value ∙ ap (λ hs. unrolled hs c.self.inside.members.items) (sym (nil_from_length c.self.inside.heads.items (omega arith))) ∙ ap (λ v. v.items) c.self.view_is in
    subst (λ (xs : List _). IsPartitionPoint (λ x. p x ≡ true) (λ x. p x ≡ false) xs c.cut.result) same
    (c.cut.ensures.partitioned p computes (subst (λ (xs : List _). IsPartitionedBy p xs) (sym same) parted))

pub partition_turned-requires-clause-some : goal.partition_turned-requires-clause-some
partition_turned-requires-clause-some g c =
    omega (arith, c.self.invariant.0, ap (λ v. length v.items) c.self.view_is, unrolled-length c.self.inside.heads.items c.self.inside.members.items)
