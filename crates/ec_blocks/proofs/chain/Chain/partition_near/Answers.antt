-- The block shows that what passes ends in it.
use Rattle.std.proofs.Common.{◌≡◌, ◌+◌, ◌-◌, ℕ, suc, List, true, false, length, sym, ap, subst, arith}
use Rattle.std.proofs.lemmas.Grind.{common_steps}
use Rattle.std.specs.List.Sorted.{IsPartitionedBy, IsPartitionPoint}
use Rattle.ec_blocks.specs.Chain.{joined, start_of}
use Rattle.ec_blocks.proofs.ChainLemmas.{joined-most}
use Rattle.ec_blocks.proofs.StartLemmas.{start_of-suc, start_of-le, start_of-all}
use Rattle.ec_blocks.proofs.SearchLemmas.{block-parted, found-enclosed}
use Rattle.ec_blocks.proofs.chain.Chain.partition_near.Goals as goal

pub returns-then-is_enclosed-clause-bound : goal.returns-then-is_enclosed-clause-bound
returns-then-is_enclosed-clause-bound g c =
    omega (
      arith,
      c.locate-k.ensures.place,
      c.cut_near-place.ensures.bound,
      ap length c.block-block.ensures.block,
      c.locate-k.ensures.within,
      start_of-suc c.args.self.now.blocks c.locate-k.result.0 c.locate-k.ensures.within,
      start_of-le c.args.self.now.blocks (suc c.locate-k.result.0) (length c.args.self.now.blocks) (omega (arith, c.locate-k.ensures.within)),
      start_of-all c.args.self.now.blocks,
    )

pub overflow_add-result : goal.overflow_add-result
overflow_add-result g c =
    omega (arith, returns-then-is_enclosed-clause-bound g c, joined-most c.args.self.now.blocks c.locate-k.ensures.kept, c.locate-k.ensures.few)

pub returns-then-is_enclosed-clause-partitioned : goal.returns-then-is_enclosed-clause-partitioned
returns-then-is_enclosed-clause-partitioned g c p computes parted =
    let block = c.block-block.ensures.block in
    let start : start_of c.locate-k.result.0 c.args.self.now.blocks ≡ c.args.near - c.locate-k.result.1 = omega (arith, c.locate-k.ensures.place) in
    let point = c.cut_near-place.ensures.partitioned p computes
    (subst (λ (xs : List _). IsPartitionedBy p xs) (sym block) (block-parted p c.args.self.now.blocks c.locate-k.ensures.kept parted c.locate-k.result.0 c.locate-k.ensures.within)) in
    subst (λ (n : ℕ). IsPartitionPoint (λ x. p x ≡ true) (λ x. p x ≡ false) (joined c.args.self.now.blocks) (n + c.cut_near-place.result)) start
    (found-enclosed p c.args.self.now.blocks c.locate-k.ensures.kept parted c.locate-k.result.0 c.cut_near-place.result c.locate-k.ensures.within
    (c.is_enclosed.ensures.front c.if-is_enclosed.true) (c.is_enclosed.ensures.behind c.if-is_enclosed.true) (omega (arith, c.cut_near-place.ensures.bound, ap length block))
    (subst (λ (xs : List _). IsPartitionPoint (λ x. p x ≡ true) (λ x. p x ≡ false) xs c.cut_near-place.result) block point))

pub is_enclosed-requires-clause-len : goal.is_enclosed-requires-clause-len
is_enclosed-requires-clause-len c = grind (arith, common_steps)
