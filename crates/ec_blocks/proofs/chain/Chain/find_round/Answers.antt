-- The block shows that what passes ends in it.
use Rattle.std.proofs.Common.{◌≡◌, ◌+◌, ◌<◌, ℕ, suc, List, true, false, length, sym, ap, subst, arith}
use Rattle.std.proofs.lemmas.Grind.{common_steps}
use Rattle.std.specs.List.Sorted.{IsPartitionedBy, IsPartitionPoint}
use Rattle.ec_blocks.specs.Chain.{joined}
use Rattle.ec_blocks.proofs.ChainLemmas.{joined-most}
use Rattle.ec_blocks.proofs.StartLemmas.{start_of-suc, start_of-le, start_of-all}
use Rattle.ec_blocks.proofs.SearchLemmas.{block-parted, found-enclosed}
use Rattle.ec_blocks.proofs.chain.Chain.find_round.Goals as goal

pub returns-then-is_enclosed-clause-bound : goal.returns-then-is_enclosed-clause-bound
returns-then-is_enclosed-clause-bound g c =
    let within : c.noted-k.result.0 < length c.args.self.now.blocks = omega (arith, c.if-count-k.false, c.count.ensures.count) in
    omega (
      arith,
      c.start.ensures,
      c.in_ok-place.ensures.bound,
      ap length c.block-block.ensures.block,
      start_of-suc c.args.self.now.blocks c.noted-k.result.0 within,
      start_of-le c.args.self.now.blocks (suc c.noted-k.result.0) (length c.args.self.now.blocks) (omega arith),
      start_of-all c.args.self.now.blocks,
    )

pub overflow_add-result : goal.overflow_add-result
overflow_add-result g c =
    omega (arith, returns-then-is_enclosed-clause-bound g c, joined-most c.args.self.now.blocks c.count.ensures.kept, c.count.ensures.few)

pub returns-then-is_enclosed-clause-partitioned : goal.returns-then-is_enclosed-clause-partitioned
returns-then-is_enclosed-clause-partitioned g c p computes parted =
    let within : c.noted-k.result.0 < length c.args.self.now.blocks = omega (arith, c.if-count-k.false, c.count.ensures.count) in
    let block = c.block-block.ensures.block in
    let point = c.in_ok-place.ensures.partitioned p computes
    (subst (λ (xs : List _). IsPartitionedBy p xs) (sym block) (block-parted p c.args.self.now.blocks c.count.ensures.kept parted c.noted-k.result.0 within)) in
    subst (λ (n : ℕ). IsPartitionPoint (λ x. p x ≡ true) (λ x. p x ≡ false) (joined c.args.self.now.blocks) (n + c.in_ok-place.place)) (sym c.start.ensures)
    (found-enclosed p c.args.self.now.blocks c.count.ensures.kept parted c.noted-k.result.0 c.in_ok-place.place within
    (c.is_enclosed.ensures.front c.if-is_enclosed.true) (c.is_enclosed.ensures.behind c.if-is_enclosed.true) (omega (arith, c.in_ok-place.ensures.bound, ap length block))
    (subst (λ (xs : List _). IsPartitionPoint (λ x. p x ≡ true) (λ x. p x ≡ false) xs c.in_ok-place.place) block point))

pub is_enclosed-requires-clause-len : goal.is_enclosed-requires-clause-len
is_enclosed-requires-clause-len c = grind (arith, common_steps)

pub returns-in_err-place-clause-bound : goal.returns-in_err-place-clause-bound
returns-in_err-place-clause-bound c = grind (arith, common_steps)

pub returns-in_err-place-clause-partitioned : goal.returns-in_err-place-clause-partitioned
returns-in_err-place-clause-partitioned c = grind (arith, common_steps)
