-- First among the last members, then within a block.
use Rattle.std.proofs.Common.{◌≡◌, ◌+◌, ◌<◌, ℕ, suc, List, true, false, length, map, sym, ap, subst, ◌∙◌, arith}
use Rattle.std.specs.List.{list_all}
use Rattle.std.specs.List.Sorted.{IsPartitionedBy, IsPartitionPoint}
use Rattle.std.specs.Vec.{vec_capacity}
use Rattle.std.proofs.lemmas.List.{length-map}
use Rattle.ec_blocks.specs.Chain.{joined, is_block, last_of}
use Rattle.ec_blocks.proofs.StartLemmas.{start_of-suc, start_of-le, start_of-all}
use Rattle.ec_blocks.proofs.ChainLemmas.{starts-count, lasts-count, start-is, kept-blocks, joined-most}
use Rattle.ec_blocks.proofs.EditLemmas.{old-list}
use Rattle.ec_blocks.proofs.SearchLemmas.{lasts-parted, block-parted, found-within, found-behind}
use Rattle.ec_blocks.proofs.chain.Chain.partition_all.Goals as goal

pub returns-then-k-len-clause-partitioned : goal.returns-then-k-len-clause-partitioned
returns-then-k-len-clause-partitioned g c p computes parted =
    let all : list_all is_block c.args.self.now.blocks ≡ true =
    ap (λ v. list_all is_block v.blocks) (sym c.self.view_is) ∙ kept-blocks (λ b. b.items) (λ b. vec_capacity b) c.self.inside.blocks.items c.self.invariant.0.kept in
    let are = c.self.invariant.0.lasts_are ∙ ap (λ v. map last_of v.blocks) c.self.view_is in
    let count : length c.args.self.now.blocks ≡ length c.self.inside.blocks.items = ap (λ v. length v.blocks) (sym c.self.view_is) ∙ length-map c.self.inside.blocks.items (λ b. b.items) in
    let cut = c.partition_point-k.ensures.partitioned p computes (lasts-parted p c.args.self.now.blocks all parted c.self.inside.lasts.items are) in
    subst (λ (n : ℕ). IsPartitionPoint (λ x. p x ≡ true) (λ x. p x ≡ false) (joined c.args.self.now.blocks) n) (sym c.total.ensures)
    (found-behind p c.args.self.now.blocks all parted c.self.inside.lasts.items are c.partition_point-k.result (omega arith) (λ m d e. cut.0 m d (omega arith) (omega (arith, e))))

pub get-requires : goal.get-requires
get-requires g c =
    omega (arith, starts-count (λ b. b.items) (λ b. vec_capacity b) _ _ _ _ c.self.invariant.0, lasts-count (λ b. b.items) (λ b. vec_capacity b) _ _ _ _ c.self.invariant.0)

pub get-requires-2 : goal.get-requires-2
get-requires-2 g c =
    omega (arith, starts-count (λ b. b.items) (λ b. vec_capacity b) _ _ _ _ c.self.invariant.0, lasts-count (λ b. b.items) (λ b. vec_capacity b) _ _ _ _ c.self.invariant.0)

pub returns-clause-bound : goal.returns-clause-bound
returns-clause-bound g c =
    let within : c.partition_point-k.result < length c.args.self.now.blocks =
    omega (arith, lasts-count (λ b. b.items) (λ b. vec_capacity b) _ _ _ _ c.self.invariant.0, ap (λ v. length v.blocks) (sym c.self.view_is), length-map c.self.inside.blocks.items (λ b. b.items)) in
    let start = start-is (λ b. b.items) (λ b. vec_capacity b) _ _ _ _ c.self.invariant.0 c.args.self.now.blocks c.partition_point-k.result c.get-2.result (ap (λ v. v.blocks) c.self.view_is) within c.get-2.ensures in
    let block = c.deref.ensures.value ∙ old-list (λ b. b.items) (λ b. vec_capacity b) c.self.inside.blocks.items c.self.inside.starts.items c.self.inside.lasts.items c.self.inside.spares.items c.self.invariant.0 c.args.self.now.blocks (ap (λ v. v.blocks) c.self.view_is) c.partition_point-k.result within c.get.result.now c.get.ensures in
    omega (
      arith,
      start,
      ap length block,
      start_of-suc c.args.self.now.blocks c.partition_point-k.result within,
      start_of-le c.args.self.now.blocks (suc c.partition_point-k.result) (length c.args.self.now.blocks) (omega arith),
      start_of-all c.args.self.now.blocks,
    )

pub overflow_add-result : goal.overflow_add-result
overflow_add-result g c =
    let all : list_all is_block c.args.self.now.blocks ≡ true =
    ap (λ v. list_all is_block v.blocks) (sym c.self.view_is) ∙ kept-blocks (λ b. b.items) (λ b. vec_capacity b) c.self.inside.blocks.items c.self.invariant.0.kept in
    let few = c.self.invariant.1.few in
    omega (arith, returns-clause-bound g c, joined-most c.args.self.now.blocks all, ap (λ v. length v.blocks) (sym c.self.view_is), length-map c.self.inside.blocks.items (λ b. b.items))

pub returns-clause-partitioned : goal.returns-clause-partitioned
returns-clause-partitioned g c p computes parted =
    let all : list_all is_block c.args.self.now.blocks ≡ true =
    ap (λ v. list_all is_block v.blocks) (sym c.self.view_is) ∙ kept-blocks (λ b. b.items) (λ b. vec_capacity b) c.self.inside.blocks.items c.self.invariant.0.kept in
    let are = c.self.invariant.0.lasts_are ∙ ap (λ v. map last_of v.blocks) c.self.view_is in
    let count : length c.args.self.now.blocks ≡ length c.self.inside.blocks.items = ap (λ v. length v.blocks) (sym c.self.view_is) ∙ length-map c.self.inside.blocks.items (λ b. b.items) in
    let cut = c.partition_point-k.ensures.partitioned p computes (lasts-parted p c.args.self.now.blocks all parted c.self.inside.lasts.items are) in
    let within : c.partition_point-k.result < length c.args.self.now.blocks =
    omega (arith, lasts-count (λ b. b.items) (λ b. vec_capacity b) _ _ _ _ c.self.invariant.0, ap (λ v. length v.blocks) (sym c.self.view_is), length-map c.self.inside.blocks.items (λ b. b.items)) in
    let start = start-is (λ b. b.items) (λ b. vec_capacity b) _ _ _ _ c.self.invariant.0 c.args.self.now.blocks c.partition_point-k.result c.get-2.result (ap (λ v. v.blocks) c.self.view_is) within c.get-2.ensures in
    let block = c.deref.ensures.value ∙ old-list (λ b. b.items) (λ b. vec_capacity b) c.self.inside.blocks.items c.self.inside.starts.items c.self.inside.lasts.items c.self.inside.spares.items c.self.invariant.0 c.args.self.now.blocks (ap (λ v. v.blocks) c.self.view_is) c.partition_point-k.result within c.get.result.now c.get.ensures in
    let point = c.cut-place.ensures.partitioned p computes (subst (λ (xs : List _). IsPartitionedBy p xs) (sym block) (block-parted p c.args.self.now.blocks all parted c.partition_point-k.result within)) in
    subst (λ (n : ℕ). IsPartitionPoint (λ x. p x ≡ true) (λ x. p x ≡ false) (joined c.args.self.now.blocks) (n + c.cut-place.result)) (sym start)
    (found-within p c.args.self.now.blocks all parted c.self.inside.lasts.items are c.partition_point-k.result c.cut-place.result within
    (λ m d e. cut.0 m d (omega arith) (omega (arith, e))) (λ d. cut.1 c.partition_point-k.result d (omega arith) (omega (arith, within, count, lasts-count (λ b. b.items) (λ b. vec_capacity b) _ _ _ _ c.self.invariant.0))) (omega (arith, ap length block))
    (subst (λ (xs : List _). IsPartitionPoint (λ x. p x ≡ true) (λ x. p x ≡ false) xs c.cut-place.result) block point))
