-- An edit within a block, which may be half of one that was full.
use Rattle.std.proofs.Common.{◌+◌, ◌-◌, ap, ◌∙◌, arith}
use Rattle.std.proofs.lemmas.Grind.{common_steps}
use Rattle.std.specs.List.{insert}
use Rattle.std.proofs.lemmas.List.Edits.{length-insert}
use Rattle.ec_blocks.specs.Chain.{joined, block_at, debt}
use Rattle.ec_blocks.proofs.JoinLemmas.{joined-insert}
use Rattle.ec_blocks.proofs.DebtLemmas.{debt-set}
use Rattle.ec_blocks.proofs.SplitLemmas.{full-from, front-within, back-within, front-free, back-free, front-place, back-place, front-insert, back-insert, half-debt}
use Rattle.ec_blocks.proofs.chain.Chain.insert_in_front.Goals as goal

pub returns-then-block-lt-CAPACITY-clause-members : goal.returns-then-block-lt-CAPACITY-clause-members
returns-then-block-lt-CAPACITY-clause-members g c =
    ap joined c.insert.ensures.blocks ∙ joined-insert c.args.self.now.blocks c.locate-k.result.0 c.locate-k.result.1 c.args.i c.args.x c.locate-k.ensures.within (omega arith) (omega arith)

pub returns-then-block-lt-CAPACITY-clause-debt : goal.returns-then-block-lt-CAPACITY-clause-debt
returns-then-block-lt-CAPACITY-clause-debt g c =
    omega (
      arith,
      ap debt c.insert.ensures.blocks,
      debt-set c.args.self.now.blocks c.locate-k.result.0 1 (insert (block_at c.locate-k.result.0 c.args.self.now.blocks) c.locate-k.result.1 c.args.x) c.locate-k.ensures.within
          (omega (arith, length-insert (block_at c.locate-k.result.0 c.args.self.now.blocks) c.locate-k.result.1 c.args.x (omega arith))),
    )

pub insert-requires-clause-room : goal.insert-requires-clause-room
insert-requires-clause-room c = grind (arith, common_steps)

pub split-requires-clause-full : goal.split-requires-clause-full
split-requires-clause-full g c = full-from c.block.result.now (block_at c.locate-k.result.0 c.args.self.now.blocks) c.block.ensures.block c.block.ensures.kept c.if-block-lt-CAPACITY.false

pub insert-requires-then-place-le-HALF-clause-block : goal.insert-requires-then-place-le-HALF-clause-block
insert-requires-then-place-le-HALF-clause-block g c =
    let full = full-from c.block.result.now (block_at c.locate-k.result.0 c.args.self.now.blocks) c.block.ensures.block c.block.ensures.kept c.if-block-lt-CAPACITY.false in
    front-within c.args.self.now.blocks c.split.new.self.blocks c.locate-k.result.0 c.locate-k.ensures.within full c.split.ensures.blocks

pub insert-requires-then-place-le-HALF-clause-place : goal.insert-requires-then-place-le-HALF-clause-place
insert-requires-then-place-le-HALF-clause-place g c =
    let full = full-from c.block.result.now (block_at c.locate-k.result.0 c.args.self.now.blocks) c.block.ensures.block c.block.ensures.kept c.if-block-lt-CAPACITY.false in
    front-place c.args.self.now.blocks c.split.new.self.blocks c.locate-k.result.0 c.locate-k.ensures.within full c.split.ensures.blocks c.locate-k.result.1 c.if-place-le-HALF.true

pub insert-requires-then-place-le-HALF-clause-room : goal.insert-requires-then-place-le-HALF-clause-room
insert-requires-then-place-le-HALF-clause-room g c =
    let full = full-from c.block.result.now (block_at c.locate-k.result.0 c.args.self.now.blocks) c.block.ensures.block c.block.ensures.kept c.if-block-lt-CAPACITY.false in
    front-free c.args.self.now.blocks c.split.new.self.blocks c.locate-k.result.0 c.locate-k.ensures.within full c.split.ensures.blocks

pub overflow_add-k : goal.overflow_add-k
overflow_add-k g c = let few = c.locate-k.ensures.few in omega arith

pub insert-requires-else-place-le-HALF-clause-block : goal.insert-requires-else-place-le-HALF-clause-block
insert-requires-else-place-le-HALF-clause-block g c =
    let full = full-from c.block.result.now (block_at c.locate-k.result.0 c.args.self.now.blocks) c.block.ensures.block c.block.ensures.kept c.if-block-lt-CAPACITY.false in
    back-within c.args.self.now.blocks c.split.new.self.blocks c.locate-k.result.0 c.locate-k.ensures.within full c.split.ensures.blocks

pub insert-requires-else-place-le-HALF-clause-place : goal.insert-requires-else-place-le-HALF-clause-place
insert-requires-else-place-le-HALF-clause-place g c =
    let full = full-from c.block.result.now (block_at c.locate-k.result.0 c.args.self.now.blocks) c.block.ensures.block c.block.ensures.kept c.if-block-lt-CAPACITY.false in
    back-place c.args.self.now.blocks c.split.new.self.blocks c.locate-k.result.0 c.locate-k.ensures.within full c.split.ensures.blocks c.locate-k.result.1 c.locate-k.ensures.to

pub insert-requires-else-place-le-HALF-clause-room : goal.insert-requires-else-place-le-HALF-clause-room
insert-requires-else-place-le-HALF-clause-room g c =
    let full = full-from c.block.result.now (block_at c.locate-k.result.0 c.args.self.now.blocks) c.block.ensures.block c.block.ensures.kept c.if-block-lt-CAPACITY.false in
    back-free c.args.self.now.blocks c.split.new.self.blocks c.locate-k.result.0 c.locate-k.ensures.within full c.split.ensures.blocks

pub returns-then-place-le-HALF-clause-members : goal.returns-then-place-le-HALF-clause-members
returns-then-place-le-HALF-clause-members g c =
    let full = full-from c.block.result.now (block_at c.locate-k.result.0 c.args.self.now.blocks) c.block.ensures.block c.block.ensures.kept c.if-block-lt-CAPACITY.false in
    ap joined c.insert-then-place-le-HALF.ensures.blocks
    ∙ front-insert c.args.self.now.blocks c.split.new.self.blocks c.locate-k.result.0 c.locate-k.ensures.within full c.split.ensures.blocks c.locate-k.result.1 c.args.i c.args.x c.if-place-le-HALF.true c.locate-k.ensures.place

pub returns-then-place-le-HALF-clause-debt : goal.returns-then-place-le-HALF-clause-debt
returns-then-place-le-HALF-clause-debt g c =
    let full = full-from c.block.result.now (block_at c.locate-k.result.0 c.args.self.now.blocks) c.block.ensures.block c.block.ensures.kept c.if-block-lt-CAPACITY.false in
    half-debt c.args.self.now.blocks c.split.new.self.blocks c.locate-k.result.0 c.locate-k.ensures.within full c.split.ensures.blocks c.locate-k.result.0 c.locate-k.result.1 c.args.x (front-within c.args.self.now.blocks c.split.new.self.blocks c.locate-k.result.0 c.locate-k.ensures.within full c.split.ensures.blocks) (front-place c.args.self.now.blocks c.split.new.self.blocks c.locate-k.result.0 c.locate-k.ensures.within full c.split.ensures.blocks c.locate-k.result.1 c.if-place-le-HALF.true)
    _ c.insert-then-place-le-HALF.ensures.blocks c.args.self.now.spares _ (ap (λ n. n + 1) c.insert-then-place-le-HALF.ensures.spares ∙ c.split.ensures.spares)

pub returns-else-place-le-HALF-clause-members : goal.returns-else-place-le-HALF-clause-members
returns-else-place-le-HALF-clause-members g c =
    let full = full-from c.block.result.now (block_at c.locate-k.result.0 c.args.self.now.blocks) c.block.ensures.block c.block.ensures.kept c.if-block-lt-CAPACITY.false in
    ap joined c.insert-else-place-le-HALF.ensures.blocks
    ∙ back-insert c.args.self.now.blocks c.split.new.self.blocks c.locate-k.result.0 c.locate-k.ensures.within full c.split.ensures.blocks c.locate-k.result.1 c.args.i c.args.x c.if-place-le-HALF.false c.locate-k.ensures.to c.locate-k.ensures.place

pub returns-else-place-le-HALF-clause-debt : goal.returns-else-place-le-HALF-clause-debt
returns-else-place-le-HALF-clause-debt g c =
    let full = full-from c.block.result.now (block_at c.locate-k.result.0 c.args.self.now.blocks) c.block.ensures.block c.block.ensures.kept c.if-block-lt-CAPACITY.false in
    half-debt c.args.self.now.blocks c.split.new.self.blocks c.locate-k.result.0 c.locate-k.ensures.within full c.split.ensures.blocks (c.locate-k.result.0 + 1) (c.locate-k.result.1 - 64) c.args.x (back-within c.args.self.now.blocks c.split.new.self.blocks c.locate-k.result.0 c.locate-k.ensures.within full c.split.ensures.blocks) (back-place c.args.self.now.blocks c.split.new.self.blocks c.locate-k.result.0 c.locate-k.ensures.within full c.split.ensures.blocks c.locate-k.result.1 c.locate-k.ensures.to)
    _ c.insert-else-place-le-HALF.ensures.blocks c.args.self.now.spares _ (ap (λ n. n + 1) c.insert-else-place-le-HALF.ensures.spares ∙ c.split.ensures.spares)
