-- A new block, or one more in the last.
use Rattle.std.proofs.Common.{◌≡◌, ◌-◌, ◌≤◌, suc, ◌∷◌, [], refl, length, ap, ◌∙◌, arith}
use Rattle.std.proofs.lemmas.Grind.{common_steps}
use Rattle.std.specs.List.{insert}
use Rattle.std.proofs.lemmas.List.Edits.{length-insert}
use Rattle.ec_blocks.specs.Chain.{joined, block_at, start_of, debt}
use Rattle.ec_blocks.proofs.StartLemmas.{start_of-suc, start_of-all}
use Rattle.ec_blocks.proofs.JoinLemmas.{joined-insert, insert-end}
use Rattle.ec_blocks.proofs.DebtLemmas.{debt-set, debt-append}
use Rattle.ec_blocks.proofs.chain.Chain.insert_behind.Goals as goal

pub returns-then-is_last_full-clause-debt : goal.returns-then-is_last_full-clause-debt
returns-then-is_last_full-clause-debt g c =
    omega (arith, ap debt c.begin.ensures.blocks, debt-append c.args.self.now.blocks (c.args.x ∷ []) refl (c.is_last_full.ensures.full c.if-is_last_full.true))

pub returns-else-is_last_full-clause-members : goal.returns-else-is_last_full-clause-members
returns-else-is_last_full-clause-members g c =
    let size = ap length c.block-place.ensures.block in
    let some = c.is_last_full.ensures.some c.if-is_last_full.false in
    ap joined c.insert.ensures.blocks
    ∙ joined-insert c.args.self.now.blocks (c.count-last.result - 1) (length c.block-place.result.now) (length (joined c.args.self.now.blocks)) c.args.x (omega arith) (omega arith)
    (omega (
      arith,
      start_of-suc c.args.self.now.blocks (c.count-last.result - 1) (omega arith),
      start_of-all c.args.self.now.blocks,
      ap (λ n. start_of n c.args.self.now.blocks) (last c.count-last.result (length c.args.self.now.blocks) (omega arith) (omega arith)),
    ))
    ∙ insert-end (joined c.args.self.now.blocks) (length (joined c.args.self.now.blocks)) c.args.x refl
  where
    last : (a b : _) → a ≡ b → 1 ≤ a → suc (a - 1) ≡ b
    last a b same some = omega arith

pub returns-else-is_last_full-clause-debt : goal.returns-else-is_last_full-clause-debt
returns-else-is_last_full-clause-debt g c =
    let size = ap length c.block-place.ensures.block in
    let some = c.is_last_full.ensures.some c.if-is_last_full.false in
    omega (
      arith,
      ap debt c.insert.ensures.blocks,
      debt-set c.args.self.now.blocks (c.count-last.result - 1) 1 (insert (block_at (c.count-last.result - 1) c.args.self.now.blocks) (length c.block-place.result.now) c.args.x) (omega arith)
          (omega (arith, length-insert (block_at (c.count-last.result - 1) c.args.self.now.blocks) (length c.block-place.result.now) c.args.x (omega arith))),
    )

pub insert-requires-clause-place : goal.insert-requires-clause-place
insert-requires-clause-place c = grind (arith, common_steps)

pub insert-requires-clause-block : goal.insert-requires-clause-block
insert-requires-clause-block c = grind (arith, common_steps)

pub insert-requires-clause-room : goal.insert-requires-clause-room
insert-requires-clause-room c = grind (arith, common_steps)

pub returns-then-is_last_full-clause-members : goal.returns-then-is_last_full-clause-members
returns-then-is_last_full-clause-members c = grind (arith, common_steps)
