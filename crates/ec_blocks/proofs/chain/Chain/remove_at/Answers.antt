-- A block goes, or gets one less.
use Rattle.std.proofs.Common.{length, ap, ◌∙◌, arith}
use Rattle.std.proofs.lemmas.Grind.{common_steps}
use Rattle.std.specs.List.{remove}
use Rattle.std.proofs.lemmas.List.Edits.{length-remove}
use Rattle.ec_blocks.specs.Chain.{joined, block_at, debt}
use Rattle.ec_blocks.proofs.JoinLemmas.{slice_get-joined, joined-remove, joined-gone}
use Rattle.ec_blocks.proofs.DebtLemmas.{debt-set, debt-remove}
use Rattle.ec_blocks.proofs.chain.Chain.remove_at.Goals as goal

pub returns-then-block-eq1-clause-member : goal.returns-then-block-eq1-clause-member
returns-then-block-eq1-clause-member g c =
    let one = ap length c.block.ensures.block in
    slice_get-joined c.args.self.now.blocks c.locate-k.result.0 0 c.args.i c.locate-k.ensures.within (omega arith) (omega arith) ∙ c.remove_block.ensures.member

pub returns-then-block-eq1-clause-members : goal.returns-then-block-eq1-clause-members
returns-then-block-eq1-clause-members g c =
    let one = ap length c.block.ensures.block in
    ap joined c.remove_block.ensures.blocks ∙ joined-gone c.args.self.now.blocks c.locate-k.result.0 c.args.i c.locate-k.ensures.within (omega arith) (omega arith)

pub returns-then-block-eq1-clause-room : goal.returns-then-block-eq1-clause-room
returns-then-block-eq1-clause-room g c =
    let one = ap length c.block.ensures.block in
    omega (arith, ap debt c.remove_block.ensures.blocks, debt-remove c.args.self.now.blocks c.locate-k.result.0 c.locate-k.ensures.within (omega arith) c.locate-k.ensures.kept)

pub returns-clause-member : goal.returns-clause-member
returns-clause-member g c =
    slice_get-joined c.args.self.now.blocks c.locate-k.result.0 c.locate-k.result.1 c.args.i c.locate-k.ensures.within (omega arith) (omega arith) ∙ c.remove.ensures.member

pub returns-clause-members : goal.returns-clause-members
returns-clause-members g c =
    ap joined c.remove.ensures.blocks
    ∙ joined-remove c.args.self.now.blocks c.locate-k.result.0 c.locate-k.result.1 c.args.i c.locate-k.ensures.within (omega arith) (omega arith)

pub returns-clause-room : goal.returns-clause-room
returns-clause-room g c =
    omega (
      arith,
      ap debt c.remove.ensures.blocks,
      debt-set c.args.self.now.blocks c.locate-k.result.0 0 (remove (block_at c.locate-k.result.0 c.args.self.now.blocks) c.locate-k.result.1) c.locate-k.ensures.within
          (omega (arith, length-remove (block_at c.locate-k.result.0 c.args.self.now.blocks) c.locate-k.result.1 (omega arith))),
    )

pub remove_block-requires-clause-alone : goal.remove_block-requires-clause-alone
remove_block-requires-clause-alone c = grind (arith, common_steps)
