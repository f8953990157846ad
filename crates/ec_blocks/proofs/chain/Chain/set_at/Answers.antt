-- An edit within a block.
use Rattle.std.proofs.Common.{set, length-set, ap, ◌∙◌, arith}
use Rattle.ec_blocks.specs.Chain.{joined, block_at, debt}
use Rattle.ec_blocks.proofs.JoinLemmas.{joined-set}
use Rattle.ec_blocks.proofs.DebtLemmas.{debt-set}
use Rattle.ec_blocks.proofs.chain.Chain.set_at.Goals as goal

pub returns-clause-members : goal.returns-clause-members
returns-clause-members g c =
    ap joined c.set.ensures.blocks
    ∙ joined-set c.args.self.now.blocks c.locate-k.result.0 c.locate-k.result.1 c.args.i c.args.x c.locate-k.ensures.within (omega arith) (omega arith)

pub returns-clause-room : goal.returns-clause-room
returns-clause-room g c =
    omega (
      arith,
      ap debt c.set.ensures.blocks,
      debt-set c.args.self.now.blocks c.locate-k.result.0 0 (set (block_at c.locate-k.result.0 c.args.self.now.blocks) c.locate-k.result.1 c.args.x) c.locate-k.ensures.within
          (omega (arith, length-set (block_at c.locate-k.result.0 c.args.self.now.blocks) c.locate-k.result.1 c.args.x)),
    )
