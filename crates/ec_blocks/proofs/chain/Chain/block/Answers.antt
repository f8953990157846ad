-- The block is the one at the place, and a kept one.
use Rattle.std.proofs.Common.{ap, ◌∙◌, arith}
use Rattle.std.proofs.lemmas.Grind.{common_steps}
use Rattle.std.specs.Vec.{vec_capacity}
use Rattle.ec_blocks.specs.Chain.{is_block}
use Rattle.ec_blocks.proofs.EditLemmas.{old-block, old-list}
use Rattle.ec_blocks.proofs.chain.Chain.block.Goals as goal

pub returns-clause-block : goal.returns-clause-block
returns-clause-block g c =
    c.deref.ensures.value ∙ old-list (λ b. b.items) (λ b. vec_capacity b) c.self.inside.blocks.items c.self.inside.starts.items c.self.inside.lasts.items c.self.inside.spares.items c.self.invariant.0 c.args.self.now.blocks (ap (λ v. v.blocks) c.self.view_is) c.args.k c.requires c.get.result.now c.get.ensures

pub returns-clause-kept : goal.returns-clause-kept
returns-clause-kept g c =
    ap is_block c.deref.ensures.value ∙ old-block (λ b. b.items) (λ b. vec_capacity b) c.self.inside.blocks.items c.self.inside.starts.items c.self.inside.lasts.items c.self.inside.spares.items c.self.invariant.0 c.args.self.now.blocks (ap (λ v. v.blocks) c.self.view_is) c.args.k c.requires c.get.result.now c.get.ensures

pub get-requires : goal.get-requires
get-requires c = grind (arith, common_steps)
