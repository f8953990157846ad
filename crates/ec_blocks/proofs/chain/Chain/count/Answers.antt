-- What the chain keeps of its blocks holds of their members.
use Rattle.std.proofs.Common.{sym, ap, ◌∙◌, arith}
use Rattle.std.proofs.lemmas.Grind.{common_steps}
use Rattle.std.specs.List.{list_all}
use Rattle.std.specs.Vec.{vec_capacity}
use Rattle.ec_blocks.specs.Chain.{is_block}
use Rattle.ec_blocks.proofs.ChainLemmas.{kept-blocks}
use Rattle.ec_blocks.proofs.chain.Chain.count.Goals as goal

pub returns-clause-kept : goal.returns-clause-kept
returns-clause-kept g c =
    ap (λ v. list_all is_block v.blocks) (sym c.self.view_is) ∙ kept-blocks (λ b. b.items) (λ b. vec_capacity b) c.self.inside.blocks.items c.self.invariant.0.kept

pub returns-clause-count : goal.returns-clause-count
returns-clause-count c = grind (arith, common_steps)

pub returns-clause-few : goal.returns-clause-few
returns-clause-few c = grind (arith, common_steps)
