-- One more is copied.
use Rattle.std.proofs.Common.{◌∷◌, [], ◌++◌, take, append_assoc, sym, ap, ap₂, ◌∙◌, arith}
use Rattle.std.proofs.lemmas.Grind.{common_steps}
use Rattle.std.proofs.lemmas.List.{take_more}
use Rattle.ec_blocks.proofs.chain.fill.Goals as goal

pub loop-x-preserved : goal.loop-x-preserved
loop-x-preserved g c = record {
  items = c.push_reserved.ensures.items ∙ ap₂ (λ xs x. xs ++ x ∷ []) c.loop-x.invariant.items c.copied.ensures
      ∙ append_assoc c.args.block.now.items (take c.loop-x.x-index c.args.members.now) (c.x-item.result ∷ [])
      ∙ ap (λ zs. c.args.block.now.items ++ zs) (ap (λ y. take c.loop-x.x-index c.args.members.now ++ y ∷ []) c.x-item.is
      ∙ sym (take_more c.args.members.now c.loop-x.x-index c.x-item.result (omega arith)));
  len = omega arith;
  capacity = omega arith;
}

pub loop-x-init : goal.loop-x-init
loop-x-init c = grind (arith, common_steps)

pub returns-clause-items : goal.returns-clause-items
returns-clause-items c = grind (arith, common_steps)
