-- One more member is taken out.
use Rattle.std.proofs.Common.{length, ap, ◌∙◌, arith}
use Rattle.std.proofs.lemmas.Grind.{common_steps}
use Rattle.std.specs.List.{remove}
use Rattle.std.proofs.lemmas.List.Edits.{length-remove}
use Rattle.ec_blocks.proofs.SpliceLemmas.{remove-splice}
use Rattle.ec_blocks.proofs.blocks.Blocks.remove_all.Goals as goal

pub loop-place-preserved : goal.loop-place-preserved
loop-place-preserved g c = record {
  items = c.remove.ensures.items ∙ ap (λ xs. remove xs c.args.from) c.loop-place.invariant.items
      ∙ remove-splice c.args.self.now.items c.args.from c.loop-place._place c.remove.result (omega arith) (omega arith);
  len = omega (arith, ap length c.remove.ensures.items, length-remove c.loop-place.self.items c.args.from (omega arith));
  spare = omega arith;
}

pub loop-place-init : goal.loop-place-init
loop-place-init c = grind (arith, common_steps)

pub returns-clause-items : goal.returns-clause-items
returns-clause-items c = grind (arith, common_steps)
