-- One more member is written over.
use Rattle.std.proofs.Common.{◌-◌, set, length, length-set, ap, ap₂, ◌∙◌, arith}
use Rattle.std.proofs.lemmas.Grind.{common_steps}
use Rattle.ec_blocks.proofs.SpliceLemmas.{set-splice}
use Rattle.ec_blocks.proofs.blocks.Blocks.overwrite.Goals as goal

pub loop-place-preserved : goal.loop-place-preserved
loop-place-preserved g c = record {
  items = c.set.ensures.items ∙ ap₂ (λ xs x. set xs c.loop-place.place x) c.loop-place.invariant.items c.copied.ensures
      ∙ set-splice c.args.self.now.items c.args.with.now c.args.from (c.loop-place.place - c.args.from) _ c.loop-place.place c.index-with-place.result
      (omega arith) (omega arith) (omega arith) (omega arith) c.index-with-place.is;
  len = ap length c.set.ensures.items ∙ length-set c.loop-place.self.items c.loop-place.place c.copied.result ∙ c.loop-place.invariant.len;
  spare = omega arith;
}

pub returns-clause-items : goal.returns-clause-items
returns-clause-items c = grind (arith, common_steps)

pub loop-place-init : goal.loop-place-init
loop-place-init c = grind (arith, common_steps)
