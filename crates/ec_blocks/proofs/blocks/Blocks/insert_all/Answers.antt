-- One more member is inserted.
use Rattle.std.proofs.Common.{◌-◌, length, ap, ap₂, ◌∙◌, arith}
use Rattle.std.proofs.lemmas.Grind.{common_steps}
use Rattle.std.specs.List.{insert}
use Rattle.std.proofs.lemmas.List.Edits.{length-insert}
use Rattle.ec_blocks.proofs.SpliceLemmas.{insert-splice}
use Rattle.ec_blocks.proofs.blocks.Blocks.insert_all.Goals as goal

pub loop-x-preserved : goal.loop-x-preserved
loop-x-preserved g c = record {
  items = c.insert.ensures.items ∙ ap₂ (λ xs x. insert xs (c.len-in-loop-x.result - (c.len.result - c.args.from)) x) c.loop-x.invariant.items c.copied.ensures
      ∙ insert-splice c.args.self.now.items c.args.with.now c.args.from c.loop-x.x-index _ c.x-item.result
      (omega arith) (omega arith) (omega arith) c.x-item.is;
  len = ap length c.insert.ensures.items
      ∙ (omega (arith, length-insert c.loop-x.self.items (c.len-in-loop-x.result - (c.len.result - c.args.from)) c.copied.result (omega arith)));
  behind = c.loop-x.invariant.behind;
  spare = omega arith;
}

pub returns-clause-items : goal.returns-clause-items
returns-clause-items c = grind (arith, common_steps)

pub loop-x-init : goal.loop-x-init
loop-x-init c = grind (arith, common_steps)
