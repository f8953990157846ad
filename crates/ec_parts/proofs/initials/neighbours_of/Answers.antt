use Rattle.std.proofs.Common.{ap, ◌∙◌, arith}
use Rattle.std.proofs.lemmas.Grind.{common_steps}
use Rattle.ec_exclusive.proofs.InTurn.{not-yet}
use Rattle.ec_numbered.specs.PropSet.{has_number, with_number}
use Rattle.ec_parts.proofs.AscendingNumbers.{with_number-get}
use Rattle.ec_parts.proofs.initials.neighbours_of.Goals as goal

pub add-requires-clause-absent : goal.add-requires-clause-absent
add-requires-clause-absent c =
    ap (has_number _) c.loop-p.invariant.added ∙ not-yet c.args.numbers.now c.loop-p.p-index _ c.requires.ascending c.loop-p-test.true

pub loop-p-preserved : goal.loop-p-preserved
loop-p-preserved c = record {
  neighbours = c.in_ok-add.ensures.neighbours;
  added = c.in_ok-add.ensures.added ∙ ap (with_number _) c.loop-p.invariant.added ∙ with_number-get c.args.numbers.now c.loop-p.p-index _ c.requires.ascending c.loop-p-test.true;
}

pub returns-clause-added : goal.returns-clause-added
returns-clause-added c = grind (arith, common_steps)
