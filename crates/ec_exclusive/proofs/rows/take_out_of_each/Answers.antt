-- The next list is what it was.
use Rattle.std.proofs.Common.{◌∙◌, arith}
use Rattle.std.proofs.lemmas.Grind.{common_steps}
use Rattle.ec_numbered.specs.PropSet.{without_number}
use Rattle.ec_exclusive.proofs.InTurn.{AreEdited-more, prop_at_place, read_at_place}
use Rattle.ec_exclusive.proofs.rows.take_out_of_each.Goals as goal

pub loop-q-preserved : goal.loop-q-preserved
loop-q-preserved c = record {
  len = c.take_out_of.ensures.len ∙ c.loop-q.invariant.len;
  edited = AreEdited-more c.args.props.now (without_number c.args.p) c.loop-q.q-index c.args.rows.now c.loop-q.rows c.take_out_of.new.rows
      (prop_at_place c.args.props.now c.loop-q.q-index) c.loop-q.invariant.edited c.requires c.loop-q-test.true
      (read_at_place c.args.props.now c.loop-q.q-index c.loop-q-test.true) c.take_out_of.ensures.taken c.take_out_of.ensures.others;
}

pub returns-clause-taken : goal.returns-clause-taken
returns-clause-taken c = grind (arith, common_steps)
