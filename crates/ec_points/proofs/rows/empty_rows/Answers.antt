-- The next property gets a row of no marks.
use Rattle.std.proofs.Common.{arith}
use Rattle.std.proofs.lemmas.Grind.{common_steps}
use Rattle.ec_points.proofs.SeenRowLemmas.{has_row-more, no_marks-more}
use Rattle.ec_points.proofs.rows.empty_rows.Goals as goal

pub loop-p-preserved : goal.loop-p-preserved
loop-p-preserved g c = record {
  rows = has_row-more c.args.props.now c.loop-p.p-index (record { 0 = 0 }) c.loop-p-test.true c.loop-p.rows c.reserve_in.new.rows c.reserve_in.ensures.others
      c.loop-p.invariant.rows c.in_ok-reserve_in.ensures.row;
  marks = no_marks-more g.M.MarkRow.marks g.M.MarkRow.spare c.loop-p.rows c.reserve_in.new.rows _ c.loop-p.invariant.marks c.reserve_in.ensures.others c.reserve_in.ensures.grown;
}

pub loop-p-init : goal.loop-p-init
loop-p-init c = grind (arith, common_steps)

pub returns-clause-rows : goal.returns-clause-rows
returns-clause-rows c = grind (arith, common_steps)
