-- The clash at the time of the next mark goes out.
use Rattle.std.proofs.Common.{◌&&◌, not, ap, ◌∙◌, arith}
use Rattle.std.specs.Prelude.{◌==◌}
use Rattle.std.specs.Ordering.{int_eq}
use Rattle.std.proofs.lemmas.List.{take_all}
use Rattle.ec_rows.specs.Marks.{has_mark}
use Rattle.ec_points.specs.Clashes.{has_clash}
use Rattle.ec_points.proofs.RowClashes.{forgotten-more}
use Rattle.ec_points.proofs.noted.forget_row.Goals as goal

pub loop-i-preserved : goal.loop-i-preserved
loop-i-preserved g c = record {
  has = λ n t.
      c.take_out.ensures.has n t
      ∙ ap (λ b. not ((c.args.p.0 == n) && int_eq (g.T.Moment.rank c.get.result.at) t) && b) (c.loop-i.invariant.has n t)
      ∙ forgotten-more g.T.Moment.rank (g.M.MarkRow.marks c.args.row.now) c.loop-i.i c.get.result c.get.ensures.mark t (c.args.p.0 == n)
      (has_clash g.T.Moment.rank n t c.args.noted.now.items);
  spare = omega (arith, c.loop-i.invariant.spare, c.take_out.ensures.spare);
}

pub returns-clause-has : goal.returns-clause-has
returns-clause-has g c = λ n t.
    c.loop-i.invariant.has n t
    ∙ ap (λ marks. not ((c.args.p.0 == n) && has_mark g.T.Moment.rank t marks) && has_clash g.T.Moment.rank n t c.args.noted.now.items)
    (take_all c.loop-i.i (g.M.MarkRow.marks c.args.row.now) (omega (arith, c.loop-i-test.false, c.len-i-end.ensures.len)))
