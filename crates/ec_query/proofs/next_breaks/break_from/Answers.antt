-- Where a run has none, the search goes on behind it.
use Rattle.std.proofs.Common.{sym, ◌∙◌, arith}
use Rattle.std.proofs.lemmas.Grind.{common_steps}
use Rattle.ec_axioms.specs.Marks.{mark_breaks}
use Rattle.ec_query.proofs.BreakSearch.{row-found, row-later}
use Rattle.ec_query.proofs.next_breaks.break_from.Goals as goal

pub returns-then-is_some : goal.returns-then-is_some
returns-then-is_some g c =
    row-found g.T.Moment.rank (mark_breaks c.args.strong) (g.M.MarkRow.marks c.args.row.now) c.run-run.result.now c.loop-i.i c.run-run.ensures.run c.break_in-found.result c.break_in-found.ensures (sym c.is_some.ensures ∙ c.if-is_some.true)
    ∙ c.loop-i.invariant

pub loop-i-preserved : goal.loop-i-preserved
loop-i-preserved g c =
    row-later g.T.Moment.rank (mark_breaks c.args.strong) (g.M.MarkRow.marks c.args.row.now) c.run-run.result.now c.loop-i.i c.run-run.ensures.run c.break_in-found.result c.break_in-found.ensures (sym c.is_some.ensures ∙ c.if-is_some.false)
    ∙ c.loop-i.invariant

pub returns : goal.returns
returns c = grind (arith, common_steps)

pub overflow_add-i : goal.overflow_add-i
overflow_add-i c = grind (arith, common_steps)
