-- The first mark that breaks is found at its place.
use Rattle.std.proofs.Common.{sym, ◌∙◌}
use Rattle.ec_axioms.specs.Marks.{mark_breaks}
use Rattle.ec_query.proofs.BreakSearch.{run-found, run-none, run-not_yet}
use Rattle.ec_query.proofs.next_breaks.break_in.Goals as goal

pub returns-then-breaks : goal.returns-then-breaks
returns-then-breaks g c =
    run-found g.T.Moment.rank (mark_breaks c.args.strong) c.args.run.now c.loop-mark.mark-index c.loop-mark.invariant c.mark-item.result c.loop-mark-test.true c.mark-item.is
    (sym c.breaks.ensures ∙ c.if-breaks.true)

pub loop-mark-preserved : goal.loop-mark-preserved
loop-mark-preserved g c =
    run-not_yet g.T.Moment.rank (mark_breaks c.args.strong) c.args.run.now c.loop-mark.mark-index c.loop-mark.invariant c.mark-item.result c.loop-mark-test.true c.mark-item.is
    (sym c.breaks.ensures ∙ c.if-breaks.false)

pub returns : goal.returns
returns g c = run-none g.T.Moment.rank (mark_breaks c.args.strong) c.args.run.now c.loop-mark.mark-index c.loop-mark.invariant c.loop-mark-test.false
