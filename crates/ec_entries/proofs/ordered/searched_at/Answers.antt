-- Those at the time stand between the two places, and the run has them if it is long enough.
use Rattle.std.proofs.Common.{arith}
use Rattle.std.proofs.lemmas.Grind.{common_steps}
use Rattle.ec_entries.proofs.Readings.{dependents_at-none, dependents_at-run, earlier-up_to}
use Rattle.ec_entries.proofs.ordered.searched_at.Goals as goal

pub overflow_sub-count : goal.overflow_sub-count
overflow_sub-count g c =
    earlier-up_to g.T.Moment.rank (g.T.Moment.rank c.args.at) c.args.list.now.items c.count_before-before.result c.count_up_to-up_to.result
    c.count_before-before.ensures.within c.count_before-before.ensures.cut c.count_up_to-up_to.ensures.cut

pub returns-then-count-eq0 : goal.returns-then-count-eq0
returns-then-count-eq0 g c =
    dependents_at-none g.T.Moment.rank (g.T.Moment.rank c.args.at) c.args.list.now.items c.count_before-before.result c.count_up_to-up_to.result
    (earlier-up_to g.T.Moment.rank (g.T.Moment.rank c.args.at) c.args.list.now.items c.count_before-before.result c.count_up_to-up_to.result
    c.count_before-before.ensures.within c.count_before-before.ensures.cut c.count_up_to-up_to.ensures.cut)
    c.count_before-before.ensures.cut c.count_up_to-up_to.ensures.cut (omega arith)

pub returns-then-count-run : goal.returns-then-count-run
returns-then-count-run g c =
    dependents_at-run g.T.Moment.rank (g.T.Moment.rank c.args.at) c.args.list.now.items c.count_before-before.result c.count_up_to-up_to.result
    (earlier-up_to g.T.Moment.rank (g.T.Moment.rank c.args.at) c.args.list.now.items c.count_before-before.result c.count_up_to-up_to.result
    c.count_before-before.ensures.within c.count_before-before.ensures.cut c.count_up_to-up_to.ensures.cut)
    c.count_before-before.ensures.cut c.count_up_to-up_to.ensures.cut c.run-run.result.now c.run-run.ensures.run (omega arith)

pub slice_bounds-result-end-then-count-run : goal.slice_bounds-result-end-then-count-run
slice_bounds-result-end-then-count-run c = grind (arith, common_steps)
