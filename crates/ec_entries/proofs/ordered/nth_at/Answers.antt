-- Those at the time stand between the two places.
use Rattle.std.proofs.Common.{sym, ap, ◌∙◌, option_map, arith}
use Rattle.std.specs.Ordering.{int_eq}
use Rattle.ec_lists.proofs.Filters.{length-filter_le}
use Rattle.ec_entries.specs.declared.event_entries.Dependent.{Dependent}
use Rattle.ec_entries.proofs.Readings.{earlier-up_to, slice_get-dependents_at, slice_get-past_dependents_at}
use Rattle.ec_entries.proofs.ordered.nth_at.Goals as goal

pub overflow_sub-up_to : goal.overflow_sub-up_to
overflow_sub-up_to g c =
    earlier-up_to g.T.Moment.rank (g.T.Moment.rank c.args.at) c.args.list.now.items c.count_before-before.result c.count_up_to-up_to.result
    c.count_before-before.ensures.within c.count_before-before.ensures.cut c.count_up_to-up_to.ensures.cut

pub returns-then-k-up_to-clause-nth : goal.returns-then-k-up_to-clause-nth
returns-then-k-up_to-clause-nth g c =
    sym (ap (option_map (λ (d : Dependent g.row.T.Denot). (d.slot, d.place)))
    (slice_get-dependents_at g.T.Moment.rank (g.T.Moment.rank c.args.at) c.args.list.now.items c.count_before-before.result c.count_up_to-up_to.result
    c.count_before-before.ensures.cut c.count_up_to-up_to.ensures.cut c.args.k c.if-k-up_to.true ∙ c.get-dependent.ensures))

pub returns-else-k-up_to-clause-nth : goal.returns-else-k-up_to-clause-nth
returns-else-k-up_to-clause-nth g c =
    sym (ap (option_map (λ (d : Dependent g.row.T.Denot). (d.slot, d.place)))
    (slice_get-past_dependents_at g.T.Moment.rank (g.T.Moment.rank c.args.at) c.args.list.now.items c.count_before-before.result c.count_up_to-up_to.result
    c.count_before-before.ensures.cut c.count_up_to-up_to.ensures.cut c.args.k c.if-k-up_to.false))

pub returns-then-k-up_to-clause-few : goal.returns-then-k-up_to-clause-few
returns-then-k-up_to-clause-few g c =
    omega (arith, c.len.ensures, length-filter_le (λ (d : Dependent g.row.T.Denot). int_eq (g.T.Moment.rank d.at) (g.T.Moment.rank c.args.at)) c.args.list.now.items)

pub returns-else-k-up_to-clause-few : goal.returns-else-k-up_to-clause-few
returns-else-k-up_to-clause-few g c =
    omega (arith, c.len.ensures, length-filter_le (λ (d : Dependent g.row.T.Denot). int_eq (g.T.Moment.rank d.at) (g.T.Moment.rank c.args.at)) c.args.list.now.items)
