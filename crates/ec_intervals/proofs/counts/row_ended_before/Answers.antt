-- What of the front ends before the time, and what of the spans.
use Rattle.std.proofs.Common.{◌+◌, ap₂, sym, ◌∙◌, arith}
use Rattle.ec_intervals.specs.Steps.{ends_before}
use Rattle.ec_intervals.proofs.Counted.{length-filter_members, filter_members-few}
use Rattle.ec_intervals.proofs.counts.row_ended_before.Goals as goal

pub overflow_add-result : goal.overflow_add-result
overflow_add-result g c =
    let few = filter_members-few g.T.Moment.rank (ends_before (g.T.Moment.rank c.args.at)) c.args.kept.now.front (g.I.SpanRow.spans c.args.kept.now.spans) in
    omega (arith, few, c.requires.few, c.fronts_ended_before.ensures, c.spans_ended_before.ensures)

pub returns : goal.returns
returns g c =
    ap₂ (λ a b. a + b) c.fronts_ended_before.ensures c.spans_ended_before.ensures
    ∙ sym (length-filter_members g.T.Moment.rank (ends_before (g.T.Moment.rank c.args.at)) c.args.kept.now.front (g.I.SpanRow.spans c.args.kept.now.spans))
