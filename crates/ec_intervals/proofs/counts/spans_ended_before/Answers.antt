-- Those in front of the span that covers the time, or else those that start before it.
use Rattle.std.proofs.Common.{refl, ◌∙◌, arith}
use Rattle.ec_intervals.specs.Steps.{ends_before}
use Rattle.ec_intervals.proofs.SpanCuts.{covering-cut, uncovered-cut, before-within}
use Rattle.ec_intervals.proofs.Counted.{length-filter_spans}
use Rattle.ec_intervals.proofs.counts.spans_ended_before.Goals as goal

pub returns-in-Some : goal.returns-in-Some
returns-in-Some g c =
    length-filter_spans g.T.Moment.rank (ends_before (g.T.Moment.rank c.args.at)) c.in-Some.place (g.I.SpanRow.spans c.args.spans.now) (omega (arith, c.in-Some.ensures.within))
    (covering-cut g.T.Moment.rank (g.T.Moment.rank c.args.at) (g.I.SpanRow.spans c.args.spans.now) c.in-Some.place c.in-Some.ensures.row c.in-Some.ensures.within c.in-Some.ensures.covering)

pub returns-in-None : goal.returns-in-None
returns-in-None g c =
    let spans = g.I.SpanRow.spans c.args.spans.now in
    c.count_before.ensures.count ∙ length-filter_spans g.T.Moment.rank (ends_before (g.T.Moment.rank c.args.at)) _ spans
    (before-within g.T.Moment.rank (g.T.Moment.rank c.args.at) spans _ refl)
    (uncovered-cut g.T.Moment.rank (g.T.Moment.rank c.args.at) spans c.count_before.ensures.row c.in-None.ensures.none)
