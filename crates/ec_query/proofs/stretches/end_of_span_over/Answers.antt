-- The span that covers the time has the end.
use Rattle.std.proofs.Common.{sym, ap, subst, ◌∙◌, arith}
use Rattle.std.proofs.lemmas.Grind.{common_steps}
use Rattle.ec_axioms.specs.Timeline.{is_held_at}
use Rattle.ec_intervals.specs.Table.{plain_end, plain_spans}
use Rattle.ec_query.specs.Stretches.{IsEndOver}
use Rattle.ec_query.proofs.SpanLemmas.{over-span, over-none}
use Rattle.ec_query.proofs.stretches.end_of_span_over.Goals as goal

pub returns-in_err-place-clause-none : goal.returns-in_err-place-clause-none
returns-in_err-place-clause-none g c =
    rw c.from_residual-in_err-place.ensures
    (ap (λ spans. is_held_at (plain_spans g.T.Moment.rank spans) (g.T.Moment.rank c.args.at)) c.in_ok-spans.ensures.spans
    ∙ over-none g.T.Moment.rank (g.I.SpanRow.spans c.in_ok-spans.spans.now) (g.T.Moment.rank c.args.at) c.in_err-place.ensures.none)

pub returns-clause-some : goal.returns-clause-some
returns-clause-some g c =
    subst (λ spans. IsEndOver (plain_spans g.T.Moment.rank spans) (g.T.Moment.rank c.args.at) (plain_end g.T.Moment.rank c.get.result.end)) (sym c.in_ok-spans.ensures.spans)
    (over-span g.T.Moment.rank (g.I.SpanRow.spans c.in_ok-spans.spans.now) c.in_ok-place.place c.get.result (g.T.Moment.rank c.args.at) c.get.ensures.span c.in_ok-place.ensures.covering)

pub returns-in_err-spans-clause-none : goal.returns-in_err-spans-clause-none
returns-in_err-spans-clause-none c = grind (arith, common_steps)

pub returns-in_err-spans-clause-some : goal.returns-in_err-spans-clause-some
returns-in_err-spans-clause-some c = grind (arith, common_steps)

pub returns-in_err-place-clause-some : goal.returns-in_err-place-clause-some
returns-in_err-place-clause-some c = grind (arith, common_steps)
