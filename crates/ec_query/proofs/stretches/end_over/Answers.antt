-- The front covers the time, or else a span does.
use Rattle.std.proofs.Common.{sym, ap, ◌∙◌, subst, arith}
use Rattle.std.proofs.lemmas.Grind.{common_steps}
use Rattle.std.specs.Prelude.{IfSome}
use Rattle.ec_lists.proofs.Options.{IfSome-weaker}
use Rattle.ec_axioms.specs.Timeline.{is_held_at}
use Rattle.ec_intervals.specs.Table.{front_at, front_members, members_at, plain_end, plain_intervals, spans_at, plain_spans}
use Rattle.ec_query.specs.Stretches.{IsEndOver}
use Rattle.ec_query.proofs.SpanLemmas.{IfNone-weaker, over-front, over-later, held-parts}
use Rattle.ec_query.proofs.stretches.end_over.Goals as goal

pub returns-then-front_covers-clause-some : goal.returns-then-front_covers-clause-some
returns-then-front_covers-clause-some g c =
    let rank = g.T.Moment.rank in
    subst (λ front. IfSome front (λ end. IsEndOver (plain_intervals rank (members_at c.args.id.0 c.args.intervals.now)) (rank c.args.at) (plain_end rank end))) (sym c.front-front.ensures)
    (over-front rank (front_at c.args.id.0 c.args.intervals.now) (spans_at c.args.id.0 c.args.intervals.now) (rank c.args.at)
    (ap (λ front. is_held_at (plain_intervals rank (front_members front)) (rank c.args.at)) (sym c.front-front.ensures) ∙ sym c.front_covers.ensures ∙ c.if-front_covers.true))

pub returns-clause-some : goal.returns-clause-some
returns-clause-some g c =
    let rank = g.T.Moment.rank in
    IfSome-weaker c.end_of_span_over.result (λ end. IsEndOver (plain_spans rank (spans_at c.args.id.0 c.args.intervals.now)) (rank c.args.at) (plain_end rank end))
    (λ end. IsEndOver (plain_intervals rank (members_at c.args.id.0 c.args.intervals.now)) (rank c.args.at) (plain_end rank end))
    (λ end. over-later rank (front_at c.args.id.0 c.args.intervals.now) (spans_at c.args.id.0 c.args.intervals.now) (rank c.args.at) (plain_end rank end))
    c.end_of_span_over.ensures.some

pub returns-clause-none : goal.returns-clause-none
returns-clause-none g c =
    let rank = g.T.Moment.rank in
    IfNone-weaker c.end_of_span_over.result
    (held-parts rank (front_at c.args.id.0 c.args.intervals.now) (spans_at c.args.id.0 c.args.intervals.now) (rank c.args.at)
    (ap (λ front. is_held_at (plain_intervals rank (front_members front)) (rank c.args.at)) (sym c.front-front.ensures) ∙ sym c.front_covers.ensures ∙ c.if-front_covers.false))
    c.end_of_span_over.ensures.none

pub returns-then-front_covers-clause-none : goal.returns-then-front_covers-clause-none
returns-then-front_covers-clause-none c = grind (arith, common_steps)
