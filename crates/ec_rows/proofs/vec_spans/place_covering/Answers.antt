-- Where the last span that starts before the time does not reach it, no span does.
use Rattle.std.proofs.Common.{◌≡◌, ◌-◌, suc, subst, sym, ◌∙◌, arith}
use Rattle.std.proofs.lemmas.Bool.{and_from}
use Rattle.std.proofs.lemmas.List.{get_or_default}
use Rattle.ec_rows.specs.declared.span.Span.{Span}
use Rattle.ec_rows.proofs.TimedLemmas.{IsCutBefore}
use Rattle.ec_rows.proofs.SpanLemmas.{by_time-from_row, uncovered-from_start, uncovered-from_last}
use Rattle.ec_rows.proofs.vec_spans.place_covering.Goals as goal

pub count_before-count-requires : goal.count_before-count-requires
count_before-count-requires g c = by_time-from_row g.T.Moment.rank c.args.spans.now c.requires

pub returns-then-count-eq0-clause-none : goal.returns-then-count-eq0-clause-none
returns-then-count-eq0-clause-none g c =
    uncovered-from_start g.T.Moment.rank (g.T.Moment.rank c.args.at) c.args.spans.now
    (subst (IsCutBefore g.T.Moment.rank (λ (s : Span _). s.from) (g.T.Moment.rank c.args.at) c.args.spans.now) c.if-count-eq0.true c.count_before-count.ensures.cut)

pub returns-else-reaches-clause-none : goal.returns-else-reaches-clause-none
returns-else-reaches-clause-none g c =
    let more : c.count_before-count.result ≡ suc (c.count_before-count.result - 1) = omega arith in
    uncovered-from_last g.T.Moment.rank (g.T.Moment.rank c.args.at) c.args.spans.now (c.count_before-count.result - 1) c.index-spans-last.result c.requires
    (subst (IsCutBefore g.T.Moment.rank (λ (s : Span _). s.from) (g.T.Moment.rank c.args.at) c.args.spans.now) more c.count_before-count.ensures.cut)
    (omega arith) (rw (← c.index-spans-last.is) (sym c.reaches.ensures ∙ c.if-reaches.false))

pub returns-then-reaches-clause-covering : goal.returns-then-reaches-clause-covering
returns-then-reaches-clause-covering g c =
    let last = c.count_before-count.result - 1 in
    λ d.
    let same = c.index-spans-last.is ∙ get_or_default c.args.spans.now last c.index-spans-last.result d (omega arith) in
    and_from _ _ (c.count_before-count.ensures.cut.0 last d (omega arith) (omega arith)) (rw (← same) (sym c.reaches.ensures ∙ c.if-reaches.true))
