-- Where the last span that starts before the time does not reach it, no span does.
use Rattle.std.proofs.Common.{◌≡◌, ◌-◌, suc, subst, sym, ◌∙◌, arith}
use Rattle.ec_rows.specs.declared.span.Span.{Span}
use Rattle.std.proofs.lemmas.Option.{get_or_from_slice_get}
use Rattle.ec_rows.proofs.TimedLemmas.{IsCutBefore}
use Rattle.ec_rows.proofs.SpanLemmas.{by_time-from_row, uncovered-from_start, uncovered-from_last}
use Rattle.ec_block_rows.proofs.block_spans.place_covering.Goals as goal

pub count_before-count-requires : goal.count_before-count-requires
count_before-count-requires g c = by_time-from_row g.T.Moment.rank c.args.spans.now.items c.requires

pub returns-then-count-eq0-clause-none : goal.returns-then-count-eq0-clause-none
returns-then-count-eq0-clause-none g c =
    uncovered-from_start g.T.Moment.rank (g.T.Moment.rank c.args.at) c.args.spans.now.items
    (subst (IsCutBefore g.T.Moment.rank (λ (s : Span _). s.from) (g.T.Moment.rank c.args.at) c.args.spans.now.items) c.if-count-eq0.true c.count_before-count.ensures.cut)

pub returns-else-reaches-clause-none : goal.returns-else-reaches-clause-none
returns-else-reaches-clause-none g c =
    let more : c.count_before-count.result ≡ suc (c.count_before-count.result - 1) = omega arith in
    uncovered-from_last g.T.Moment.rank (g.T.Moment.rank c.args.at) c.args.spans.now.items (c.count_before-count.result - 1) c.get.result.now c.requires
    (subst (IsCutBefore g.T.Moment.rank (λ (s : Span _). s.from) (g.T.Moment.rank c.args.at) c.args.spans.now.items) more c.count_before-count.ensures.cut)
    (omega arith) (rw (get_or_from_slice_get c.args.spans.now.items (c.count_before-count.result - 1) c.get.result.now c.get.result.now c.get.ensures) (sym c.reaches.ensures ∙ c.if-reaches.false))
