-- The first span from the time on begins at it, or else none does.
use Rattle.std.proofs.Common.{◌≡◌, false, length, sym, ap, subst, ◌∙◌, arith}
use Rattle.std.proofs.lemmas.Grind.{common_steps}
use Rattle.std.specs.Prelude.{IfSome, int_lt, slice_get}
use Rattle.std.specs.List.{list_any}
use Rattle.std.specs.Ordering.{int_eq, is_eq}
use Rattle.ec_rows.specs.Spans.{IsSpanRow, spans_before}
use Rattle.ec_rows.specs.declared.span.Span.{Span}
use Rattle.ec_rows.proofs.SpanLemmas.{by_time-from_row}
use Rattle.ec_intervals.specs.Table.{front_at, spans_at}
use Rattle.ec_lists.proofs.Filters.{length-filter_le}
use Rattle.ec_lists.proofs.Integers.{int_eq-is}
use Rattle.ec_query.proofs.SpanLemmas.{no_begin-at, has_begin-parts, from-span, slice_get-end}
use Rattle.ec_query.proofs.stretches.end_from.Goals as goal

pub returns-then-place-len-clause-none : goal.returns-then-place-len-clause-none
returns-then-place-len-clause-none g c =
    let rank = g.T.Moment.rank in
    let spans = g.I.SpanRow.spans c.in_ok-spans.spans.now in
    has_begin-parts rank (front_at c.args.id.0 c.args.intervals.now) (spans_at c.args.id.0 c.args.intervals.now) (rank c.args.at)
    ∙ ap (λ ss. list_any (λ s. int_eq (rank s.from) (rank c.args.at)) ss) c.in_ok-spans.ensures.spans
    ∙ no_begin-at rank spans (rank c.args.at) (by_time-from_row rank spans c.count_before-place.ensures.row)
    (subst (λ o. IfSome o (λ s. int_eq (rank s.from) (rank c.args.at) ≡ false)) (sym (slice_get-end spans (length (spans_before rank (rank c.args.at) spans)) (sym c.count_before-place.ensures.count ∙ c.if-place-len.true ∙ c.len.ensures.len))) tt)

pub get-span-requires : goal.get-span-requires
get-span-requires g c =
    let within = length-filter_le (λ (s : Span _). int_lt (g.T.Moment.rank s.from) (g.T.Moment.rank c.args.at)) (g.I.SpanRow.spans c.in_ok-spans.spans.now) in
    omega (arith, within, c.count_before-place.ensures.count, c.len.ensures.len)

pub returns-then-is_eq-clause-some : goal.returns-then-is_eq-clause-some
returns-then-is_eq-clause-some g c =
    let rank = g.T.Moment.rank in
    from-span rank (front_at c.args.id.0 c.args.intervals.now) (spans_at c.args.id.0 c.args.intervals.now) c.count_before-place.result c.get-span.result (rank c.args.at)
    (subst (λ ss. IsSpanRow rank ss) (sym c.in_ok-spans.ensures.spans) c.get-span.ensures.row)
    (ap (λ ss. slice_get ss c.count_before-place.result) c.in_ok-spans.ensures.spans ∙ c.get-span.ensures.span)
    (int_eq-is (rank c.get-span.result.from) (rank c.args.at) (sym (c.is_eq.ensures ∙ ap is_eq c.order.ensures.order) ∙ c.if-is_eq.true))

pub returns-else-is_eq-clause-none : goal.returns-else-is_eq-clause-none
returns-else-is_eq-clause-none g c =
    let rank = g.T.Moment.rank in
    let spans = g.I.SpanRow.spans c.in_ok-spans.spans.now in
    has_begin-parts rank (front_at c.args.id.0 c.args.intervals.now) (spans_at c.args.id.0 c.args.intervals.now) (rank c.args.at)
    ∙ ap (λ ss. list_any (λ s. int_eq (rank s.from) (rank c.args.at)) ss) c.in_ok-spans.ensures.spans
    ∙ no_begin-at rank spans (rank c.args.at) (by_time-from_row rank spans c.count_before-place.ensures.row)
    (subst (λ o. IfSome o (λ s. int_eq (rank s.from) (rank c.args.at) ≡ false)) (sym (ap (slice_get spans) (sym c.count_before-place.ensures.count) ∙ c.get-span.ensures.span))
    (sym (c.is_eq.ensures ∙ ap is_eq c.order.ensures.order) ∙ c.if-is_eq.false))

pub returns-in_err-spans-clause-some : goal.returns-in_err-spans-clause-some
returns-in_err-spans-clause-some c = grind (arith, common_steps)

pub returns-in_err-spans-clause-none : goal.returns-in_err-spans-clause-none
returns-in_err-spans-clause-none c = grind (arith, common_steps)

pub returns-then-is_eq-clause-none : goal.returns-then-is_eq-clause-none
returns-then-is_eq-clause-none g c = tt
