-- As many spans start up to a time as before it, and one more where the next one starts at it.
use Rattle.std.proofs.Common.{◌+◌, not, refl, ap, sym, ◌∙◌, arith}
use Rattle.std.specs.Prelude.{int_lt, slice_get}
use Rattle.std.specs.Ordering.{is_eq}
use Rattle.std.proofs.lemmas.List.Filters.{length-filter_both}
use Rattle.ec_rows.specs.declared.span.Span.{Span}
use Rattle.ec_intervals.proofs.SpanCuts.{up_to-end, up_to-at, up_to-other}
use Rattle.ec_intervals.proofs.window.count_up_to.Goals as goal

pub returns-then-count-len-clause-count : goal.returns-then-count-len-clause-count
returns-then-count-len-clause-count g c =
    c.count_before-count.ensures.count
    ∙ up_to-end g.T.Moment.rank (g.T.Moment.rank c.args.at) (g.I.SpanRow.spans c.args.spans.now) c.len.ensures.row (sym c.count_before-count.ensures.count ∙ c.if-count-len.true ∙ c.len.ensures.len)

pub get-requires : goal.get-requires
get-requires g c =
    let t = g.T.Moment.rank c.args.at in
    let both = length-filter_both (λ (s : Span _). int_lt (g.T.Moment.rank s.from) t) (λ (s : Span _). not (int_lt (g.T.Moment.rank s.from) t)) (λ s. refl) (g.I.SpanRow.spans c.args.spans.now) in
    omega (arith, both, c.count_before-count.ensures.count, c.len.ensures.len, c.if-count-len.false)

pub overflow_add-result : goal.overflow_add-result
overflow_add-result g c =
    let t = g.T.Moment.rank c.args.at in
    let both = length-filter_both (λ (s : Span _). int_lt (g.T.Moment.rank s.from) t) (λ (s : Span _). not (int_lt (g.T.Moment.rank s.from) t)) (λ s. refl) (g.I.SpanRow.spans c.args.spans.now) in
    omega (arith, both, c.count_before-count.ensures.count, c.len.ensures.len, c.if-count-len.false)

pub returns-then-is_eq-clause-within : goal.returns-then-is_eq-clause-within
returns-then-is_eq-clause-within g c =
    let t = g.T.Moment.rank c.args.at in
    let both = length-filter_both (λ (s : Span _). int_lt (g.T.Moment.rank s.from) t) (λ (s : Span _). not (int_lt (g.T.Moment.rank s.from) t)) (λ s. refl) (g.I.SpanRow.spans c.args.spans.now) in
    omega (arith, both, c.count_before-count.ensures.count, c.len.ensures.len, c.if-count-len.false)

pub returns-else-is_eq-clause-within : goal.returns-else-is_eq-clause-within
returns-else-is_eq-clause-within g c =
    let t = g.T.Moment.rank c.args.at in
    let both = length-filter_both (λ (s : Span _). int_lt (g.T.Moment.rank s.from) t) (λ (s : Span _). not (int_lt (g.T.Moment.rank s.from) t)) (λ s. refl) (g.I.SpanRow.spans c.args.spans.now) in
    omega (arith, both, c.count_before-count.ensures.count)

pub returns-then-is_eq-clause-count : goal.returns-then-is_eq-clause-count
returns-then-is_eq-clause-count g c =
    ap (λ n. n + 1) c.count_before-count.ensures.count
    ∙ up_to-at g.T.Moment.rank (g.T.Moment.rank c.args.at) (g.I.SpanRow.spans c.args.spans.now) c.len.ensures.row c.get.result
    (ap (slice_get (g.I.SpanRow.spans c.args.spans.now)) (sym c.count_before-count.ensures.count) ∙ c.get.ensures.span)
    (sym (c.is_eq.ensures ∙ ap is_eq c.order.ensures.order) ∙ c.if-is_eq.true)

pub returns-else-is_eq-clause-count : goal.returns-else-is_eq-clause-count
returns-else-is_eq-clause-count g c =
    c.count_before-count.ensures.count
    ∙ up_to-other g.T.Moment.rank (g.T.Moment.rank c.args.at) (g.I.SpanRow.spans c.args.spans.now) c.len.ensures.row c.get.result
    (ap (slice_get (g.I.SpanRow.spans c.args.spans.now)) (sym c.count_before-count.ensures.count) ∙ c.get.ensures.span)
    (sym (c.is_eq.ensures ∙ ap is_eq c.order.ensures.order) ∙ c.if-is_eq.false)
