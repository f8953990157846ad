-- The spans that are read are the first and the last.
use Rattle.std.proofs.Common.{◌≡◌, ◌-◌, suc, length, sym, subst, ◌∙◌, arith}
use Rattle.std.specs.Prelude.{Some}
use Rattle.std.proofs.lemmas.List.{nil_from_length}
use Rattle.ec_intervals.specs.Reach.{IsReachOfSpans}
use Rattle.ec_intervals.proofs.ReachLemmas.{IsReachOfSpans-ends, IsReachOfSpans-none}
use Rattle.ec_intervals.proofs.reach.reach_of_spans.Goals as goal

pub returns-then-len-eq0 : goal.returns-then-len-eq0
returns-then-len-eq0 g c =
    let spans = g.I.SpanRow.spans c.args.spans.now in
    IsReachOfSpans-none g.T.Moment.rank spans (nil_from_length spans (sym c.len-len.ensures.len ∙ c.if-len-eq0.true))

pub returns : goal.returns
returns g c =
    let spans = g.I.SpanRow.spans c.args.spans.now in
    let count = c.len-len.ensures.len in
    let some = c.if-len-eq0.false in
    let last : length spans ≡ suc (c.len-len.result - 1) = omega (arith, count, some) in
    subst (λ reach. IsReachOfSpans g.T.Moment.rank (Some reach) spans) (sym c.reach_between.ensures)
    (IsReachOfSpans-ends g.T.Moment.rank spans c.get-first.result c.get-last.result (c.len-len.result - 1) c.len-len.ensures.row last c.get-first.ensures.span c.get-last.ensures.span)
