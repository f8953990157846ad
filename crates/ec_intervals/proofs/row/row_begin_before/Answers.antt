-- The span in front of the place is the last that starts before the time.
use Rattle.std.proofs.Common.{ap, sym, ◌∙◌, arith}
use Rattle.ec_intervals.proofs.LastBefore.{front_begin, last-of_front, last-started}
use Rattle.ec_intervals.proofs.SpanCuts.{before-within}
use Rattle.ec_intervals.proofs.row.row_begin_before.Goals as goal

pub get-requires : goal.get-requires
get-requires g c =
    let within = before-within g.T.Moment.rank (g.T.Moment.rank c.args.at) (g.I.SpanRow.spans c.args.kept.now.spans) c.count_before-count.result c.count_before-count.ensures.count in
    omega (arith, within, c.if-count-gt0.true)

pub returns-then-count-gt0 : goal.returns-then-count-gt0
returns-then-count-gt0 g c =
    last-started g.T.Moment.rank (g.T.Moment.rank c.args.at) c.args.kept.now.front (g.I.SpanRow.spans c.args.kept.now.spans) c.count_before-count.ensures.row
    c.count_before-count.result c.count_before-count.ensures.count c.if-count-gt0.true c.get.result c.get.ensures.span

pub returns-in-Some : goal.returns-in-Some
returns-in-Some g c =
    let rank = g.T.Moment.rank in
    ap (front_begin rank (rank c.args.at)) (sym c.in-Some.is)
    ∙ last-of_front rank (rank c.args.at) c.args.kept.now.front (g.I.SpanRow.spans c.args.kept.now.spans) c.count_before-count.result c.count_before-count.ensures.count c.if-count-gt0.false

pub returns-in-None : goal.returns-in-None
returns-in-None g c =
    let rank = g.T.Moment.rank in
    ap (front_begin rank (rank c.args.at)) (sym c.in-None.is)
    ∙ last-of_front rank (rank c.args.at) c.args.kept.now.front (g.I.SpanRow.spans c.args.kept.now.spans) c.count_before-count.result c.count_before-count.ensures.count c.if-count-gt0.false
