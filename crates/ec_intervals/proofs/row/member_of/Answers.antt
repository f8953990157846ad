-- The interval at a place is that of a span, unless it is the front.
use Rattle.std.proofs.Common.{arith}
use Rattle.std.proofs.lemmas.Grind.{common_steps}
use Rattle.ec_intervals.proofs.KeptRows.{member-alone, member-behind}
use Rattle.ec_intervals.proofs.Counted.{proper-span, proper-is}
use Rattle.ec_intervals.proofs.row.member_of.Goals as goal

pub get-requires-2 : goal.get-requires-2
get-requires-2 c = grind (arith, common_steps)

pub returns-then-i-eq0 : goal.returns-then-i-eq0
returns-then-i-eq0 c = grind (arith, common_steps)

pub get-requires : goal.get-requires
get-requires c = grind (arith, common_steps)

pub returns-clause-member : goal.returns-clause-member
returns-clause-member g c =
    member-behind g.I.SpanRow.spans g.I.SpanRow.spare c.args.kept.now c.args.i c.in-Some.end c.get-2.result c.span_interval-2.result c.in-Some.is c.if-i-eq0.false
    c.get-2.ensures.span c.span_interval-2.ensures

pub returns-in_default-clause-member : goal.returns-in_default-clause-member
returns-in_default-clause-member g c =
    member-alone g.I.SpanRow.spans g.I.SpanRow.spare c.args.kept.now c.args.i c.get.result c.span_interval.result c.in_default.is c.get.ensures.span c.span_interval.ensures

pub returns-in_default-clause-proper : goal.returns-in_default-clause-proper
returns-in_default-clause-proper g c =
    proper-is g.T.Moment.rank c.get.result c.span_interval.result c.span_interval.ensures
    (proper-span g.T.Moment.rank (g.I.SpanRow.spans c.args.kept.now.spans) c.args.i c.get.result c.get.ensures.row c.get.ensures.span)

pub returns-clause-proper : goal.returns-clause-proper
returns-clause-proper g c =
    proper-is g.T.Moment.rank c.get-2.result c.span_interval-2.result c.span_interval-2.ensures
    (proper-span g.T.Moment.rank (g.I.SpanRow.spans c.args.kept.now.spans) _ c.get-2.result c.get-2.ensures.row c.get-2.ensures.span)
