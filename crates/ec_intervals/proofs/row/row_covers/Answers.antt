-- A span covers a time where it does as an interval.
use Rattle.std.proofs.Common.{sym, ◌∙◌}
use Rattle.ec_intervals.proofs.Covering.{held-front, held-span, held-none}
use Rattle.ec_intervals.proofs.row.row_covers.Goals as goal

pub returns-then-front_covers : goal.returns-then-front_covers
returns-then-front_covers g c =
    held-front g.T.Moment.rank (g.T.Moment.rank c.args.at) c.args.kept.now.front (g.I.SpanRow.spans c.args.kept.now.spans) (sym c.front_covers.ensures ∙ c.if-front_covers.true)

pub returns-in-Some : goal.returns-in-Some
returns-in-Some g c =
    held-span g.T.Moment.rank (g.T.Moment.rank c.args.at) c.args.kept.now.front (g.I.SpanRow.spans c.args.kept.now.spans) (sym c.front_covers.ensures ∙ c.if-front_covers.false)
    c.in-Some.field-0 c.in-Some.ensures.within c.in-Some.ensures.covering

pub returns-in-None : goal.returns-in-None
returns-in-None g c =
    held-none g.T.Moment.rank (g.T.Moment.rank c.args.at) c.args.kept.now.front (g.I.SpanRow.spans c.args.kept.now.spans) (sym c.front_covers.ensures ∙ c.if-front_covers.false) c.in-None.ensures.none
