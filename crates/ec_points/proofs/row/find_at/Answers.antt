-- The mark at the time, if there is one, follows those before it.
use Rattle.std.proofs.Common.{sym, ◌∙◌, arith}
use Rattle.ec_points.proofs.LastMarks.{without_mark-at, without_mark-end, without_mark-other}
use Rattle.ec_points.proofs.row.find_at.Goals as goal

pub returns-then-place-len-clause-none : goal.returns-then-place-len-clause-none
returns-then-place-len-clause-none g c =
    without_mark-end g.T.Moment.rank (g.T.Moment.rank c.args.at) (g.M.MarkRow.marks c.args.row.now) c.count_before-place.ensures.row
    c.count_before-place.result c.count_before-place.ensures.count (omega (arith, c.if-place-len.true, c.len.ensures.len))

pub returns-then-is_at-clause-found : goal.returns-then-is_at-clause-found
returns-then-is_at-clause-found g c =
    without_mark-at g.T.Moment.rank (g.T.Moment.rank c.args.at) (g.M.MarkRow.marks c.args.row.now) c.count_before-place.ensures.row
    c.count_before-place.result c.count_before-place.ensures.count c.get.result c.get.ensures.mark (sym c.is_at.ensures ∙ c.if-is_at.true)

pub returns-else-is_at-clause-none : goal.returns-else-is_at-clause-none
returns-else-is_at-clause-none g c =
    without_mark-other g.T.Moment.rank (g.T.Moment.rank c.args.at) (g.M.MarkRow.marks c.args.row.now) c.count_before-place.ensures.row
    c.count_before-place.result c.count_before-place.ensures.count c.get.result c.get.ensures.mark (sym c.is_at.ensures ∙ c.if-is_at.false)
