-- The mark at the place is at the time or behind it.
use Rattle.std.proofs.Common.{sym, ◌∙◌, arith}
use Rattle.ec_points.proofs.LastMarks.{after-end, after-here, after-other, mark_at-end, mark_at-here, mark_at-other}
use Rattle.ec_points.proofs.reading.mark_and_next.Goals as goal

pub returns-then-place-len-clause-mark : goal.returns-then-place-len-clause-mark
returns-then-place-len-clause-mark g c =
    mark_at-end g.T.Moment.rank (g.T.Moment.rank c.args.at) (g.M.MarkRow.marks c.args.row.now) c.requires.row c.args.place c.requires.place (omega (arith, c.if-place-len.true, c.len.ensures.len))

pub returns-then-place-len-clause-next : goal.returns-then-place-len-clause-next
returns-then-place-len-clause-next g c =
    after-end g.T.Moment.rank (g.T.Moment.rank c.args.at) (g.M.MarkRow.marks c.args.row.now) c.requires.row c.args.place c.requires.place (omega (arith, c.if-place-len.true, c.len.ensures.len))

pub returns-then-is_at-clause-mark : goal.returns-then-is_at-clause-mark
returns-then-is_at-clause-mark g c =
    mark_at-here g.T.Moment.rank (g.T.Moment.rank c.args.at) (g.M.MarkRow.marks c.args.row.now) c.requires.row c.args.place c.requires.place
    c.mark_in-first.result c.mark_in-first.ensures (sym c.is_at.ensures ∙ c.if-is_at.true)

pub returns-then-is_at-clause-next : goal.returns-then-is_at-clause-next
returns-then-is_at-clause-next g c =
    c.mark_if.ensures
    ∙ after-here g.T.Moment.rank (g.T.Moment.rank c.args.at) (g.M.MarkRow.marks c.args.row.now) c.requires.row c.args.place c.requires.place
    c.mark_in-first.result c.mark_in-first.ensures (sym c.is_at.ensures ∙ c.if-is_at.true)

pub returns-else-is_at-clause-mark : goal.returns-else-is_at-clause-mark
returns-else-is_at-clause-mark g c =
    mark_at-other g.T.Moment.rank (g.T.Moment.rank c.args.at) (g.M.MarkRow.marks c.args.row.now) c.requires.row c.args.place c.requires.place
    c.mark_in-first.result c.mark_in-first.ensures (sym c.is_at.ensures ∙ c.if-is_at.false)

pub returns-else-is_at-clause-next : goal.returns-else-is_at-clause-next
returns-else-is_at-clause-next g c =
    after-other g.T.Moment.rank (g.T.Moment.rank c.args.at) (g.M.MarkRow.marks c.args.row.now) c.requires.row c.args.place c.requires.place
    c.mark_in-first.result c.mark_in-first.ensures (sym c.is_at.ensures ∙ c.if-is_at.false)
