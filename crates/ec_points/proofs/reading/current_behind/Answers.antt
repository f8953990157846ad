-- The mark in front of the place is the last one before the time.
use Rattle.std.proofs.Common.{◌≡◌, ◌+◌, ◌-◌, length, ap, sym, ◌∙◌, arith}
use Rattle.std.specs.Prelude.{int_lt}
use Rattle.ec_axioms.specs.Marks.{current_after}
use Rattle.ec_lists.proofs.Filters.{length-filter_le}
use Rattle.ec_rows.specs.Marks.{marks_before}
use Rattle.ec_points.proofs.LastMarks.{last_mark_before-some, last_mark_before-none}
use Rattle.ec_points.proofs.reading.current_behind.Goals as goal

pub mark_in-requires-clause-within : goal.mark_in-requires-clause-within
mark_in-requires-clause-within g c =
    let few = length-filter_le (λ mark. int_lt (g.T.Moment.rank mark.at) (g.T.Moment.rank c.args.at)) (g.M.MarkRow.marks c.args.row.now) in
    omega (arith, few, c.requires.place, c.if-place-eq0.false)

pub returns-then-place-eq0 : goal.returns-then-place-eq0
returns-then-place-eq0 g c =
    ap (current_after c.args.initial)
    (last_mark_before-none g.T.Moment.rank (g.T.Moment.rank c.args.at) (g.M.MarkRow.marks c.args.row.now) (sym c.requires.place ∙ c.if-place-eq0.true))

pub returns-else-place-eq0 : goal.returns-else-place-eq0
returns-else-place-eq0 g c =
    let count : c.args.place - 1 + 1 ≡ length (marks_before g.T.Moment.rank (g.T.Moment.rank c.args.at) (g.M.MarkRow.marks c.args.row.now)) =
    omega (arith, c.requires.place, c.if-place-eq0.false) in
    ap (current_after c.args.initial)
    (last_mark_before-some g.T.Moment.rank (g.T.Moment.rank c.args.at) (g.M.MarkRow.marks c.args.row.now) _ c.mark_in.result c.requires.row count c.mark_in.ensures)
