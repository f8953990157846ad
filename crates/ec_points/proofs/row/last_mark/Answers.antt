-- The mark behind which no mark before the time stands is the last of them.
use Rattle.std.proofs.Common.{◌≡◌, ◌+◌, ◌-◌, length, sym, ◌∙◌, arith}
use Rattle.std.specs.Prelude.{int_lt}
use Rattle.ec_lists.proofs.Filters.{length-filter_le}
use Rattle.ec_rows.specs.Marks.{marks_before}
use Rattle.ec_points.proofs.LastMarks.{last_mark_before-some, last_mark_before-none}
use Rattle.ec_points.proofs.row.last_mark.Goals as goal

pub get-requires : goal.get-requires
get-requires g c =
    let few = length-filter_le (λ mark. int_lt (g.T.Moment.rank mark.at) (g.T.Moment.rank c.args.at)) (g.M.MarkRow.marks c.args.row.now) in
    omega (arith, few, c.count_before-count.ensures.count, c.if-count-eq0.false)

pub returns-then-count-eq0 : goal.returns-then-count-eq0
returns-then-count-eq0 g c =
    last_mark_before-none g.T.Moment.rank (g.T.Moment.rank c.args.at) (g.M.MarkRow.marks c.args.row.now) (sym c.count_before-count.ensures.count ∙ c.if-count-eq0.true)

pub returns-else-count-eq0 : goal.returns-else-count-eq0
returns-else-count-eq0 g c =
    let count : c.count_before-count.result - 1 + 1 ≡ length (marks_before g.T.Moment.rank (g.T.Moment.rank c.args.at) (g.M.MarkRow.marks c.args.row.now)) =
    omega (arith, c.count_before-count.ensures.count, c.if-count-eq0.false) in
    last_mark_before-some g.T.Moment.rank (g.T.Moment.rank c.args.at) (g.M.MarkRow.marks c.args.row.now) _ c.get.result c.count_before-count.ensures.row count c.get.ensures.mark
