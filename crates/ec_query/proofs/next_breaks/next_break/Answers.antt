-- The row of the property has its marks; without a row it has none.
use Rattle.std.proofs.Common.{[], option_map, ap}
use Rattle.ec_intervals.specs.Table.{plain_begin}
use Rattle.ec_points.specs.Table.{marks_in}
use Rattle.ec_rows.specs.PlainMarks.{plain_mark}
use Rattle.ec_parts.specs.StandFor.{view_of}
use Rattle.ec_query.proofs.OnParts.{on-break, on-strong}
use Rattle.ec_query.proofs.next_breaks.next_break.Goals as goal

pub returns-in_err-row : goal.returns-in_err-row
returns-in_err-row g c = λ events p on.
    let parts = c.args.parts.now in
    let rank = g.T.Moment.rank in
    let strong = on-strong rank parts.checked events (view_of parts) c.args.id p on c.is_strong-strong.result (c.is_strong-strong.ensures parts.checked parts.props on.stand.both.tables.added.neighbours) in
    on-break rank parts.checked events (view_of parts) c.args.id p on (plain_begin rank c.args.begin) c.is_strong-strong.result [] (option_map (plain_mark rank) c.from_residual.result) strong
    (ap marks_in c.in_err-row.ensures.none) (ap (option_map (plain_mark rank)) c.from_residual.ensures)

pub returns : goal.returns
returns g c = λ events p on.
    let parts = c.args.parts.now in
    let rank = g.T.Moment.rank in
    let strong = on-strong rank parts.checked events (view_of parts) c.args.id p on c.is_strong-strong.result (c.is_strong-strong.ensures parts.checked parts.props on.stand.both.tables.added.neighbours) in
    on-break rank parts.checked events (view_of parts) c.args.id p on (plain_begin rank c.args.begin) c.is_strong-strong.result (g.M.MarkRow.marks c.in_ok-row.row.now) (option_map (plain_mark rank) c.break_after.result) strong
    (ap marks_in c.in_ok-row.ensures.some) c.break_after.ensures
