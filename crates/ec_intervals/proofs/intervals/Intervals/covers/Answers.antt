-- The row that is found is that of the table.
use Rattle.std.proofs.Common.{sym, ap, ◌∙◌}
use Rattle.ec_axioms.specs.Timeline.{is_held_at}
use Rattle.ec_intervals.specs.Table.{members_in, plain_intervals}
use Rattle.ec_intervals.proofs.KeptRows.{row_at-kept, row_at-absent}
use Rattle.ec_intervals.proofs.intervals.Intervals.covers.Goals as goal

pub returns-in-Some : goal.returns-in-Some
returns-in-Some g c =
    c.row_covers.ensures
    ∙ sym (ap (λ row. is_held_at (plain_intervals g.T.Moment.rank (members_in row)) (g.T.Moment.rank c.args.at))
    (row_at-kept g.I.SpanRow.spans g.I.SpanRow.spare c.self.inside.rows c.args.self.now (ap (λ t. t.rows) c.self.view_is) c.args.p.0 c.in-Some.kept.now c.in-Some.ensures))

pub returns-in-None : goal.returns-in-None
returns-in-None g c =
    sym (ap (λ row. is_held_at (plain_intervals g.T.Moment.rank (members_in row)) (g.T.Moment.rank c.args.at))
    (row_at-absent g.I.SpanRow.spans g.I.SpanRow.spare c.self.inside.rows c.args.self.now (ap (λ t. t.rows) c.self.view_is) c.args.p.0 c.in-None.ensures))
