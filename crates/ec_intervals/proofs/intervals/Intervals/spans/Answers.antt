-- The row that is found is that of the table.
use Rattle.std.proofs.Common.{is_some, ap}
use Rattle.ec_intervals.specs.Table.{room_in, spans_in}
use Rattle.ec_intervals.proofs.KeptRows.{row_at-absent, row_at-kept}
use Rattle.ec_intervals.proofs.intervals.Intervals.spans.Goals as goal

pub returns-in-Some-clause-there : goal.returns-in-Some-clause-there
returns-in-Some-clause-there g c = ap is_some (row_at-kept g.I.SpanRow.spans g.I.SpanRow.spare c.self.inside.rows c.args.self.now (ap (λ t. t.rows) c.self.view_is) c.args.p.0 c.in-Some.kept.now c.in-Some.ensures)

pub returns-in-Some-clause-spans : goal.returns-in-Some-clause-spans
returns-in-Some-clause-spans g c = ap spans_in (row_at-kept g.I.SpanRow.spans g.I.SpanRow.spare c.self.inside.rows c.args.self.now (ap (λ t. t.rows) c.self.view_is) c.args.p.0 c.in-Some.kept.now c.in-Some.ensures)

pub returns-in-Some-clause-room : goal.returns-in-Some-clause-room
returns-in-Some-clause-room g c = ap room_in (row_at-kept g.I.SpanRow.spans g.I.SpanRow.spare c.self.inside.rows c.args.self.now (ap (λ t. t.rows) c.self.view_is) c.args.p.0 c.in-Some.kept.now c.in-Some.ensures)

pub returns-in-None-clause-none : goal.returns-in-None-clause-none
returns-in-None-clause-none g c = row_at-absent g.I.SpanRow.spans g.I.SpanRow.spare c.self.inside.rows c.args.self.now (ap (λ t. t.rows) c.self.view_is) c.args.p.0 c.in-None.ensures
