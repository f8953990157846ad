-- The row that is found is that of the table.
use Rattle.std.proofs.Common.{sym, ap}
use Rattle.ec_intervals.specs.Table.{front_in}
use Rattle.ec_intervals.proofs.KeptRows.{row_at-absent, row_at-kept}
use Rattle.ec_intervals.proofs.intervals.Intervals.front.Goals as goal

pub returns-in-Some : goal.returns-in-Some
returns-in-Some g c = sym (ap front_in (row_at-kept g.I.SpanRow.spans g.I.SpanRow.spare c.self.inside.rows c.args.self.now (ap (λ t. t.rows) c.self.view_is) c.args.p.0 c.in-Some.kept.now c.in-Some.ensures))

pub returns-in-None : goal.returns-in-None
returns-in-None g c = sym (ap front_in (row_at-absent g.I.SpanRow.spans g.I.SpanRow.spare c.self.inside.rows c.args.self.now (ap (λ t. t.rows) c.self.view_is) c.args.p.0 c.in-None.ensures))
