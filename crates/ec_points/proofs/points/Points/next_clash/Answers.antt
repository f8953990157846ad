-- The clashes of the list are those of the rows.
use Rattle.std.proofs.Common.{refl, ap, ◌∙◌}
use Rattle.ec_points.specs.Clashes.{clashes_in}
use Rattle.ec_points.specs.Table.{PointTable, marks_in}
use Rattle.ec_points.proofs.RowClashes.{clashes_at-table, list_any-row}
use Rattle.ec_points.proofs.points.Points.next_clash.Goals as goal

pub returns-in-Some-clause-some : goal.returns-in-Some-clause-some
returns-in-Some-clause-some g c =
    list_any-row (λ row. clashes_in g.T.Moment.rank (g.T.Moment.rank c.in-Some.clash.at) (marks_in row)) refl c.args.self.now.rows c.in-Some.clash.p.0
    (clashes_at-table g.M.MarkRow.marks g.M.MarkRow.spare g.T.Moment.rank c.self.inside.rows c.self.inside.clashes.items c.args.self.now
    (ap (λ (table : PointTable _). table.rows) c.self.view_is) c.self.invariant c.in-Some.clash.p.0 (g.T.Moment.rank c.in-Some.clash.at) ∙ c.in-Some.ensures.some)

pub returns-in-Some-clause-least : goal.returns-in-Some-clause-least
returns-in-Some-clause-least g c = λ n t behind earlier.
    clashes_at-table g.M.MarkRow.marks g.M.MarkRow.spare g.T.Moment.rank c.self.inside.rows c.self.inside.clashes.items c.args.self.now
    (ap (λ (table : PointTable _). table.rows) c.self.view_is) c.self.invariant n t ∙ c.in-Some.ensures.least n t behind earlier

pub returns-in-None-clause-none : goal.returns-in-None-clause-none
returns-in-None-clause-none g c = λ n t behind.
    clashes_at-table g.M.MarkRow.marks g.M.MarkRow.spare g.T.Moment.rank c.self.inside.rows c.self.inside.clashes.items c.args.self.now
    (ap (λ (table : PointTable _). table.rows) c.self.view_is) c.self.invariant n t ∙ c.in-None.ensures.none n t behind
