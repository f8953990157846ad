-- The rows of other numbers are kept as they were, and the clashes of this one go.
use Rattle.std.proofs.Common.{◌≡◌, ◌≤◌, [], is_some, ap, arith}
use Rattle.std.proofs.lemmas.Grind.{common_steps}
use Rattle.std.specs.Prelude.{option_map}
use Rattle.ec_points.specs.Table.{PointTable, marks_in, room_in, row_of}
use Rattle.ec_points.proofs.RowClashes.{AreClashesOf-cleared}
use Rattle.ec_points.proofs.SeenRowLemmas.{is_some-seen, shown}
use Rattle.ec_points.proofs.points.Points.clear.Goals as goal

pub returns-clause-others : goal.returns-clause-others
returns-clause-others g c = λ n other.
    shown g.M.MarkRow.marks g.M.MarkRow.spare (λ old new. new ≡ old) c.self.inside.rows c.clear_in.new.rows c.args.self.now (ap (λ (table : PointTable _). table.rows) c.self.view_is) n (ap (option_map (row_of g.M.MarkRow.marks g.M.MarkRow.spare)) (c.clear_in.ensures.others n other))

pub invariant_of-self : goal.invariant_of-self
invariant_of-self g c =
    AreClashesOf-cleared g.M.MarkRow.marks g.M.MarkRow.spare g.T.Moment.rank c.self.inside.rows c.clear_in.new.rows c.self.inside.clashes.items c.self.invariant c.args.p.0
    c.forget.new.noted.items c.clear_in.ensures.others c.clear_in.ensures.marks c.forget.ensures.has

pub returns-clause-room : goal.returns-clause-room
returns-clause-room g c =
    shown g.M.MarkRow.marks g.M.MarkRow.spare (λ old new. room_in old ≤ room_in new) c.self.inside.rows c.clear_in.new.rows c.args.self.now (ap (λ (table : PointTable _). table.rows) c.self.view_is) c.args.p.0 c.clear_in.ensures.room

pub returns-clause-row : goal.returns-clause-row
returns-clause-row g c =
    shown g.M.MarkRow.marks g.M.MarkRow.spare (λ old new. is_some new ≡ is_some old) c.self.inside.rows c.clear_in.new.rows c.args.self.now (ap (λ (table : PointTable _). table.rows) c.self.view_is) c.args.p.0 (is_some-seen g.M.MarkRow.marks g.M.MarkRow.spare c.self.inside.rows c.clear_in.new.rows c.args.p.0 c.clear_in.ensures.there)

pub returns-clause-clash_room : goal.returns-clause-clash_room
returns-clause-clash_room c = grind (arith, common_steps)

pub returns-clause-marks : goal.returns-clause-marks
returns-clause-marks g c =
    shown g.M.MarkRow.marks g.M.MarkRow.spare (λ old new. marks_in new ≡ []) c.self.inside.rows c.clear_in.new.rows c.args.self.now (ap (λ (table : PointTable _). table.rows) c.self.view_is) c.args.p.0 c.clear_in.ensures.marks
