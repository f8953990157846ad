-- The table shows the rows.
use Rattle.std.proofs.Common.{◌≡◌, ◌+◌, ◌≤◌, is_some, subst, sym, ap, arith}
use Rattle.ec_points.specs.Changes.{changed, growth_of}
use Rattle.ec_points.specs.Table.{PointTable, marks_in, room_in}
use Rattle.ec_points.proofs.RowClashes.{AreClashesOf-changed, new_clashes-table}
use Rattle.ec_points.proofs.SeenRowLemmas.{is_some-seen, row_at-table, shown}
use Rattle.ec_points.proofs.points.Points.apply.Goals as goal

pub change_rows-requires : goal.change_rows-requires
change_rows-requires g c = record {
  room = λ n. subst (λ row. growth_of g.T.Moment.rank n c.args.change.now (marks_in row) ≤ room_in row)
      (sym (row_at-table g.M.MarkRow.marks g.M.MarkRow.spare c.self.inside.rows c.args.self.now (ap (λ (table : PointTable _). table.rows) c.self.view_is) n)) (c.requires.room n);
}

pub returns-clause-marks : goal.returns-clause-marks
returns-clause-marks g c = λ n.
    shown g.M.MarkRow.marks g.M.MarkRow.spare (λ old new. marks_in new ≡ changed g.T.Moment.rank n c.args.change.now (marks_in old)) c.self.inside.rows c.change_rows.new.rows
    c.args.self.now (ap (λ (table : PointTable _). table.rows) c.self.view_is) n (c.change_rows.ensures.marks n)

pub returns-clause-room : goal.returns-clause-room
returns-clause-room g c = λ n.
    shown g.M.MarkRow.marks g.M.MarkRow.spare (λ old new. room_in old ≤ room_in new + growth_of g.T.Moment.rank n c.args.change.now (marks_in old)) c.self.inside.rows
    c.change_rows.new.rows c.args.self.now (ap (λ (table : PointTable _). table.rows) c.self.view_is) n (c.change_rows.ensures.room n)

pub returns-clause-rows : goal.returns-clause-rows
returns-clause-rows g c = λ n.
    shown g.M.MarkRow.marks g.M.MarkRow.spare (λ old new. is_some new ≡ is_some old) c.self.inside.rows c.change_rows.new.rows c.args.self.now (ap (λ (table : PointTable _). table.rows) c.self.view_is) n
    (is_some-seen g.M.MarkRow.marks g.M.MarkRow.spare c.self.inside.rows c.change_rows.new.rows n (c.change_rows.ensures.there n))

pub note_changes-requires : goal.note_changes-requires
note_changes-requires g c =
    let same =
    new_clashes-table g.M.MarkRow.marks g.M.MarkRow.spare g.T.Moment.rank c.self.inside.rows c.self.inside.clashes.items c.args.self.now
    (ap (λ (table : PointTable _). table.rows) c.self.view_is) c.self.invariant c.args.change.now in
    let room = ap (λ (table : PointTable _). table.clash_room) c.self.view_is in
    let enough = c.requires.clash_room in
    omega (arith, same, room, enough)

pub returns-clause-clash_room : goal.returns-clause-clash_room
returns-clause-clash_room g c =
    let same =
    new_clashes-table g.M.MarkRow.marks g.M.MarkRow.spare g.T.Moment.rank c.self.inside.rows c.self.inside.clashes.items c.args.self.now
    (ap (λ (table : PointTable _). table.rows) c.self.view_is) c.self.invariant c.args.change.now in
    let room = ap (λ (table : PointTable _). table.clash_room) c.self.view_is in
    let falls = c.note_changes.ensures.spare in
    omega (arith, same, room, falls)

pub invariant_of-self : goal.invariant_of-self
invariant_of-self g c =
    AreClashesOf-changed g.M.MarkRow.marks g.M.MarkRow.spare g.T.Moment.rank c.self.inside.rows c.change_rows.new.rows c.self.inside.clashes.items c.self.invariant
    c.args.change.now c.note_changes.new.noted.items c.note_changes.ensures.apart c.change_rows.ensures.marks c.note_changes.ensures.has

pub returns-clause-others : goal.returns-clause-others
returns-clause-others g c =
    λ n none. shown g.M.MarkRow.marks g.M.MarkRow.spare (λ old new. new ≡ old) c.self.inside.rows c.change_rows.new.rows c.args.self.now (ap (λ (table : PointTable _). table.rows) c.self.view_is) n (c.change_rows.ensures.others n none)
