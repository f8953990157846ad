-- The rows of other numbers are kept as they were, and none clashes that did not.
use Rattle.std.proofs.Common.{◌≡◌, ◌+◌, ◌≤◌, true, [], ◌∷◌, ◌++◌, is_some, ap, sym, subst}
use Rattle.std.specs.Prelude.{option_map}
use Rattle.std.proofs.lemmas.Result.{on_err_weaker, on_ok_weaker}
use Rattle.ec_rows.specs.Marks.{are_before}
use Rattle.ec_points.specs.Table.{PointTable, marks_in, room_in, row_of}
use Rattle.ec_points.specs.SeenRows.{seen_at}
use Rattle.ec_points.proofs.RowClashes.{AreClashesOf-each, clashes_in-pushed}
use Rattle.ec_points.proofs.SeenRowLemmas.{is_some-seen, row_at-table, shown}
use Rattle.ec_points.proofs.points.Points.push.Goals as goal

pub returns-clause-others : goal.returns-clause-others
returns-clause-others g c = λ n other.
    shown g.M.MarkRow.marks g.M.MarkRow.spare (λ old new. new ≡ old) c.self.inside.rows c.push_in.new.rows c.args.self.now (ap (λ (table : PointTable _). table.rows) c.self.view_is) n (ap (option_map (row_of g.M.MarkRow.marks g.M.MarkRow.spare)) (c.push_in.ensures.others n other))

pub invariant_of-self : goal.invariant_of-self
invariant_of-self g c =
    AreClashesOf-each g.M.MarkRow.marks g.M.MarkRow.spare g.T.Moment.rank c.self.inside.rows c.push_in.new.rows c.self.inside.clashes.items c.self.invariant c.args.p.0
    c.push_in.ensures.others
    (λ t. clashes_in-pushed g.T.Moment.rank t c.push_in.result (marks_in (seen_at g.M.MarkRow.marks g.M.MarkRow.spare c.args.p.0 c.self.inside.rows))
    (marks_in (seen_at g.M.MarkRow.marks g.M.MarkRow.spare c.args.p.0 c.push_in.new.rows)) c.args.mark c.push_in.ensures.ok c.push_in.ensures.err c.requires.no_clash)

pub returns-clause-room : goal.returns-clause-room
returns-clause-room g c =
    shown g.M.MarkRow.marks g.M.MarkRow.spare (λ old new. room_in old ≤ room_in new + 1) c.self.inside.rows c.push_in.new.rows c.args.self.now (ap (λ (table : PointTable _). table.rows) c.self.view_is) c.args.p.0 c.push_in.ensures.room

pub returns-clause-err : goal.returns-clause-err
returns-clause-err g c =
    on_err_weaker c.push_in.result (λ same. shown g.M.MarkRow.marks g.M.MarkRow.spare (λ old new. marks_in new ≡ marks_in old) c.self.inside.rows c.push_in.new.rows c.args.self.now (ap (λ (table : PointTable _). table.rows) c.self.view_is) c.args.p.0 same)
    c.push_in.ensures.err

pub push_in-requires-clause-last : goal.push_in-requires-clause-last
push_in-requires-clause-last g c =
    subst (λ row. are_before g.T.Moment.rank (marks_in row) c.args.mark ≡ true)
    (sym (row_at-table g.M.MarkRow.marks g.M.MarkRow.spare c.self.inside.rows c.args.self.now (ap (λ (table : PointTable _). table.rows) c.self.view_is) c.args.p.0)) c.requires.last

pub returns-clause-ok : goal.returns-clause-ok
returns-clause-ok g c =
    on_ok_weaker c.push_in.result (λ ok. shown g.M.MarkRow.marks g.M.MarkRow.spare (λ old new. marks_in new ≡ marks_in old ++ c.args.mark ∷ []) c.self.inside.rows c.push_in.new.rows c.args.self.now (ap (λ (table : PointTable _). table.rows) c.self.view_is) c.args.p.0 ok)
    c.push_in.ensures.ok

pub returns-clause-row : goal.returns-clause-row
returns-clause-row g c =
    on_err_weaker c.push_in.result (λ same. shown g.M.MarkRow.marks g.M.MarkRow.spare (λ old new. is_some new ≡ is_some old) c.self.inside.rows c.push_in.new.rows c.args.self.now (ap (λ (table : PointTable _). table.rows) c.self.view_is) c.args.p.0 (is_some-seen g.M.MarkRow.marks g.M.MarkRow.spare c.self.inside.rows c.push_in.new.rows c.args.p.0 same))
    c.push_in.ensures.there
