-- The rows of other numbers are kept as they were.
use Rattle.std.proofs.Common.{◌≡◌, ◌≤◌, true, is_some, ap, ◌∙◌}
use Rattle.std.specs.Prelude.{option_map}
use Rattle.std.proofs.lemmas.Result.{on_err_weaker, on_ok_weaker}
use Rattle.ec_lists.proofs.Options.{is_some-option_map}
use Rattle.ec_numbered.specs.ByNumber.{kept_at}
use Rattle.ec_points.specs.SeenRows.{IsGrown}
use Rattle.ec_points.specs.Table.{PointTable, room_in, row_of}
use Rattle.ec_points.proofs.SeenRowLemmas.{is_some-seen, shown}
use Rattle.ec_points.proofs.points.Points.reserve.Goals as goal

pub returns-clause-others : goal.returns-clause-others
returns-clause-others g c = λ n other.
    shown g.M.MarkRow.marks g.M.MarkRow.spare (λ old new. new ≡ old) c.self.inside.rows c.reserve_in.new.rows c.args.self.now (ap (λ (table : PointTable _). table.rows) c.self.view_is) n (ap (option_map (row_of g.M.MarkRow.marks g.M.MarkRow.spare)) (c.reserve_in.ensures.others n other))

pub returns-clause-grown : goal.returns-clause-grown
returns-clause-grown g c =
    shown g.M.MarkRow.marks g.M.MarkRow.spare IsGrown c.self.inside.rows c.reserve_in.new.rows c.args.self.now (ap (λ (table : PointTable _). table.rows) c.self.view_is) c.args.p.0 c.reserve_in.ensures.grown

pub returns-clause-room : goal.returns-clause-room
returns-clause-room g c =
    on_ok_weaker c.reserve_in.result (λ room. shown g.M.MarkRow.marks g.M.MarkRow.spare (λ old new. c.args.n ≤ room_in new) c.self.inside.rows c.reserve_in.new.rows c.args.self.now (ap (λ (table : PointTable _). table.rows) c.self.view_is) c.args.p.0 room)
    c.reserve_in.ensures.room

pub returns-clause-err : goal.returns-clause-err
returns-clause-err g c =
    on_err_weaker c.reserve_in.result (λ same. shown g.M.MarkRow.marks g.M.MarkRow.spare (λ old new. is_some new ≡ is_some old) c.self.inside.rows c.reserve_in.new.rows c.args.self.now (ap (λ (table : PointTable _). table.rows) c.self.view_is) c.args.p.0 (is_some-seen g.M.MarkRow.marks g.M.MarkRow.spare c.self.inside.rows c.reserve_in.new.rows c.args.p.0 same))
    c.reserve_in.ensures.err

pub returns-clause-row : goal.returns-clause-row
returns-clause-row g c =
    on_ok_weaker c.reserve_in.result (λ there. shown g.M.MarkRow.marks g.M.MarkRow.spare (λ old new. is_some new ≡ true) c.self.inside.rows c.reserve_in.new.rows c.args.self.now (ap (λ (table : PointTable _). table.rows) c.self.view_is) c.args.p.0 (is_some-option_map (row_of g.M.MarkRow.marks g.M.MarkRow.spare) (kept_at c.args.p.0 c.reserve_in.new.rows) ∙ there))
    c.reserve_in.ensures.row
