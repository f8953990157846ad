-- The row of the property gets room, and no other.
use Rattle.std.proofs.Common.{ap, arith}
use Rattle.std.specs.Prelude.{option_map}
use Rattle.std.proofs.lemmas.Grind.{common_steps}
use Rattle.ec_points.specs.SeenRows.{seen_at}
use Rattle.ec_points.specs.Table.{row_of}
use Rattle.ec_points.proofs.SeenRowLemmas.{IsGrown-same}
use Rattle.ec_points.proofs.rows.reserve_in.Goals as goal

pub returns-in-Some-clause-grown : goal.returns-in-Some-clause-grown
returns-in-Some-clause-grown g c = grind (arith, common_steps)

pub returns-in-Some-clause-row : goal.returns-in-Some-clause-row
returns-in-Some-clause-row g c = grind (arith, common_steps)

pub returns-in-Some-clause-room : goal.returns-in-Some-clause-room
returns-in-Some-clause-room g c = grind (arith, common_steps)

pub returns-in-Some-clause-err : goal.returns-in-Some-clause-err
returns-in-Some-clause-err g c = grind (arith, common_steps)

pub returns-clause-row : goal.returns-clause-row
returns-clause-row c = grind (arith, common_steps)

pub returns-in-Some-clause-others : goal.returns-in-Some-clause-others
returns-in-Some-clause-others c = grind (arith, common_steps)

pub returns-clause-others : goal.returns-clause-others
returns-clause-others c = grind (arith, common_steps)

pub returns-clause-grown : goal.returns-clause-grown
returns-clause-grown c = grind (arith, common_steps)

pub returns-in_err-place-clause-grown : goal.returns-in_err-place-clause-grown
returns-in_err-place-clause-grown g c =
    IsGrown-same (seen_at g.M.MarkRow.marks g.M.MarkRow.spare c.args.p.0 c.args.rows.now) (seen_at g.M.MarkRow.marks g.M.MarkRow.spare c.args.p.0 c.place.new.self) (ap (option_map (row_of g.M.MarkRow.marks g.M.MarkRow.spare)) (c.place.ensures.same c.args.p.0))

pub returns-clause-room : goal.returns-clause-room
returns-clause-room c = grind (arith, common_steps)

pub returns-in_err-row-clause-grown : goal.returns-in_err-row-clause-grown
returns-in_err-row-clause-grown g c =
    IsGrown-same (seen_at g.M.MarkRow.marks g.M.MarkRow.spare c.args.p.0 c.args.rows.now) (seen_at g.M.MarkRow.marks g.M.MarkRow.spare c.args.p.0 c.place.new.self) (ap (option_map (row_of g.M.MarkRow.marks g.M.MarkRow.spare)) (c.place.ensures.same c.args.p.0))

pub returns-in_err-reserve-clause-grown : goal.returns-in_err-reserve-clause-grown
returns-in_err-reserve-clause-grown g c =
    IsGrown-same (seen_at g.M.MarkRow.marks g.M.MarkRow.spare c.args.p.0 c.args.rows.now) (seen_at g.M.MarkRow.marks g.M.MarkRow.spare c.args.p.0 c.place.new.self) (ap (option_map (row_of g.M.MarkRow.marks g.M.MarkRow.spare)) (c.place.ensures.same c.args.p.0))
