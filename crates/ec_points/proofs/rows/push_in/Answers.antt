-- The mark stands behind those of the property's row.
use Rattle.std.proofs.Common.{[], ◌∷◌, ◌++◌, ap, ◌∙◌, arith}
use Rattle.std.specs.Prelude.{option_map}
use Rattle.std.proofs.lemmas.Grind.{common_steps}
use Rattle.ec_points.specs.Table.{marks_in, row_of}
use Rattle.ec_points.proofs.rows.push_in.Goals as goal

pub returns-clause-ok : goal.returns-clause-ok
returns-clause-ok g c =
    ap (λ row. marks_in (option_map (row_of g.M.MarkRow.marks g.M.MarkRow.spare) row)) c.set.ensures.row
    ∙ c.in_ok-push.ensures.ok
    ∙ ap (λ marks. marks ++ c.args.mark ∷ []) c.in_ok-row.ensures
    ∙ ap (λ row. marks_in (option_map (row_of g.M.MarkRow.marks g.M.MarkRow.spare) row) ++ c.args.mark ∷ []) c.in_default.ensures.kept

pub returns-in-Some-clause-err : goal.returns-in-Some-clause-err
returns-in-Some-clause-err g c = grind (arith, common_steps)

pub returns-in-Some-clause-room : goal.returns-in-Some-clause-room
returns-in-Some-clause-room g c = grind (arith, common_steps)

pub returns-in-Some-clause-ok : goal.returns-in-Some-clause-ok
returns-in-Some-clause-ok g c = grind (arith, common_steps)

pub returns-in-Some-clause-there : goal.returns-in-Some-clause-there
returns-in-Some-clause-there g c = grind (arith, common_steps)

pub returns-in-Some-clause-others : goal.returns-in-Some-clause-others
returns-in-Some-clause-others c = grind (arith, common_steps)

pub returns-clause-room : goal.returns-clause-room
returns-clause-room c = grind (arith, common_steps)

pub returns-clause-others : goal.returns-clause-others
returns-clause-others c = grind (arith, common_steps)
