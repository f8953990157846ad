-- The table shows rows of no marks, and no clashes.
use Rattle.std.proofs.Common.{is_some, ap, ◌∙◌, arith}
use Rattle.std.proofs.lemmas.Grind.{common_steps}
use Rattle.ec_lists.proofs.Options.{is_some-option_map}
use Rattle.ec_numbered.specs.ByNumber.{kept_at}
use Rattle.ec_points.specs.Table.{marks_in, row_of}
use Rattle.ec_points.proofs.SeenRowLemmas.{row_at-seen}
use Rattle.ec_points.proofs.points.Points.with_initials.Goals as goal

pub returns-clause-marks : goal.returns-clause-marks
returns-clause-marks g c = λ n.
    ap marks_in (row_at-seen g.M.MarkRow.marks g.M.MarkRow.spare c.in_ok-empty_rows.field-0 n) ∙ c.in_ok-empty_rows.ensures.marks n

pub invariant_of-result : goal.invariant_of-result
invariant_of-result c = grind (arith, common_steps)

pub returns-clause-rows : goal.returns-clause-rows
returns-clause-rows g c = λ n.
    ap is_some (row_at-seen g.M.MarkRow.marks g.M.MarkRow.spare c.in_ok-empty_rows.field-0 n)
    ∙ is_some-option_map (row_of g.M.MarkRow.marks g.M.MarkRow.spare) (kept_at n c.in_ok-empty_rows.field-0) ∙ c.in_ok-empty_rows.ensures.rows n

pub returns-clause-initials : goal.returns-clause-initials
returns-clause-initials c = grind (arith, common_steps)
