-- No marks are a row of marks.
use Rattle.std.proofs.Common.{[], refl, sym, subst, arith}
use Rattle.std.proofs.lemmas.Grind.{common_steps}
use Rattle.ec_rows.specs.Marks.{IsMarkRow, mark_before}
use Rattle.ec_points.specs.Table.{marks_in}
use Rattle.ec_points.proofs.Lists.{is_ascending-nil}
use Rattle.ec_points.proofs.points.Points.read.Goals as goal

pub returns-in-None-clause-row : goal.returns-in-None-clause-row
returns-in-None-clause-row g c =
    subst (λ row. IsMarkRow g.T.Moment.rank (marks_in row)) (sym c.in-None.ensures.none)
    (record { ascending = is_ascending-nil (mark_before g.T.Moment.rank) [] refl; counted = refl })

pub returns-in-None-clause-mark : goal.returns-in-None-clause-mark
returns-in-None-clause-mark c = grind (arith, common_steps)

pub returns-in-Some-clause-mark : goal.returns-in-Some-clause-mark
returns-in-Some-clause-mark c = grind (arith, common_steps)

pub returns-in-Some-clause-next : goal.returns-in-Some-clause-next
returns-in-Some-clause-next c = grind (arith, common_steps)

pub returns-in-None-clause-next : goal.returns-in-None-clause-next
returns-in-None-clause-next c = grind (arith, common_steps)
