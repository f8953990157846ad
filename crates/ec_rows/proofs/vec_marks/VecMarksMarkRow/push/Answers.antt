-- A row with one mark more behind all others is in order.
use Rattle.std.proofs.Common.{sym, subst, arith}
use Rattle.std.specs.Prelude.{IsTrue}
use Rattle.std.proofs.lemmas.Grind.{common_steps}
use Rattle.ec_rows.specs.declared.mark.Mark.{Mark}
use Rattle.ec_lists.specs.Reserved.{Reserved}
use Rattle.ec_rows.specs.Marks.{are_before}
use Rattle.ec_rows.proofs.MarkLemmas.{IsMarkRow-push}
use Rattle.ec_rows.proofs.vec_marks.VecMarksMarkRow.push.Goals as goal

pub invariant_of-self-2 : goal.invariant_of-self-2
invariant_of-self-2 g c =
    IsMarkRow-push g.T.Moment.rank c.args.mark c.self.inside.marks.items _ c.requires.counted
    (subst (λ (row : Reserved (Mark _)). IsTrue (are_before g.T.Moment.rank row.items c.args.mark)) (sym c.self.view_is) c.requires.last) c.self.invariant c.in_ok-push.ensures.items

pub returns-clause-row : goal.returns-clause-row
returns-clause-row g c = invariant_of-self-2 g c

pub returns-clause-ok : goal.returns-clause-ok
returns-clause-ok g c = grind (arith, common_steps)

pub returns-clause-spare : goal.returns-clause-spare
returns-clause-spare g c = grind (arith, common_steps)
