-- The marks after the time are those from the cut on.
use Rattle.std.proofs.Common.{arith, sym, ◌∙◌}
use Rattle.std.proofs.lemmas.List.{drop_all}
use Rattle.std.proofs.lemmas.Grind.{common_steps}
use Rattle.ec_rows.proofs.vec_marks.VecMarksMarkRow.next_after.Goals as goal

pub returns-then-place-len-clause-next : goal.returns-then-place-len-clause-next
returns-then-place-len-clause-next g c = rw (← c.self.view_is) (rw (← c.deref.ensures.value) (sym c.count_up_to-place.ensures.rest))

pub returns-then-place-len-clause-row : goal.returns-then-place-len-clause-row
returns-then-place-len-clause-row g c = rw (← c.self.view_is) c.self.invariant

pub returns-else-place-len-clause-none : goal.returns-else-place-len-clause-none
returns-else-place-len-clause-none g c =
    rw (← c.self.view_is)
    (rw (← c.deref.ensures.value) (sym c.count_up_to-place.ensures.rest ∙ drop_all c.count_up_to-place.result c.deref.result.now (omega arith)))

pub returns-else-place-len-clause-row : goal.returns-else-place-len-clause-row
returns-else-place-len-clause-row g c = rw (← c.self.view_is) c.self.invariant

pub returns-then-place-len-clause-within : goal.returns-then-place-len-clause-within
returns-then-place-len-clause-within g c = grind (arith, common_steps)
