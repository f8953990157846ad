-- The row's spans are those of the `Vec`.
use Rattle.ec_rows.proofs.vec_spans.VecSpansSpanRow.covering.Goals as goal

pub returns-clause-covering : goal.returns-clause-covering
returns-clause-covering g c = rw (← c.self.view_is) (rw (← c.deref.ensures.value) c.place_covering.ensures.covering)

pub returns-clause-none : goal.returns-clause-none
returns-clause-none g c = rw (← c.self.view_is) (rw (← c.deref.ensures.value) c.place_covering.ensures.none)

pub returns-clause-row : goal.returns-clause-row
returns-clause-row g c = rw (← c.self.view_is) c.self.invariant
