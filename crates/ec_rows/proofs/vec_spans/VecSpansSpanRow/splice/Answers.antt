-- The row's spans are those of the `Vec`.
use Rattle.ec_rows.proofs.vec_spans.VecSpansSpanRow.splice.Goals as goal

pub invariant_of-self : goal.invariant_of-self
invariant_of-self g c = rw c.splice_within.ensures.items (rw (← c.self.view_is) at c.requires.spans)

pub returns-clause-spans : goal.returns-clause-spans
returns-clause-spans g c = rw (← c.self.view_is) c.splice_within.ensures.items
