-- What lies behind the gap is moved first, and then the gap is written over.
use Rattle.std.proofs.Common.{arith}
use Rattle.std.proofs.lemmas.Grind.{common_steps}
use Rattle.ec_rows.proofs.edits.splice_within.Goals as goal

pub returns-clause-items : goal.returns-clause-items
returns-clause-items g c = grind (arith, common_steps)

pub returns-then-with-to-clause-items : goal.returns-then-with-to-clause-items
returns-then-with-to-clause-items g c = grind (arith, common_steps)

pub slice_bounds-extend_within-end : goal.slice_bounds-extend_within-end
slice_bounds-extend_within-end g c = grind (arith, common_steps)
