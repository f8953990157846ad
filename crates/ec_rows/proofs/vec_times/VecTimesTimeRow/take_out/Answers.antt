-- The row's entries are those of the `Vec`.
use Rattle.std.proofs.Common.{arith}
use Rattle.std.proofs.lemmas.Grind.{common_steps}
use Rattle.ec_rows.proofs.vec_times.VecTimesTimeRow.take_out.Goals as goal

pub returns-clause-slot : goal.returns-clause-slot
returns-clause-slot g c = rw (← c.self.view_is) c.take_out_entry.ensures.slot

pub returns-clause-times : goal.returns-clause-times
returns-clause-times g c = rw (← c.self.view_is) c.take_out_entry.ensures.times

pub returns-clause-spare : goal.returns-clause-spare
returns-clause-spare g c = grind (arith, common_steps)
