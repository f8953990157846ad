-- What follows from the calls and the tests before it.
use Rattle.std.proofs.Common.{arith}
use Rattle.std.proofs.lemmas.Grind.{common_steps}
use Rattle.ec_intervals.proofs.rows.make_row.Goals as goal

pub returns-clause-spans : goal.returns-clause-spans
returns-clause-spans c = grind (arith, common_steps)
