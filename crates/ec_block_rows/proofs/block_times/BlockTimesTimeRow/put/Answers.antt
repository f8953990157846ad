-- What follows from the calls and the tests before it.
use Rattle.std.proofs.Common.{arith}
use Rattle.std.proofs.lemmas.Grind.{common_steps}
use Rattle.ec_block_rows.proofs.block_times.BlockTimesTimeRow.put.Goals as goal

pub returns-clause-times : goal.returns-clause-times
returns-clause-times c = grind (arith, common_steps)
