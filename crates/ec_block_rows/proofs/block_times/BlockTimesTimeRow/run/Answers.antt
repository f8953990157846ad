-- What follows from the calls and the tests before it.
use Rattle.std.proofs.Common.{arith}
use Rattle.std.proofs.lemmas.Grind.{common_steps}
use Rattle.ec_block_rows.proofs.block_times.BlockTimesTimeRow.run.Goals as goal

pub returns-clause-run : goal.returns-clause-run
returns-clause-run c = grind (arith, common_steps)
