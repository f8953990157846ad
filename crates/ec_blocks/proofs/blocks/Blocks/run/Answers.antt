-- What follows from the calls and the tests before it.
use Rattle.std.proofs.Common.{arith}
use Rattle.std.proofs.lemmas.Grind.{common_steps}
use Rattle.ec_blocks.proofs.blocks.Blocks.run.Goals as goal

pub returns-in-Few-clause-run : goal.returns-in-Few-clause-run
returns-in-Few-clause-run c = grind (arith, common_steps)

pub returns-in-Few-clause-some : goal.returns-in-Few-clause-some
returns-in-Few-clause-some c = grind (arith, common_steps)

pub returns-in-Many-clause-run : goal.returns-in-Many-clause-run
returns-in-Many-clause-run c = grind (arith, common_steps)
