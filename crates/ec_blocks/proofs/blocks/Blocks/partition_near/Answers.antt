-- What follows from the calls and the tests before it.
use Rattle.std.proofs.Common.{arith}
use Rattle.std.proofs.lemmas.Grind.{common_steps}
use Rattle.ec_blocks.proofs.blocks.Blocks.partition_near.Goals as goal

pub returns-in-Few-clause-bound : goal.returns-in-Few-clause-bound
returns-in-Few-clause-bound c = grind (arith, common_steps)

pub returns-in-Many-clause-bound : goal.returns-in-Many-clause-bound
returns-in-Many-clause-bound c = grind (arith, common_steps)
