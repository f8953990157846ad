-- What follows from the calls and the tests before it.
use Rattle.std.proofs.Common.{arith}
use Rattle.std.proofs.lemmas.Grind.{common_steps}
use Rattle.ec_blocks.proofs.blocks.chain_for.Goals as goal

pub returns-clause-members : goal.returns-clause-members
returns-clause-members c = grind (arith, common_steps)

pub begin_with-requires-clause-none : goal.begin_with-requires-clause-none
begin_with-requires-clause-none c = grind (arith, common_steps)
