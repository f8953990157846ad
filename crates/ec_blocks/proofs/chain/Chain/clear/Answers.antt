-- What follows from the calls and the tests before it.
use Rattle.std.proofs.Common.{arith}
use Rattle.std.proofs.lemmas.Grind.{common_steps}
use Rattle.ec_blocks.proofs.chain.Chain.clear.Goals as goal

pub returns-clause-blocks : goal.returns-clause-blocks
returns-clause-blocks c = grind (arith, common_steps)

pub returns-clause-spares : goal.returns-clause-spares
returns-clause-spares c = grind (arith, common_steps)

pub invariant_of-self : goal.invariant_of-self
invariant_of-self c = grind (arith, common_steps)
