-- What follows from the calls and the tests before it.
use Rattle.std.proofs.Common.{arith}
use Rattle.std.proofs.lemmas.Grind.{common_steps}
use Rattle.ec_blocks.proofs.chain.Chain.is_in.Goals as goal

pub returns-then-start-i-clause-to : goal.returns-then-start-i-clause-to
returns-then-start-i-clause-to c = grind (arith, common_steps)

pub returns-then-count-k-clause-within : goal.returns-then-count-k-clause-within
returns-then-count-k-clause-within c = grind (arith, common_steps)

pub returns-then-count-k-clause-to : goal.returns-then-count-k-clause-to
returns-then-count-k-clause-to c = grind (arith, common_steps)

pub returns-then-start-i-clause-within : goal.returns-then-start-i-clause-within
returns-then-start-i-clause-within c = grind (arith, common_steps)

pub returns-else-start-i-clause-to : goal.returns-else-start-i-clause-to
returns-else-start-i-clause-to c = grind (arith, common_steps)

pub returns-else-start-i-clause-within : goal.returns-else-start-i-clause-within
returns-else-start-i-clause-within c = grind (arith, common_steps)
