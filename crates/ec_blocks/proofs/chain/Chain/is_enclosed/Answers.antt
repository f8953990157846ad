-- What follows from the calls and the tests before it.
use Rattle.std.proofs.Common.{arith}
use Rattle.std.proofs.lemmas.Grind.{common_steps}
use Rattle.ec_blocks.proofs.chain.Chain.is_enclosed.Goals as goal

pub returns-else-front-clause-behind : goal.returns-else-front-clause-behind
returns-else-front-clause-behind c = grind (arith, common_steps)

pub returns-else-front-clause-front : goal.returns-else-front-clause-front
returns-else-front-clause-front c = grind (arith, common_steps)

pub returns-then-front-clause-front : goal.returns-then-front-clause-front
returns-then-front-clause-front c = grind (arith, common_steps)

pub returns-then-front-clause-behind : goal.returns-then-front-clause-behind
returns-then-front-clause-behind c = grind (arith, common_steps)
