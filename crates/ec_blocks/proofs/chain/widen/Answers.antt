-- What follows from the calls and the tests before it.
use Rattle.std.proofs.Common.{arith}
use Rattle.std.proofs.lemmas.Grind.{common_steps}
use Rattle.ec_blocks.proofs.chain.widen.Goals as goal

pub returns-clause-blocks_fit : goal.returns-clause-blocks_fit
returns-clause-blocks_fit c = grind (arith, common_steps)

pub returns-clause-starts_fit : goal.returns-clause-starts_fit
returns-clause-starts_fit c = grind (arith, common_steps)
