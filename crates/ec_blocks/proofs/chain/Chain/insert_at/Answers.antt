-- What follows from the calls and the tests before it.
use Rattle.std.proofs.Common.{arith}
use Rattle.std.proofs.lemmas.Grind.{common_steps}
use Rattle.ec_blocks.proofs.chain.Chain.insert_at.Goals as goal

pub returns-then-i-total-clause-members : goal.returns-then-i-total-clause-members
returns-then-i-total-clause-members c = grind (arith, common_steps)
