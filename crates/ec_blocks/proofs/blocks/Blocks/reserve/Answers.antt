-- What follows from the calls and the tests before it.
use Rattle.std.proofs.Common.{arith}
use Rattle.std.proofs.lemmas.Grind.{common_steps}
use Rattle.ec_blocks.proofs.blocks.Blocks.reserve.Goals as goal

pub returns-clause-spare : goal.returns-clause-spare
returns-clause-spare c = grind (arith, common_steps)

pub returns-clause-same : goal.returns-clause-same
returns-clause-same c = grind (arith, common_steps)

pub invariant_of-self-in_err-reserve-in-Few : goal.invariant_of-self-in_err-reserve-in-Few
invariant_of-self-in_err-reserve-in-Few c = grind (arith, common_steps)
