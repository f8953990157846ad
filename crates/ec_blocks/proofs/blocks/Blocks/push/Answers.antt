-- What follows from the calls and the tests before it.
use Rattle.std.proofs.Common.{arith}
use Rattle.std.proofs.lemmas.Grind.{common_steps}
use Rattle.ec_blocks.proofs.blocks.Blocks.push.Goals as goal

pub returns-clause-spare : goal.returns-clause-spare
returns-clause-spare c = grind (arith, common_steps)

pub invariant_of-self-in_err-push-in-Few : goal.invariant_of-self-in_err-push-in-Few
invariant_of-self-in_err-push-in-Few c = grind (arith, common_steps)
