-- What follows from the calls and the tests before it.
use Rattle.std.proofs.Common.{arith}
use Rattle.std.proofs.lemmas.Grind.{common_steps}
use Rattle.ec_blocks.proofs.tiers.turn_last.Goals as goal

pub returns : goal.returns
returns c = grind (arith, common_steps)
