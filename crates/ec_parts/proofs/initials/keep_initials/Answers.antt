-- What follows from the calls and the tests before it.
use Rattle.std.proofs.Common.{arith}
use Rattle.std.proofs.lemmas.Grind.{common_steps}
use Rattle.ec_parts.proofs.initials.keep_initials.Goals as goal

pub returns : goal.returns
returns c = grind (arith, common_steps)

pub loop-initial-preserved : goal.loop-initial-preserved
loop-initial-preserved c = grind (arith, common_steps)
