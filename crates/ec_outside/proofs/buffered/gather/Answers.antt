-- What follows from the calls and the tests before it.
use Rattle.std.proofs.Common.{arith}
use Rattle.std.proofs.lemmas.Grind.{common_steps}
use Rattle.ec_outside.proofs.buffered.gather.Goals as goal

pub returns-clause-added : goal.returns-clause-added
returns-clause-added c = grind (arith, common_steps)

pub returns-clause-full : goal.returns-clause-full
returns-clause-full c = grind (arith, common_steps)

pub returns-clause-grown : goal.returns-clause-grown
returns-clause-grown c = grind (arith, common_steps)
