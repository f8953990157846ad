-- What follows from the calls and the tests before it.
use Rattle.std.proofs.Common.{arith}
use Rattle.std.proofs.lemmas.Grind.{common_steps}
use Rattle.ec_theory.proofs.pattern.read_argument.Goals as goal

pub returns-in-Some-argument-clause-takes : goal.returns-in-Some-argument-clause-takes
returns-in-Some-argument-clause-takes c = grind (arith, common_steps)
