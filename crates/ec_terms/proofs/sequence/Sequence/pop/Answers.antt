-- What follows from the calls and the tests before it.
use Rattle.std.proofs.Common.{arith}
use Rattle.std.proofs.lemmas.Grind.{common_steps}
use Rattle.ec_terms.proofs.sequence.Sequence.pop.Goals as goal

pub returns-clause-last : goal.returns-clause-last
returns-clause-last c = grind (arith, common_steps)
