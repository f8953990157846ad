-- What follows from the calls and the tests before it.
use Rattle.std.proofs.Common.{arith}
use Rattle.std.proofs.lemmas.Grind.{common_steps}
use Rattle.ec_terms.proofs.name.Name.from_bytes.Goals as goal

pub returns-in_err-text-clause-same : goal.returns-in_err-text-clause-same
returns-in_err-text-clause-same c = grind (arith, common_steps)

pub returns-in_err-text-2-clause-same : goal.returns-in_err-text-2-clause-same
returns-in_err-text-2-clause-same c = grind (arith, common_steps)
