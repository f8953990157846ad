-- The variables of an exclusive declaration are few where those of its parts are.
use Rattle.std.proofs.Common.{arith}
use Rattle.ec_check.proofs.FewVariables.{few_in_exclusive}
use Rattle.ec_check.proofs.clauses.has_few_variables.Goals as goal

pub returns : goal.returns
returns c = grind (arith, few_in_exclusive)
