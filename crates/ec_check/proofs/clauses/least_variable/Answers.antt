-- The first that is found, by the lemmas of a first one.
use Rattle.std.proofs.Common.{arith}
use Rattle.ec_check.specs.Faults.{least_variable}
use Rattle.ec_check.proofs.FirstFound.{first_here, first_on, first_end}
use Rattle.ec_check.proofs.clauses.least_variable.Goals as goal

pub loop-variable-preserved : goal.loop-variable-preserved
unfolding least_variable
loop-variable-preserved c = grind (arith, first_here, first_on, first_end)

pub returns-then-stands_in : goal.returns-then-stands_in
unfolding least_variable
returns-then-stands_in c = grind (arith, first_here, first_on, first_end)
