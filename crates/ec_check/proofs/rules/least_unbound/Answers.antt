-- The first that is found, by the lemmas of a first one.
use Rattle.std.proofs.Common.{arith}
use Rattle.ec_check.specs.Faults.{least_unbound}
use Rattle.ec_check.proofs.FirstFound.{first_here, first_on, first_end}
use Rattle.ec_check.proofs.rules.least_unbound.Goals as goal

pub loop-variable-preserved : goal.loop-variable-preserved
unfolding least_unbound
loop-variable-preserved c = grind (arith, first_here, first_on, first_end)

pub returns-then-is_unbound : goal.returns-then-is_unbound
unfolding least_unbound
returns-then-is_unbound c = grind (arith, first_here, first_on, first_end)
