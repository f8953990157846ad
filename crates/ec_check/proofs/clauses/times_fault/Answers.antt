-- The first fault that is found, by the lemmas of a first one.
use Rattle.std.proofs.Common.{arith}
use Rattle.ec_check.proofs.FirstFound.{fault_here, fault_on, fault_end}
use Rattle.ec_check.proofs.clauses.times_fault.Goals as goal

pub loop-place-preserved : goal.loop-place-preserved
loop-place-preserved c = grind (arith, fault_here, fault_on, fault_end)

pub returns-in-Some : goal.returns-in-Some
returns-in-Some c = grind (arith, fault_here, fault_on, fault_end)
