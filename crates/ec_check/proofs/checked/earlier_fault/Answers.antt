-- Of two faults that in the clause with the smaller number is the earlier one.
use Rattle.std.proofs.Common.{rules}
use Rattle.ec_check.specs.Faults.{earlier_fault}
use Rattle.ec_check.proofs.checked.earlier_fault.Goals as goal

pub returns-then-clause : goal.returns-then-clause
unfolding earlier_fault
returns-then-clause c = search rules

pub returns-else-clause : goal.returns-else-clause
unfolding earlier_fault
returns-else-clause c = search rules
