-- What follows from the calls and the tests before it.
use Rattle.std.proofs.Common.{arith}
use Rattle.std.proofs.lemmas.Grind.{common_steps}
use Rattle.ec_entries.proofs.entries.Entries.dependent.Goals as goal

pub returns-in_err-get-clause-dependents : goal.returns-in_err-get-clause-dependents
returns-in_err-get-clause-dependents c = grind (arith, common_steps)

pub returns-clause-dependents : goal.returns-clause-dependents
returns-clause-dependents c = grind (arith, common_steps)
