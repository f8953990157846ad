-- What follows from the calls and the tests before it.
use Rattle.std.proofs.Common.{arith}
use Rattle.std.proofs.lemmas.Grind.{common_steps}
use Rattle.ec_entries.proofs.entries.Entries.dependents_after.Goals as goal

pub returns-in-Some-clause-dependents : goal.returns-in-Some-clause-dependents
returns-in-Some-clause-dependents c = grind (arith, common_steps)

pub returns-in-None-clause-dependents : goal.returns-in-None-clause-dependents
returns-in-None-clause-dependents c = grind (arith, common_steps)

pub returns-in-Some-clause-run : goal.returns-in-Some-clause-run
returns-in-Some-clause-run c = grind (arith, common_steps)

pub returns-in-None-clause-none : goal.returns-in-None-clause-none
returns-in-None-clause-none c = grind (arith, common_steps)
