-- What is taken from the front is the whole run, however long it is.
use Rattle.std.proofs.Common.{arith}
use Rattle.ec_terms.proofs.Runs.{runs}
use Rattle.ec_terms.proofs.reading.read_name.Goals as goal

pub is_name_run-requires : goal.is_name_run-requires
is_name_run-requires c = grind (arith, runs)

pub returns-then-is_name_run-clause-exact : goal.returns-then-is_name_run-clause-exact
returns-then-is_name_run-clause-exact c = grind (arith, runs)

pub returns-else-is_name_run-clause-exact : goal.returns-else-is_name_run-clause-exact
returns-else-is_name_run-clause-exact c = grind (arith, runs)
