-- What follows from the calls and the tests before it.
use Rattle.std.proofs.Common.{arith}
use Rattle.std.proofs.lemmas.Grind.{common_steps}
use Rattle.ec_entries.proofs.reserving.reserve.Goals as goal

pub returns-in_err-place-clause-wider : goal.returns-in_err-place-clause-wider
returns-in_err-place-clause-wider c = grind (arith, common_steps)

pub returns-clause-ok : goal.returns-clause-ok
returns-clause-ok c = grind (arith, common_steps)

pub returns-in-Some-clause-ok : goal.returns-in-Some-clause-ok
returns-in-Some-clause-ok c = grind (arith, common_steps)

pub returns-in-Some-clause-wider : goal.returns-in-Some-clause-wider
returns-in-Some-clause-wider c = grind (arith, common_steps)
