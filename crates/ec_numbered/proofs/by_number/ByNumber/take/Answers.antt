-- What follows from the calls and the tests before it.
use Rattle.std.proofs.Common.{arith}
use Rattle.std.proofs.lemmas.Grind.{common_steps}
use Rattle.ec_numbered.proofs.by_number.ByNumber.take.Goals as goal

pub returns-else-p-len-clause-row : goal.returns-else-p-len-clause-row
returns-else-p-len-clause-row c = grind (arith, common_steps)

pub returns-else-p-len-clause-gone : goal.returns-else-p-len-clause-gone
returns-else-p-len-clause-gone c = grind (arith, common_steps)

pub returns-then-p-len-clause-gone : goal.returns-then-p-len-clause-gone
returns-then-p-len-clause-gone c = grind (arith, common_steps)

pub returns-then-p-len-clause-row : goal.returns-then-p-len-clause-row
returns-then-p-len-clause-row c = grind (arith, common_steps)

pub returns-then-p-len-clause-others : goal.returns-then-p-len-clause-others
returns-then-p-len-clause-others c = grind (arith, common_steps)

pub returns-then-p-len-clause-places : goal.returns-then-p-len-clause-places
returns-then-p-len-clause-places c = grind (arith, common_steps)
