-- What follows from the calls and the tests before it.
use Rattle.std.proofs.Common.{arith}
use Rattle.std.proofs.lemmas.Grind.{common_steps}
use Rattle.ec_query.proofs.property_reply.write_one.Goals as goal

pub returns-clause-part : goal.returns-clause-part
returns-clause-part c = grind (arith, common_steps)

pub returns-clause-written : goal.returns-clause-written
returns-clause-written c = grind (arith, common_steps)

pub returns-then-not-covers-clause-written : goal.returns-then-not-covers-clause-written
returns-then-not-covers-clause-written c = grind (arith, common_steps)
