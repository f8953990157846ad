-- What follows from the calls and the tests before it.
use Rattle.std.proofs.Common.{arith}
use Rattle.std.proofs.lemmas.Grind.{common_steps}
use Rattle.ec_query.proofs.interval_reply.write_begun.Goals as goal

pub returns-in-Some-clause-part : goal.returns-in-Some-clause-part
returns-in-Some-clause-part c = grind (arith, common_steps)

pub returns-in-None-clause-part : goal.returns-in-None-clause-part
returns-in-None-clause-part c = grind (arith, common_steps)

pub returns-in-None-clause-written : goal.returns-in-None-clause-written
returns-in-None-clause-written c = grind (arith, common_steps)

pub returns-in-Some-clause-written : goal.returns-in-Some-clause-written
returns-in-Some-clause-written c = grind (arith, common_steps)
