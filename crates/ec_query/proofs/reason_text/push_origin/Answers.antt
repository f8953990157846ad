-- What follows from the calls and the tests before it.
use Rattle.std.proofs.Common.{arith}
use Rattle.std.proofs.lemmas.Grind.{common_steps}
use Rattle.ec_query.proofs.reason_text.push_origin.Goals as goal

pub returns-in-At-clause-text : goal.returns-in-At-clause-text
returns-in-At-clause-text c = grind (arith, common_steps)
