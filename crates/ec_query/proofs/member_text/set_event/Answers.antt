-- What follows from the calls and the tests before it.
use Rattle.std.proofs.Common.{arith}
use Rattle.std.proofs.lemmas.Grind.{common_steps}
use Rattle.ec_query.proofs.member_text.set_event.Goals as goal

pub push-requires-4 : goal.push-requires-4
push-requires-4 c = grind (arith, common_steps)
