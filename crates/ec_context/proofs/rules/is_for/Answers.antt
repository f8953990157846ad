-- A rule is for an event of its name where the numbers of arguments are equal.
use Rattle.std.proofs.Common.{arith}
use Rattle.ec_context.proofs.rules.is_for.Goals as goal

pub returns-then-eq : goal.returns-then-eq
returns-then-eq c = grind arith
