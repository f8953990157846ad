-- What follows from the calls and the tests before it.
use Rattle.std.proofs.Common.{arith}
use Rattle.std.proofs.lemmas.Grind.{common_steps}
use Rattle.ec_sweep.proofs.next_time.least.Goals as goal

pub returns-then-is_lt-clause-second : goal.returns-then-is_lt-clause-second
returns-then-is_lt-clause-second c = grind (arith, common_steps)

pub returns-then-is_lt-clause-first : goal.returns-then-is_lt-clause-first
returns-then-is_lt-clause-first c = grind (arith, common_steps)

pub returns-else-is_lt-clause-second : goal.returns-else-is_lt-clause-second
returns-else-is_lt-clause-second c = grind (arith, common_steps)
