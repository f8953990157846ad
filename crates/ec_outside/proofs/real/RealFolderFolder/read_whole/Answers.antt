-- What follows from the calls and the tests before it.
use Rattle.std.proofs.Common.{arith}
use Rattle.std.proofs.lemmas.Grind.{common_steps}
use Rattle.ec_outside.proofs.real.RealFolderFolder.read_whole.Goals as goal

pub returns-else-matches-clause-long : goal.returns-else-matches-clause-long
returns-else-matches-clause-long c = grind (arith, common_steps)

pub returns-then-matches-clause-failed : goal.returns-then-matches-clause-failed
returns-then-matches-clause-failed c = grind (arith, common_steps)

pub returns-then-matches-clause-exact : goal.returns-then-matches-clause-exact
returns-then-matches-clause-exact c = grind (arith, common_steps)

pub returns-then-matches-clause-long : goal.returns-then-matches-clause-long
returns-then-matches-clause-long c = grind (arith, common_steps)

pub returns-then-matches-clause-missing : goal.returns-then-matches-clause-missing
returns-then-matches-clause-missing c = grind (arith, common_steps)

pub returns-then-matches-clause-too_long : goal.returns-then-matches-clause-too_long
returns-then-matches-clause-too_long c = grind (arith, common_steps)

pub returns-else-matches-clause-too_long : goal.returns-else-matches-clause-too_long
returns-else-matches-clause-too_long c = grind (arith, common_steps)

pub returns-else-matches-clause-within : goal.returns-else-matches-clause-within
returns-else-matches-clause-within c = grind (arith, common_steps)

pub returns-else-matches-clause-quiet : goal.returns-else-matches-clause-quiet
returns-else-matches-clause-quiet c = grind (arith, common_steps)

pub returns-then-matches-clause-quiet : goal.returns-then-matches-clause-quiet
returns-then-matches-clause-quiet c = grind (arith, common_steps)

pub returns-then-matches-clause-within : goal.returns-then-matches-clause-within
returns-then-matches-clause-within c = grind (arith, common_steps)

pub returns-else-matches-clause-failed : goal.returns-else-matches-clause-failed
returns-else-matches-clause-failed c = grind (arith, common_steps)
