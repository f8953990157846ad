-- What follows from the calls and the tests before it.
use Rattle.std.proofs.Common.{arith}
use Rattle.std.proofs.lemmas.Grind.{common_steps}
use Rattle.ec_numbered.proofs.small_map.SmallMap.get.Goals as goal

pub returns-in-Few : goal.returns-in-Few
returns-in-Few c = grind (arith, common_steps)

pub returns-in-Many : goal.returns-in-Many
returns-in-Many c = grind (arith, common_steps)
