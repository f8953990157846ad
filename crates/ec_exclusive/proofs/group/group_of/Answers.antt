-- What follows from the calls and the tests before it.
use Rattle.std.proofs.Common.{arith}
use Rattle.std.proofs.lemmas.Grind.{common_steps}
use Rattle.ec_exclusive.proofs.group.group_of.Goals as goal

pub insert-requires : goal.insert-requires
insert-requires c = grind (arith, common_steps)
