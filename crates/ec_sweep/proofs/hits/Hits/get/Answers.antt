-- What follows from the calls and the tests before it.
use Rattle.std.proofs.Common.{arith}
use Rattle.std.proofs.lemmas.Grind.{common_steps}
use Rattle.ec_sweep.proofs.hits.Hits.get.Goals as goal

pub row-requires : goal.row-requires
row-requires c = grind (arith, common_steps)
