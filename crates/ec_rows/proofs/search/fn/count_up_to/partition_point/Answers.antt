-- Whether a member is at most at the time.
use Rattle.std.proofs.Common.{arith}
use Rattle.std.proofs.lemmas.Grind.{common_steps}
use Rattle.ec_rows.proofs.search.fn.count_up_to.partition_point.Goals as goal

pub returns : goal.returns
returns g c = grind (arith, common_steps)
