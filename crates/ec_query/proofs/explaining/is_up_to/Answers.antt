-- The order of times is that of their ranks.
use Rattle.std.proofs.Common.{rules}
use Rattle.ec_query.proofs.explaining.is_up_to.Goals as goal

pub returns : goal.returns
returns g c = search rules
