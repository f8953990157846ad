-- Where the two currencies are different, the new one is told.
use Rattle.std.proofs.Common.{rules}
use Rattle.ec_revise.proofs.settled.other.Goals as goal

pub returns-else-in_old-in_new : goal.returns-else-in_old-in_new
returns-else-in_old-in_new c = search rules
