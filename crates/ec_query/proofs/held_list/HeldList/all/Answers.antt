-- A list that is not full has all that was pushed to it.
use Rattle.std.proofs.Common.{rules}
use Rattle.ec_query.proofs.held_list.HeldList.all.Goals as goal

pub returns-clause-some : goal.returns-clause-some
returns-clause-some c = search rules
