-- Each count is what it was, more by the turns up and less by the turns down.
use Rattle.std.proofs.Common.{rules}
use Rattle.ec_revise.proofs.settled.mark_with.Goals as goal

pub count_after-requires-2-clause-above : goal.count_after-requires-2-clause-above
count_after-requires-2-clause-above g c = search rules

pub returns : goal.returns
returns g c = search rules
