-- Where the names are the same, the numbers of arguments decide.
use Rattle.std.proofs.Common.{rules}
use Rattle.ec_check.specs.Faults.{same_event}
use Rattle.ec_check.proofs.rules.same_event.Goals as goal

pub returns-then-same_name : goal.returns-then-same_name
unfolding same_event
returns-then-same_name c = search rules
