-- A variable of the head, a test or a literal is unbound exactly where the event lacks it.
use Rattle.std.proofs.Common.{rules}
use Rattle.ec_check.specs.Faults.{is_unbound}
use Rattle.ec_check.proofs.rules.is_unbound.Goals as goal

pub returns-then-open : goal.returns-then-open
unfolding is_unbound
returns-then-open c = search rules
