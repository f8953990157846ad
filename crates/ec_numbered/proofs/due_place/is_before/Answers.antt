-- At one time the lesser number comes first.
use Rattle.std.proofs.Common.{rules}
use Rattle.ec_numbered.proofs.due_place.is_before.Goals as goal

pub returns-then-is_eq : goal.returns-then-is_eq
returns-then-is_eq g c = search rules
