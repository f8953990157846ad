-- What follows from the calls and the tests before it.
use Rattle.std.proofs.Common.{arith}
use Rattle.std.proofs.lemmas.Grind.{common_steps}
use Rattle.ec_entries.proofs.entries.is_kept.Goals as goal

pub returns-else-slot-slots : goal.returns-else-slot-slots
returns-else-slot-slots c = grind (arith, common_steps)
