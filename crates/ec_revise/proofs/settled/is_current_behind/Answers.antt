-- A mark that counts nothing leaves the property as it was.
use Rattle.std.proofs.Common.{rules}
use Rattle.ec_revise.proofs.settled.is_current_behind.Goals as goal

pub returns-else-mark-gt0-3 : goal.returns-else-mark-gt0-3
returns-else-mark-gt0-3 g c = search rules
