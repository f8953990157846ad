-- Marks with the same first two counts differ where the third counts do.
use Rattle.std.proofs.Common.{rules}
use Rattle.ec_revise.proofs.settled.differ.Goals as goal

pub returns-else-mark-new-2 : goal.returns-else-mark-new-2
returns-else-mark-new-2 g c = search rules
