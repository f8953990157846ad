-- With an initiation, the mark is a clash where it clashes.
use Rattle.std.proofs.Common.{rules}
use Rattle.ec_points.proofs.noted.clashes.Goals as goal

pub returns-then-mark-gt0 : goal.returns-then-mark-gt0
returns-then-mark-gt0 g c = search rules
