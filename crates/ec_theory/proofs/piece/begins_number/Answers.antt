-- Behind a minus the first byte decides.
use Rattle.std.proofs.Common.{rules}
use Rattle.ec_theory.proofs.piece.begins_number.Goals as goal

pub returns-then-first-eq45 : goal.returns-then-first-eq45
returns-then-first-eq45 c = search rules
