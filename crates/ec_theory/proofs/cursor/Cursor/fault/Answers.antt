-- Where a token is left, the fault is at the first.
use Rattle.std.proofs.Common.{arith}
use Rattle.std.proofs.lemmas.Grind.{common_steps}
use Rattle.ec_theory.specs.Reader.{place_at}
use Rattle.ec_theory.proofs.cursor.Cursor.fault.Goals as goal

pub returns-else-is_empty : goal.returns-else-is_empty
unfolding place_at
returns-else-is_empty c = grind (arith, common_steps)
