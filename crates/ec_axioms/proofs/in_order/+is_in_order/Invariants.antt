-- The list gets shorter.
use Rattle.std.proofs.Common.{length}
use Rattle.ec_axioms.proofs.in_order.+is_in_order.Given as goal

abbrev pub decreases-is_in_order : goal.decreases-is_in_order
decreases-is_in_order g l = length l.events.now
