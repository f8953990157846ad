-- The next state by a product and a sum that wrap.
use Rattle.std.proofs.Math.Nat.{mod-add-mod}

-- a sum wraps the same where a summand wrapped before
pub ruleset modulo = (mod-add-mod)
