-- The arguments so far are copied.
use Rattle.std.proofs.Common.{◌≡◌, length, take}
use Rattle.ec_terms.proofs.ground.ArgRefs.copied.Given as goal

abbrev pub invariant-loop-arg : goal.invariant-loop-arg
invariant-loop-arg l = record { same : l.args ≡ take l.arg-index l.fn.self; count : length l.args ≡ l.arg-index }
