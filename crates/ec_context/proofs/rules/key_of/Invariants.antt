-- The key so far is the number of arguments and the bytes so far.
use Rattle.std.proofs.Common.{◌≡◌, ◌∷◌, take}
use Rattle.ec_context.proofs.rules.key_of.Given as goal

abbrev pub invariant-loop-byte : goal.invariant-loop-byte
invariant-loop-byte l = l.key.items ≡ l.fn.arity ∷ take l.byte-index l.name
