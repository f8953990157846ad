-- The key under which a property is found: a hash of its name and of its arguments.
use Rattle.std.specs.Prelude.{ℕ, List}
use Rattle.std.specs.List.{fold}
use Rattle.std.specs.Hash.{i64}
use Rattle.std.specs.Hash.FoldHasher.{initial, write, finish}
use Rattle.ec_terms.specs.declared.ground.Arg.{Arg}
use Rattle.ec_terms.specs.declared.ground.Arg.TheVariants.{Int, Word}
use Rattle.ec_terms.specs.declared.ground.Ground.{Ground}

-- a hasher after an argument: a number by its 64 bits, a name by its bytes
unfoldable pub fed_by : {H : Type 0} → (H → List ℕ → H) → H → Arg → H
fed_by write hasher (Int z) = fold write hasher (i64 z)
fed_by write hasher (Word w) = write hasher w

-- the key of a term
unfoldable pub key_of : Ground → ℕ
key_of term = finish (fold (fed_by write) (write initial term.name) term.args)
