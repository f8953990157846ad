-- A source in memory.
use Rattle.std.specs.Prelude.{ℕ, List, length, min}
use Rattle.ec_outside.specs.Calls.{Calls}

-- what is left to read, how many bytes a read gives at most, its calls, how many of them failed, and how many there were
-- from the one on that met the end
pub record SourceState : Type 0 where
  pub left : List ℕ
  pub most : ℕ
  pub reads : Calls
  pub faults : ℕ
  pub ended : ℕ

-- how many bytes a read that does not fail gives to a buffer of that length
abbrev pub given_count : SourceState → ℕ → ℕ
given_count source room = min (min (length source.left) source.most) room
