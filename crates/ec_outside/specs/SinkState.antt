-- A sink in memory.
use Rattle.std.specs.Prelude.{◌≡◌, ℕ, ◌-◌, Bool, ◌||◌, ◌&&◌, nat_lt, nat_le, List, length, min}
use Rattle.ec_outside.specs.Calls.{Calls, next_fails}

-- the bytes that it holds, how many it has room for, how many a write takes at most, its calls of
-- the two kinds, and how many of them failed
pub record SinkState : Type 0 where
  pub bytes : List ℕ
  pub room : ℕ
  pub most : ℕ
  pub writes : Calls
  pub flushes : Calls
  pub faults : ℕ

-- it stands for exactly the list of its bytes
abbrev pub stands_for : SinkState → List ℕ → Type 0
stands_for sink text = text ≡ sink.bytes

-- the next write, of a piece of that length, fails: by its number, or since there is no room
abbrev pub write_fails : SinkState → ℕ → Bool
write_fails sink size = next_fails sink.writes || (nat_lt 0 size && nat_le sink.room (length sink.bytes))

-- how many bytes of a piece of that length a write takes that does not fail
abbrev pub taken_count : SinkState → ℕ → ℕ
taken_count sink size = min (min size sink.most) (sink.room - length sink.bytes)
