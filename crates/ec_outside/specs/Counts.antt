-- When a count of faults rose in a call, and how a count goes on.
use Rattle.std.specs.Prelude.{ℕ, ◌+◌, ◌-◌, ◌^◌, ◌<◌, ◌≤◌, ◌⊎◌, min}

-- the last value of a counter of 64 bits
abbrev pub last_count : ℕ
last_count = 2 ^ 64 - 1

-- the count is greater after than before, or it stands at the last value
abbrev pub Rose : ℕ → ℕ → Type 0
Rose before after = (before < after) ⊎ (last_count ≤ after)

-- one more, and the last value for good once it is reached
abbrev pub next_count : ℕ → ℕ
next_count count = min (count + 1) last_count
