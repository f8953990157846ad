-- Numbers drawn by a congruential generator, whose state is a number below 2^64.
use Rattle.std.specs.Prelude.{ℕ, ◌+◌, ◌*◌, ◌/◌, ◌%◌, ◌^◌}

-- the state behind a draw
unfoldable pub next_state : ℕ → ℕ
next_state x = (x * 6364136223846793005 + 1442695040888963407) % 2 ^ 64

-- a number below the limit, drawn by the high bits of the next state, and that state
unfoldable pub draw : ℕ → ℕ → ℕ × ℕ
draw limit x = (next_state x / 2 ^ 33 % limit, next_state x)
