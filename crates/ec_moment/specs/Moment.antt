-- What the range of a moment's ranks and the bytes of its text are.
use Rattle.std.specs.Prelude.{ℕ, ◌≢◌, ℤ, ◌≤ℤ◌}

-- z is from least to most
abbrev pub IsWithin : ℤ → ℤ → ℤ → Type 0
IsWithin least most z = (least ≤ℤ z) × (z ≤ℤ most)

-- no tab, line feed, carriage return or space: the byte can stand in a word of a line
abbrev pub IsWordByte : ℕ → Type 0
IsWordByte b = (b ≢ 9) × (b ≢ 10) × (b ≢ 13) × (b ≢ 32)
