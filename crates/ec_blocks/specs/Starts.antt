-- Numbers that are kept in two parts: an own one each, and a base for each group of 64.
use Rattle.std.specs.Prelude.{ℕ, ◌+◌, ◌/◌, ◌%◌, ◌^◌, List, map, length}
use Rattle.std.specs.List.{range_with_len, slice_index_or}

-- the numbers, and how many there is room for
pub record Listed : Type 0 where
  pub items : List ℕ
  pub room : ℕ

-- the number at a place: its own part, and the base of its group
abbrev pub number_at : List ℕ → List ℕ → ℕ → ℕ
number_at parts bases k = (slice_index_or parts k 0 + slice_index_or bases (k / 64) 0) % 2 ^ 64

-- all numbers
abbrev pub numbers_of : List ℕ → List ℕ → List ℕ
numbers_of parts bases = map (number_at parts bases) (range_with_len 0 (length parts))

-- numbers that are kept less a lift for all
abbrev pub lifted : ℕ → List ℕ → List ℕ
lifted lift kept = map (λ n. (n + lift) % 2 ^ 64) kept
