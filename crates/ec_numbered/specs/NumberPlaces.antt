-- Rows of numbers with their places: where the row of each number stands.
use Rattle.std.specs.Prelude.{◌≡◌, ℕ, List, Some, nat_eq, slice_get}
use Rattle.std.specs.List.{IsDistinct}
use Rattle.std.specs.Map.{keys_of}

-- each row stands at the place that is kept for its number, and no number has two rows
pub record ArePlaces {V : Type 0} (places : List ℕ) (rows : List (ℕ × V)) : Type 0 where
  pub stands : (i n : ℕ) (v : V) → slice_get rows i ≡ Some (n, v) → slice_get places n ≡ Some i
  pub once : IsDistinct nat_eq (keys_of rows)
