-- Rows that are kept by number: a list of optional rows, in which each number has its own place.
use Rattle.std.specs.Prelude.{ℕ, List, Option, None}
use Rattle.std.specs.List.{slice_index_or}

-- what is kept under a number, if anything is
abbrev pub kept_at : {X : Type 0} → ℕ → List (Option X) → Option X
kept_at n rows = slice_index_or rows n None
