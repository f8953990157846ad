-- Rows of keys and values: which of them stands first for a key, and what is seen of few rows or of many.
use Rattle.std.specs.Prelude.{◌≡◌, ℕ, ◌<◌, Bool, true, false, List, length, slice_index_or}
use Rattle.std.specs.List.{IsDistinct}
use Rattle.std.specs.Map.{keys_of}
use Rattle.ec_numbered.specs.declared.small_map.Body.{Body}
use Rattle.ec_numbered.specs.declared.small_map.Body.TheVariants.{Few, Many}

-- the first row whose key passes a test stands at this place
pub record IsFirst {K V : Type 0} (test : K → Bool) (rows : List (K × V)) (i : ℕ) : Type 0 where
  pub within : i < length rows
  pub passes : (d : K × V) → test (slice_index_or rows i d).0 ≡ true
  pub first : (j : ℕ) (d : K × V) → j < i → test (slice_index_or rows j d).0 ≡ false

-- the rows, however they are held
abbrev pub rows_of : {K V : Type 0} → Body K V → List (K × V)
rows_of (Few rows) = rows.items
rows_of (Many map) = map.value.entries

-- few rows have each key once, and so has a map by itself
abbrev pub AreRows : {K V : Type 0} → (K → K → Bool) → Body K V → Type 0
AreRows eq (Few rows) = IsDistinct eq (keys_of rows.items)
AreRows eq (Many map) = Unit {0}
