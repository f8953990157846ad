-- The files of a folder, where it tells them: a finite map from names to contents, both lists of bytes.
use Rattle.std.specs.Prelude.{◌≡◌, ℕ, ◌<◌, List, length, Option, Some, None}
use Rattle.std.specs.Ordering.{nat_cmp}
use Rattle.std.specs.Cmp.Lexicographic.{slice_cmp}
use Rattle.std.specs.FinMap as map

-- the contents of files by their names
abbrev pub Files : Type 0
Files = map.FinMap (slice_cmp nat_cmp) (List ℕ)

-- the folder tells its files, and the name is not among them
pub record IsMissing (told : Option Files) (name : List ℕ) : Type 0 where
  pub files : Files
  pub is_told : told ≡ Some files
  pub absent : map.get files name ≡ None

-- the folder tells its files, and the file of that name has these bytes
pub record HasFile (told : Option Files) (name bytes : List ℕ) : Type 0 where
  pub files : Files
  pub is_told : told ≡ Some files
  pub found : map.get files name ≡ Some bytes

-- the folder tells its files, and the file of that name has more than `most` bytes
pub record IsTooLong (told : Option Files) (name : List ℕ) (most : ℕ) : Type 0 where
  pub bytes : List ℕ
  pub file : HasFile told name bytes
  pub long : most < length bytes
