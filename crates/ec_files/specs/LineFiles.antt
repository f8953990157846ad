-- The file of lines that are replayed.
use Rattle.std.specs.Prelude.{◌≤◌, ℕ, List, length, Option}
use Rattle.ec_outside.specs.Files.{Files, HasFile}
use Rattle.ec_files.specs.declared.line_file.TheConstants.{MOST_REPLAYED}

-- the most bytes that a file of lines has
abbrev pub most_replayed : ℕ
most_replayed = MOST_REPLAYED

-- the folder tells its files, and the file of that name has these bytes, and no more than may be
pub record HasLines (told : Option Files) (name bytes : List ℕ) : Type 0 where
  pub file : HasFile told name bytes
  pub fits : length bytes ≤ most_replayed
