-- The files of a folder in memory, as entries of a finite map.
use Rattle.std.specs.Prelude.{ℕ, List, map, string_bytes}
use Rattle.ec_outside.specs.declared.named_files.File.{File}

-- the name and the bytes of a file
abbrev pub entry_of : File → List ℕ × List ℕ
entry_of file = (string_bytes file.name, file.bytes.items)

-- the names and the bytes of files
abbrev pub entries_of : List File → List (List ℕ × List ℕ)
entries_of files = map entry_of files
