-- A folder in memory.
use Rattle.std.specs.Prelude.{ℕ, Bool, ◌&&◌, ◌||◌, List, is_none, is_some, refl}
use Rattle.std.specs.Coded.{Coded, code_by, coded×, coded_list, coded_ℕ}
use Rattle.std.specs.FinMap as map
use Rattle.ec_outside.specs.Calls.{Calls, next_fails}
use Rattle.ec_outside.specs.Files.{Files}

-- its files, the calls that read one, and how many of them failed other than for a missing file
pub record FolderState : Type 0 where
  pub files : Files
  pub reads : Calls
  pub faults : ℕ

-- the next call, for that name, fails: by its number, or since there is no such file
abbrev pub read_fails : FolderState → List ℕ → Bool
read_fails folder name = next_fails folder.reads || is_none (map.get folder.files name)

-- the next call, for that name, is counted as one that failed
abbrev pub is_fault : FolderState → List ℕ → Bool
is_fault folder name = next_fails folder.reads && is_some (map.get folder.files name)

-- how the values are stored: each as its parts
abbrev pub files_code : Coded Files
files_code = map.code (coded_list coded_ℕ) (coded_list coded_ℕ)

abbrev pub calls_code : Coded Calls
calls_code = code_by (List ℕ × ℕ) (coded× (coded_list coded_ℕ) coded_ℕ)
    (λ calls. (calls.failing, calls.made)) (λ parts. record { failing = parts.0; made = parts.1 }) (λ _. refl)

abbrev pub folder_code : Coded FolderState
folder_code = code_by (Files × (Calls × ℕ)) (coded× files_code (coded× calls_code coded_ℕ))
    (λ folder. (folder.files, (folder.reads, folder.faults)))
    (λ parts. record { files = parts.0; reads = parts.1.0; faults = parts.1.1 }) (λ _. refl)
