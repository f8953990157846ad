-- Why no theory was loaded from a file.
use Rattle.std.specs.Prelude.{◌≡◌, ◌≤◌, ◌⊎◌, ℕ, List, length, Option, Some, IsSome}
use Rattle.ec_theory.specs.declared.text.Refused.{Refused}
use Rattle.ec_theory.specs.Accepted.{HasFault}
use Rattle.ec_outside.specs.Counts.{Rose}
use Rattle.ec_outside.specs.Files.{Files, IsMissing, IsTooLong}
use Rattle.ec_files.specs.declared.theory_file.NoTheory.{NoTheory}
use Rattle.ec_files.specs.declared.theory_file.NoTheory.TheVariants.{FolderFault, NoMemory, Said}
use Rattle.ec_files.specs.declared.status.Status.{Status}
use Rattle.ec_files.specs.declared.status.Status.TheVariants as said
use Rattle.ec_files.specs.CommandEnds.{Wrote}
use Rattle.ec_files.specs.TheoryFiles.{IsNoTheory, fault_text, most_theory_bytes, theory_line}

-- the most bytes of what is said of a theory
abbrev pub most_said : ℕ
most_said = 62

-- the bytes have a fault, of which this is said
pub record IsFaulty (bytes text : List ℕ) : Type 0 where
  pub fault : Refused
  pub has : HasFault bytes fault
  pub said : fault_text fault ≡ Some text

-- why bytes are no theory; that memory ran out says nothing of them
abbrev pub IsBytesReason : List ℕ → NoTheory → Type 0
IsBytesReason bytes FolderFault = ⊥
IsBytesReason bytes NoMemory = Unit {0}
IsBytesReason bytes (Said text) = IsFaulty bytes text × (length text ≤ most_said)

-- why a file gave no theory: the folder failed or has no such file; or this is said of it, where the folder tells its files. A file is
-- found too long without a fault.
abbrev pub IsReason : Option Files → List ℕ → ℕ → ℕ → NoTheory → Type 0
IsReason told name before after FolderFault = Rose before after ⊎ IsMissing told name
IsReason told name before after NoMemory = Unit {0}
IsReason told name before after (Said text) =
    (IsSome told → IsNoTheory told name text) × (IsTooLong told name most_theory_bytes → ¬ Rose before after) × (length text ≤ most_said)

-- what is said fits a line
abbrev pub IsShortReason : NoTheory → Type 0
IsShortReason FolderFault = Unit {0}
IsShortReason NoMemory = Unit {0}
IsShortReason (Said text) = length text ≤ most_said

-- the status of a run that has no theory, and what it wrote: the line about the theory where something is said of it, else nothing
abbrev pub IsRefusal : {K : Type 0} → (K → List ℕ → Type 0) → (K → ℕ) → NoTheory → Status → K → K → Type 0
IsRefusal stands faults FolderFault told old new = (told ≡ said.FolderFault) × (new ≡ old)
IsRefusal stands faults NoMemory told old new = (told ≡ said.NoMemory) × (new ≡ old)
IsRefusal stands faults (Said text) told old new = (told ≡ said.BadTheory) × Wrote stands faults old new (theory_line text)
