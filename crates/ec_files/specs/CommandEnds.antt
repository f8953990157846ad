-- What the status of a command says of the theory and of the output.
use Rattle.std.specs.Prelude.{◌≡◌, ◌⊎◌, ℕ, List, Option, IsSome}
use Rattle.ec_terms.specs.declared.theory.Theory.{Theory}
use Rattle.ec_outside.specs.Counts.{Rose}
use Rattle.ec_outside.specs.Files.{Files, IsMissing, IsTooLong}
use Rattle.ec_outside.specs.Streams.{Appended, AppendedPart}
use Rattle.ec_files.specs.declared.status.Status.{Status}
use Rattle.ec_files.specs.declared.status.Status.TheVariants as status
use Rattle.ec_files.specs.LineFiles.{most_replayed}
use Rattle.ec_files.specs.TheoryFiles.{HasTheory, IsNoTheory, accepted_line, most_theory_bytes, theory_line}

module _ {K : Type 0} (stands : K → List ℕ → Type 0) (faults : K → ℕ) (old new : K) where
  -- a text was written whole, or a first part of it and then the sink failed
  abbrev pub Wrote : List ℕ → Type 0
  Wrote text = Appended stands old new text ⊎ (Rose (faults old) (faults new) × AppendedPart stands old new text)

  -- one line was written whole, and no call failed; or the sink failed within it; or memory ran out, and nothing was written; no other status comes
  abbrev pub SaysLine : (List ℕ → Type 0) → Status → Type 0
  SaysLine IsLine status.Done = (text : List ℕ) × IsLine text × Appended stands old new text × (faults new ≡ faults old)
  SaysLine IsLine status.NoShape = ⊥
  SaysLine IsLine status.BadTheory = ⊥
  SaysLine IsLine status.ReadFault = ⊥
  SaysLine IsLine status.WriteFault = Rose (faults old) (faults new) × ((text : List ℕ) × IsLine text × AppendedPart stands old new text)
  SaysLine IsLine status.NoMemory = new ≡ old
  SaysLine IsLine status.FolderFault = ⊥
  SaysLine IsLine status.LimitReached = ⊥
  SaysLine IsLine status.LongLines = ⊥
  SaysLine IsLine status.BadEvents = ⊥

  -- the line about an accepted theory was written
  abbrev pub SaysAccepted : Theory → Status → Type 0
  SaysAccepted theory ended = SaysLine (λ text. text ≡ accepted_line theory) ended

module _ {K : Type 0} (stands : K → List ℕ → Type 0) (faults : K → ℕ) (told : Option Files) (name : List ℕ) (before after : ℕ) (old new : K) where
  -- the file of lines was not read, and nothing was written; no other status comes
  abbrev pub SaysUnread : Status → Type 0
  SaysUnread status.Done = ⊥
  SaysUnread status.NoShape = ⊥
  SaysUnread status.BadTheory = ⊥
  SaysUnread status.ReadFault = ⊥
  SaysUnread status.WriteFault = ⊥
  SaysUnread status.NoMemory = new ≡ old
  SaysUnread status.FolderFault = (new ≡ old) × (Rose before after ⊎ IsMissing told name)
  SaysUnread status.LimitReached = ⊥
  SaysUnread status.LongLines = (new ≡ old) × (IsSome told → IsTooLong told name most_replayed)
  SaysUnread status.BadEvents = ⊥

  -- the line about a refused theory was written; where the folder tells its files, it says why; a file is found too long without a fault
  pub record IsToldWhy : Type 0 where
    pub text : List ℕ
    pub why : IsSome told → IsNoTheory told name text
    pub long : IsTooLong told name most_theory_bytes → ¬ Rose before after
    pub wrote : Wrote stands faults old new (theory_line text)

  -- what a status says where there is no theory: why the file was refused, or that nothing was written; no other status comes
  abbrev pub SaysRefused : Status → Type 0
  SaysRefused status.Done = ⊥
  SaysRefused status.NoShape = ⊥
  SaysRefused status.BadTheory = IsToldWhy
  SaysRefused status.ReadFault = ⊥
  SaysRefused status.WriteFault = ⊥
  SaysRefused status.NoMemory = new ≡ old
  SaysRefused status.FolderFault = (new ≡ old) × (Rose before after ⊎ IsMissing told name)
  SaysRefused status.LimitReached = ⊥
  SaysRefused status.LongLines = ⊥
  SaysRefused status.BadEvents = ⊥

  -- The status says this with a theory, which is the one in the file, where the folder tells its files. Or there is none. A call on the
  -- folder that failed is told.
  pub record WithTheory (Says : Theory → Status → Type 0) (Unchanged : Type 0) (ended : Status) : Type 0 where
    pub says : ((theory : Theory) × (IsSome told → HasTheory told name theory) × Says theory ended) ⊎ (SaysRefused ended × Unchanged)
    pub files_told : (ended ≡ status.FolderFault) ⊎ (after ≡ before)

  -- a theory was checked, and told to be accepted
  abbrev pub HasChecked : Status → Type 0
  HasChecked ended = WithTheory (SaysAccepted stands faults old new) (Unit {0}) ended
