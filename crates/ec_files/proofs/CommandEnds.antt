-- Which status a command has where nothing fails.
use Rattle.std.proofs.Common.{◌≡◌, ◌⊎◌, ℕ, List, Option, IsSome, refl, sym, ◌∙◌, subst, inl, inr, arith}
use Rattle.ec_terms.specs.declared.theory.Theory.{Theory}
use Rattle.ec_outside.specs.Counts.{Rose}
use Rattle.ec_outside.proofs.Counts.{Rose-earlier}
use Rattle.ec_outside.specs.Streams.{Appended, NothingAppended}
use Rattle.ec_outside.proofs.Streams.{Appended-then-NothingAppended, AppendedPart-all, AppendedPart-then-NothingAppended}
use Rattle.ec_outside.specs.Files.{Files, HasFile, IsMissing}
use Rattle.ec_files.specs.declared.status.Status.{Status}
use Rattle.ec_files.specs.declared.status.Status.TheVariants as status
use Rattle.ec_files.specs.CommandEnds.{SaysLine, SaysRefused, WithTheory, Wrote}
use Rattle.ec_files.specs.TheoryFiles.{IsNoTheory, theory_line}
use Rattle.ec_files.proofs.TheoryTexts.{HasFile-not_missing, HasFile-told, HasTheory-not_refused, IsNoTheory-file}
use Rattle.ec_files.proofs.StatusCodes.{by_either, second_of_two}

-- ---- statuses

-- what only the serving of an input ends with
abbrev pub IsInputStatus : Status → Type 0
IsInputStatus status.ReadFault = Unit {0}
IsInputStatus status.LimitReached = Unit {0}
IsInputStatus s = ⊥

-- with what nothing was written and taken
abbrev pub IsUntouched : Status → Type 0
IsUntouched status.NoMemory = Unit {0}
IsUntouched status.FolderFault = Unit {0}
IsUntouched status.LongLines = Unit {0}
IsUntouched s = ⊥

-- ---- where there is no theory

-- a file that is there was read, where nothing fails
pub not_unread : {told : Option Files} {name bytes : List ℕ} {before after : ℕ} → HasFile told name bytes → ¬ Rose before after → Rose before after ⊎ IsMissing told name → ⊥
not_unread file fine (inl rose) = fine rose
not_unread file fine (inr missing) = HasFile-not_missing file missing

module _ {K : Type 0} (stands : K → List ℕ → Type 0) (faults : K → ℕ) (told : Option Files) (name : List ℕ) (before after : ℕ) (old new : K) where
  module _ (bytes : List ℕ) (file : HasFile told name bytes) (fine : ¬ Rose before after) where
    -- of a file that was read, the line was told, or memory ran out
    pub told_or_memory : (s : Status) → SaysRefused stands faults told name before after old new s → (s ≡ status.BadTheory) ⊎ (s ≡ status.NoMemory)
    told_or_memory status.Done says = absurd says
    told_or_memory status.NoShape says = absurd says
    told_or_memory status.BadTheory says = inl refl
    told_or_memory status.ReadFault says = absurd says
    told_or_memory status.WriteFault says = absurd says
    told_or_memory status.NoMemory says = inr refl
    told_or_memory status.FolderFault says = absurd (not_unread file fine says.1)
    told_or_memory status.LimitReached says = absurd says
    told_or_memory status.LongLines says = absurd says
    told_or_memory status.BadEvents says = absurd says

    -- where nothing refuses it, memory ran out
    pub only_memory : ((text : List ℕ) → IsNoTheory told name text → ⊥) → (s : Status) → SaysRefused stands faults told name before after old new s → s ≡ status.NoMemory
    only_memory never status.Done says = absurd says
    only_memory never status.NoShape says = absurd says
    only_memory never status.BadTheory says = absurd (never says.text (says.why (HasFile-told file)))
    only_memory never status.ReadFault says = absurd says
    only_memory never status.WriteFault says = absurd says
    only_memory never status.NoMemory says = refl
    only_memory never status.FolderFault says = absurd (not_unread file fine says.1)
    only_memory never status.LimitReached says = absurd says
    only_memory never status.LongLines says = absurd says
    only_memory never status.BadEvents says = absurd says

  -- a theory that is refused is told so
  pub told_refused : {Says : Theory → Status → Type 0} {Unchanged : Type 0} → ((theory : Theory) → Says theory status.BadTheory → ⊥)
      → WithTheory stands faults told name before after old new Says Unchanged status.BadTheory
      → (text : List ℕ) × (IsSome told → IsNoTheory told name text) × Wrote stands faults old new (theory_line text)
  told_refused never ends =
      let none = second_of_two ends.says (λ with. never with.0 with.2) in
      (none.0.text, none.0.why, none.0.wrote)

  -- where the bytes of the file have a fault, it is refused or memory runs out
  pub refuses_with : {Says : Theory → Status → Type 0} {Unchanged : Type 0} {text : List ℕ} {s : Status} → ¬ Rose before after → IsNoTheory told name text
      → WithTheory stands faults told name before after old new Says Unchanged s → (s ≡ status.BadTheory) ⊎ (s ≡ status.NoMemory)
  refuses_with {s = s} fine why ends =
      let file = IsNoTheory-file why in
      by_either ends.says (λ with. absurd (HasTheory-not_refused (with.1 (HasFile-told file.1)) why)) (λ none. told_or_memory file.0 file.1 fine s none.0)

  -- with no theory no input was asked for
  pub no_refusal : (s : Status) → IsInputStatus s → SaysRefused stands faults told name before after old new s → ⊥
  no_refusal status.ReadFault input_status says = says
  no_refusal status.LimitReached input_status says = says
  no_refusal s input_status says = absurd input_status

  -- and nothing was written with some statuses
  pub same_refusal : (s : Status) → IsUntouched s → SaysRefused stands faults told name before after old new s → new ≡ old
  same_refusal status.NoMemory untouched says = says
  same_refusal status.FolderFault untouched says = says.0
  same_refusal status.LongLines untouched says = absurd says
  same_refusal s untouched says = absurd untouched

-- ---- with a theory

module _ {K : Type 0} (stands : K → List ℕ → Type 0) (faults : K → ℕ) (old new : K) (IsLine : List ℕ → Type 0) where
  pub no_line : (s : Status) → IsInputStatus s → SaysLine stands faults old new IsLine s → ⊥
  no_line status.ReadFault input_status says = says
  no_line status.LimitReached input_status says = says
  no_line s input_status says = absurd input_status

  -- a line that was written is handed on, or the sink fails then
  pub line_handed_on : (middle : K) (text : List ℕ) (s : Status) → IsLine text → Appended stands old middle text → NothingAppended stands middle new → faults middle ≡ faults old
      → (s ≡ status.Done) ⊎ ((s ≡ status.WriteFault) × Rose (faults middle) (faults new)) → (s ≡ status.WriteFault) ⊎ (faults new ≡ faults middle)
      → SaysLine stands faults old new IsLine s
  line_handed_on middle text s is written kept same (inl done) told =
      subst (λ (t : Status). SaysLine stands faults old new IsLine t) (sym done)
      (text, is, Appended-then-NothingAppended written kept, second_of_two told (λ broken. cc) ∙ same)
  line_handed_on middle text s is written kept same (inr failed) told =
      subst (λ (t : Status). SaysLine stands faults old new IsLine t) (sym failed.0)
      (Rose-earlier (omega (arith, same)) failed.1, (text, is, AppendedPart-then-NothingAppended (AppendedPart-all written) kept))

  pub same_line : (s : Status) → IsUntouched s → SaysLine stands faults old new IsLine s → new ≡ old
  same_line status.NoMemory untouched says = says
  same_line status.FolderFault untouched says = absurd says
  same_line status.LongLines untouched says = absurd says
  same_line s untouched says = absurd untouched

module _ {K : Type 0} (stands : K → List ℕ → Type 0) (faults : K → ℕ) (old new : K) (writes : ¬ Rose (faults old) (faults new)) where
  -- the one line is written where nothing fails
  pub line_done : (IsLine : List ℕ → Type 0) (s : Status) → SaysLine stands faults old new IsLine s → (s ≡ status.Done) ⊎ (s ≡ status.NoMemory)
  line_done IsLine status.Done says = inl refl
  line_done IsLine status.NoShape says = absurd says
  line_done IsLine status.BadTheory says = absurd says
  line_done IsLine status.ReadFault says = absurd says
  line_done IsLine status.WriteFault says = absurd (writes says.0)
  line_done IsLine status.NoMemory says = inr refl
  line_done IsLine status.FolderFault says = absurd says
  line_done IsLine status.LimitReached says = absurd says
  line_done IsLine status.LongLines says = absurd says
  line_done IsLine status.BadEvents says = absurd says
