-- A text is a theory or has a fault, and never both; a folder has one file of a name.
use Rattle.std.proofs.Common.{◌≡◌, ◌≤◌, ◌⊎◌, ℕ, Bool, true, false, List, length, Option, Some, None, IsSome, Err, IsErrOf, sym, ap, ◌∙◌, subst, inl, inr, arith}
use Rattle.std.specs.FinMap as map
use Rattle.ec_terms.specs.declared.theory.Theory.{Theory}
use Rattle.ec_theory.specs.declared.token_fault.TokenFault.TheVariants as token
use Rattle.ec_theory.specs.Lexeme.{Lexemes}
use Rattle.ec_check.specs.Faults.{first_wrong}
use Rattle.ec_theory.specs.declared.syntax_fault.SyntaxFault.TheVariants as syntax_fault
use Rattle.ec_theory.specs.declared.text.Refused.{Refused}
use Rattle.ec_theory.specs.declared.text.Refused.TheVariants as refused
use Rattle.ec_theory.specs.Accepted.{IsAccepted, HasFault}
use Rattle.ec_theory.specs.Reading.{Reads}
use Rattle.ec_theory.proofs.WalkLaws.{stop_of_reads, stop_of_wrong}
use Rattle.ec_theory.proofs.OneReading.{reading_same}
use Rattle.ec_outside.specs.Files.{Files, HasFile, IsMissing, IsTooLong}
use Rattle.ec_files.specs.declared.theory_file.NoTheory.{NoTheory}
use Rattle.ec_files.specs.declared.theory_file.NoTheory.TheVariants.{FolderFault, NoMemory, Said}
use Rattle.ec_files.specs.declared.status.Status.{Status}
use Rattle.ec_files.specs.declared.status.Status.TheVariants as status
use Rattle.ec_files.specs.CommandEnds.{SaysRefused}
use Rattle.ec_files.specs.Loading.{IsBytesReason, IsReason, IsRefusal}
use Rattle.ec_files.specs.TheoryFiles.{HasTheory, IsNoTheory, too_long, faulty, most_theory_bytes, fault_text, token_text, syntax_text}
use Rattle.ec_files.proofs.StatusCodes.{second_of_two}

-- ---- texts

-- an accepted text has no fault of which anything is said
pub accepted_not_faulty : {bytes : List ℕ} {theory : Theory} → IsAccepted bytes theory → (text : List ℕ) (fault : Refused) → HasFault bytes fault → fault_text fault ≡ Some text → ⊥
unfolding fault_text token_text syntax_text
accepted_not_faulty accepted text (refused.Tokens (token.BadByte place)) has is = let both = sym accepted.cut ∙ has in cc
accepted_not_faulty accepted text (refused.Tokens (token.LongName place)) has is = let both = sym accepted.cut ∙ has in cc
accepted_not_faulty accepted text (refused.Tokens (token.BigNumber place)) has is = let both = sym accepted.cut ∙ has in cc
accepted_not_faulty accepted text (refused.Tokens token.Memory) has is = cc
accepted_not_faulty {theory = theory} accepted text (refused.Syntax (syntax_fault.Syntax place)) has is =
    let both = sym has.cut ∙ accepted.cut in
    let same : has.tokens ≡ accepted.tokens = cc in
    let stop = (stop_of_wrong has.tokens place).1 has.syntax in
    let none = (stop_of_reads has.tokens).1 (record { theory = theory; reads = subst (λ (l : Lexemes). Reads l theory) (sym same) accepted.reads }) in
    let stops = sym stop ∙ none in cc
accepted_not_faulty accepted text (refused.Syntax syntax_fault.Memory) has is = cc
accepted_not_faulty {theory = theory} accepted text (refused.Wrong fault) has is =
    let both = sym has.cut ∙ accepted.cut in
    let same : has.tokens ≡ accepted.tokens = cc in
    let theories : has.theory ≡ theory = reading_same has.reads (subst (λ (l : Lexemes). Reads l theory) (sym same) accepted.reads) in
    let none : first_wrong has.theory ≡ None = ap first_wrong theories ∙ accepted.well_formed.no_fault in
    let wrong = sym has.wrong ∙ none in cc

-- a text is at most one theory
pub accepted_same : {bytes : List ℕ} {a b : Theory} → IsAccepted bytes a → IsAccepted bytes b → a ≡ b
accepted_same {a = a} one other =
    let both = sym one.cut ∙ other.cut in
    let tokens : one.tokens ≡ other.tokens = cc in
    reading_same (subst (λ (l : Lexemes). Reads l a) tokens one.reads) other.reads

-- ---- files

pub HasFile-same : {told : Option Files} {name a b : List ℕ} → HasFile told name a → HasFile told name b → a ≡ b
HasFile-same {told} {name} {a} {b} one other =
    let both = sym one.is_told ∙ other.is_told in
    let same : one.files ≡ other.files = cc in
    let found : Some a ≡ Some b = sym one.found ∙ ap (λ (f : Files). map.get f name) same ∙ other.found in cc

pub HasFile-told : {told : Option Files} {name a : List ℕ} → HasFile told name a → IsSome told
HasFile-told has = ap is_there has.is_told
  where
    is_there : Option Files → Bool
    is_there (Some f) = true
    is_there None = false

pub HasFile-not_missing : {told : Option Files} {name a : List ℕ} → HasFile told name a → IsMissing told name → ⊥
HasFile-not_missing {told} {name} {a} has missing =
    let both = sym has.is_told ∙ missing.is_told in
    let same : has.files ≡ missing.files = cc in
    let found : Some a ≡ None = sym has.found ∙ ap (λ (f : Files). map.get f name) same ∙ missing.absent in cc

pub HasFile-not_long : {told : Option Files} {name a : List ℕ} {most : ℕ} → HasFile told name a → length a ≤ most → IsTooLong told name most → ⊥
HasFile-not_long {told} {name} {a} {most} has fits long =
    let size : length a ≡ length long.bytes = ap length (HasFile-same has long.file) in
    let more = long.long in
    omega (arith, size, fits, more)

-- a file that has a theory is not refused as none
pub HasTheory-not_refused : {told : Option Files} {name text : List ℕ} {theory : Theory} → HasTheory told name theory → IsNoTheory told name text → ⊥
HasTheory-not_refused has (too_long long) = HasFile-not_long has.file has.fits long
HasTheory-not_refused {theory = theory} has (faulty bytes text fault file fits wrong said) =
    accepted_not_faulty (subst (λ (b : List ℕ). IsAccepted b theory) (HasFile-same has.file file) has.accepted) text fault wrong said

-- a file has at most one theory
pub HasTheory-same : {told : Option Files} {name : List ℕ} {a b : Theory} → HasTheory told name a → HasTheory told name b → a ≡ b
HasTheory-same {b = b} one other = accepted_same one.accepted (subst (λ (bytes : List ℕ). IsAccepted bytes b) (sym (HasFile-same one.file other.file)) other.accepted)

-- what is refused is a file that the folder tells
pub IsNoTheory-file : {told : Option Files} {name text : List ℕ} → IsNoTheory told name text → (bytes : List ℕ) × HasFile told name bytes
IsNoTheory-file (too_long long) = (long.bytes, long.file)
IsNoTheory-file (faulty bytes text fault file fits wrong said) = (bytes, file)

-- ---- why a file gave no theory

-- what is said of the bytes of a file is said of the file
pub IsReason-bytes : (told : Option Files) (name bytes : List ℕ) (before after : ℕ) → (IsSome told → HasFile told name bytes) → length bytes ≤ most_theory_bytes
    → (reason : NoTheory) → IsBytesReason bytes reason → IsReason told name before after reason
IsReason-bytes told name bytes before after file fits FolderFault is = absurd is
IsReason-bytes told name bytes before after file fits NoMemory is = tt
IsReason-bytes told name bytes before after file fits (Said text) is = (
  (λ tells. faulty bytes text is.0.fault (file tells) fits is.0.has is.0.said),
  (λ long. absurd (HasFile-not_long (file (HasFile-told long.file)) fits long)),
  is.1,
)

-- that a call on the folder failed is told by the status of a run that has no theory
pub refused_told : {K T : Type 0} (stands : K → List ℕ → Type 0) (faults : K → ℕ) (before after : ℕ) (old new : K) (reason : NoTheory) (ended : Status)
    → IsErrOf {T = T} (Err reason) FolderFault ⊎ (after ≡ before) → IsRefusal stands faults reason ended old new → (ended ≡ status.FolderFault) ⊎ (after ≡ before)
refused_told stands faults before after old new FolderFault ended told is = inl is.0
refused_told stands faults before after old new NoMemory ended told is = inr (second_of_two told (λ broken. cc))
refused_told stands faults before after old new (Said text) ended told is = inr (second_of_two told (λ broken. cc))

-- what the status of a run says that has no theory
pub SaysRefused-of : {K : Type 0} (stands : K → List ℕ → Type 0) (faults : K → ℕ) (told : Option Files) (name : List ℕ) (before after : ℕ) (old new : K)
    (reason : NoTheory) (ended : Status) → IsReason told name before after reason → IsRefusal stands faults reason ended old new
    → SaysRefused stands faults told name before after old new ended
SaysRefused-of stands faults told name before after old new FolderFault ended why is =
    subst (λ (s : Status). SaysRefused stands faults told name before after old new s) (sym is.0) (is.1, why)
SaysRefused-of stands faults told name before after old new NoMemory ended why is =
    subst (λ (s : Status). SaysRefused stands faults told name before after old new s) (sym is.0) is.1
SaysRefused-of stands faults told name before after old new (Said text) ended why is =
    subst (λ (s : Status). SaysRefused stands faults told name before after old new s) (sym is.0)
    (record { text = text; why = why.0; long = why.1; wrote = is.1 })
