-- What a claim comes to by the files, from what was read of them.
use Rattle.std.proofs.Common.{◌≡◌, ◌≤◌, ◌<◌, ℕ, ℤ, true, false, List, length, nat_lt, Option, Some, None, IsSome, Result, Err, refl, sym, ap, ◌∙◌, subst, inl, inr, arith}
use Rattle.std.specs.FinMap as map
use Rattle.ec_terms.specs.declared.ground.Ground.{Ground}
use Rattle.ec_axioms.specs.Calculus.{PlainEvent}
use Rattle.ec_cert.specs.EventFile.{PlacedName, event_file}
use Rattle.ec_outside.proofs.Counts.{Rose-earlier}
use Rattle.ec_outside.specs.Files.{Files, HasFile, IsMissing}
use Rattle.ec_replies.specs.Replies.{Language}
use Rattle.ec_files.specs.declared.no_answer.NoAnswer.{NoAnswer}
use Rattle.ec_files.specs.declared.no_answer.NoAnswer.TheVariants.{FolderFault, NoMemory, LongFile, BadEvents}
use Rattle.ec_files.specs.Answering.{IsReason, IsUnread}
use Rattle.ec_files.specs.Claims.{Claim, HasEvents, HasOutcome, IsAnswer, IsDecided, Outcome, answer, claim_outcome, decided, keeps_all_limits, long_file, no_time, outcome_at, verified_text, with_events, with_file, with_time}
use Rattle.ec_files.specs.LineFiles.{HasLines, most_replayed}

-- ---- files

-- a file that is there and not too long is gone on with
with_file-held : (bytes : List ℕ) (rest : List ℕ → Outcome) → length bytes ≤ most_replayed → with_file (Some bytes) rest ≡ rest bytes
with_file-held bytes rest fits = rw (below most_replayed (length bytes) fits) refl
  where
    below : (most size : ℕ) → size ≤ most → nat_lt most size ≡ false
    below most size fits = grind (arith, fits)

with_file-long : (bytes : List ℕ) (rest : List ℕ → Outcome) → most_replayed < length bytes → with_file (Some bytes) rest ≡ long_file
with_file-long bytes rest long = rw (above most_replayed (length bytes) long) refl
  where
    above : (most size : ℕ) → most < size → nat_lt most size ≡ true
    above most size long = grind (arith, long)

-- the files that are told are told once
found_in : {told : Option Files} {name bytes : List ℕ} (files : Files) → told ≡ Some files → HasFile told name bytes → map.get files name ≡ Some bytes
found_in {name = name} files told has =
    let both = sym has.is_told ∙ told in
    let same : has.files ≡ files = cc in
    ap (λ (f : Files). map.get f name) (sym same) ∙ has.found

absent_in : {told : Option Files} {name : List ℕ} (files : Files) → told ≡ Some files → IsMissing told name → map.get files name ≡ None
absent_in {name = name} files told missing =
    let both = sym missing.is_told ∙ told in
    let same : missing.files ≡ files = cc in
    ap (λ (f : Files). map.get f name) (sym same) ∙ missing.absent

told_some : {told : Option Files} (files : Files) → told ≡ Some files → IsSome told
told_some files told = subst (λ (t : Option Files). IsSome t) (sym told) refl

module _ (told : Option Files) (name : List ℕ) (rest : Files → List ℕ → Outcome) where
  -- what goes on with the bytes of a file that was read
  pub read_on : (bytes : List ℕ) → (IsSome told → HasLines told name bytes) → (files : Files) → told ≡ Some files
      → with_file (map.get files name) (rest files) ≡ rest files bytes
  read_on bytes has files is =
      let lines = has (told_some files is) in
      ap (λ (found : Option (List ℕ)). with_file found (rest files)) (found_in files is lines.file) ∙ with_file-held bytes (rest files) lines.fits

  -- why a file was not read is why what goes on with its bytes has no answer
  pub IsReason-unread : (before after : ℕ) (reason : NoAnswer) → IsUnread told name before after reason
      → IsReason told (λ files. with_file (map.get files name) (rest files)) before after reason
  IsReason-unread before after FolderFault (inl rose) = inl rose
  IsReason-unread before after FolderFault (inr missing) =
      inr (missing.files, missing.is_told, ap (λ (found : Option (List ℕ)). with_file found (rest missing.files)) missing.absent)
  IsReason-unread before after NoMemory is = tt
  IsReason-unread before after LongFile is = λ files told.
      let long = is (told_some files told) in
      ap (λ (found : Option (List ℕ)). with_file found (rest files)) (found_in files told long.file) ∙ with_file-long long.bytes (rest files) long.long
  IsReason-unread before after (BadEvents line event_name) is = absurd is

-- a reason is one of what comes to the same, since an earlier count
pub IsReason-same : {told seen : Option Files} (outer inner : Files → Outcome) (before middle after : ℕ) (reason : NoAnswer) → seen ≡ told → before ≤ middle
    → ((files : Files) → told ≡ Some files → outer files ≡ inner files) → IsReason seen inner middle after reason → IsReason told outer before after reason
IsReason-same outer inner before middle after FolderFault seen on same (inl rose) = inl (Rose-earlier on rose)
IsReason-same outer inner before middle after FolderFault seen on same (inr none) =
    let is = sym seen ∙ none.1 in inr (none.0, is, same none.0 is ∙ none.2)
IsReason-same outer inner before middle after NoMemory seen on same is = tt
IsReason-same outer inner before middle after LongFile seen on same is = λ files told. same files told ∙ is files (seen ∙ told)
IsReason-same outer inner before middle after (BadEvents line event_name) seen on same is = λ files told. same files told ∙ is files (seen ∙ told)

-- ---- claims

module _ (told : Option Files) (language : Language) (claim : Claim) (t : ℤ) where
  abbrev by_lines : Files → List ℕ → Outcome
  by_lines files lines =
      with_events (event_file language (keeps_all_limits claim.certificate) lines) (λ events. decided language claim.prop t events files claim.certificate)

  -- an event file that was read is decided by
  pub outcome-read : (events : List PlainEvent) → HasEvents told language claim events → (files : Files) → told ≡ Some files
      → outcome_at language claim t files ≡ decided language claim.prop t events files claim.certificate
  outcome-read events has files is =
      read_on told claim.lines by_lines has.lines has.file files is
      ∙ ap (λ (r : Result (List PlainEvent) PlacedName). with_events r (λ events. decided language claim.prop t events files claim.certificate)) has.read

  -- one that is refused is why
  pub IsReason-events : (before after : ℕ) (lines : List ℕ) (fault : PlacedName) → (IsSome told → HasLines told claim.lines lines)
      → event_file language (keeps_all_limits claim.certificate) lines ≡ Err fault → IsReason told (outcome_at language claim t) before after (BadEvents fault.0 fault.1)
  IsReason-events before after lines fault has refused = λ files is.
      read_on told claim.lines by_lines lines has files is
      ∙ ap (λ (r : Result (List PlainEvent) PlacedName). with_events r (λ events. decided language claim.prop t events files claim.certificate)) refused

  -- one that was not read is why
  pub IsReason-lines : (before after : ℕ) (reason : NoAnswer) → IsUnread told claim.lines before after reason → IsReason told (outcome_at language claim t) before after reason
  IsReason-lines before after reason is = IsReason-unread told claim.lines by_lines before after reason is

-- what is decided comes to its text
decided-answer : (told : Option Files) (language : Language) (prop : Ground) (t : ℤ) (events : List PlainEvent) (certificate : Option (List ℕ)) (text : List ℕ)
    → IsDecided told language prop t events certificate text → (files : Files) → told ≡ Some files → decided language prop t events files certificate ≡ answer text
decided-answer told language prop t events None text is files told_is = ap (λ (x : List ℕ). answer x) (sym is)
decided-answer told language prop t events (Some name) text is files told_is =
    read_on told name (λ all certificate. answer (verified_text language prop t events certificate)) is.0 is.1 files told_is
    ∙ ap (λ (x : List ℕ). answer x) (sym is.2)

-- a certificate that was not read is why
pub IsReason-certificate : (told : Option Files) (language : Language) (prop : Ground) (t : ℤ) (events : List PlainEvent) (certificate : Option (List ℕ)) (name : List ℕ) (before after : ℕ)
    (reason : NoAnswer) → certificate ≡ Some name → IsUnread told name before after reason
    → IsReason told (λ files. decided language prop t events files certificate) before after reason
IsReason-certificate told language prop t events certificate name before after reason same is =
    subst (λ (c : Option (List ℕ)). IsReason told (λ files. decided language prop t events files c) before after reason) (sym same)
    (IsReason-unread told name (λ files certificate. answer (verified_text language prop t events certificate)) before after reason is)

-- ---- outcomes

-- a claim has one outcome
pub HasOutcome-same : {told : Option Files} {language : Language} {claim : Claim} {a b : Outcome} → HasOutcome told language claim a → HasOutcome told language claim b → a ≡ b
HasOutcome-same {language = language} {claim = claim} one other =
    let both = sym one.is_told ∙ other.is_told in
    let same : one.files ≡ other.files = cc in
    sym one.comes ∙ ap (λ (f : Files). claim_outcome language claim f) same ∙ other.comes

pub HasOutcome-told : {told : Option Files} {language : Language} {claim : Claim} {a : Outcome} → HasOutcome told language claim a → IsSome told
HasOutcome-told has = told_some has.files has.is_told

-- a time that is not spelt is the outcome
pub HasOutcome-no_time : {told : Option Files} {language : Language} {claim : Claim} → language.spelt claim.at ≡ None → IsSome told → HasOutcome told language claim no_time
HasOutcome-no_time {told} {language} {claim} none tells = by_folder told refl tells
  where
    by_folder : (folder : Option Files) → told ≡ folder → IsSome folder → HasOutcome told language claim no_time
    by_folder None same tells = cc
    by_folder (Some files) same tells =
        record { files = files; is_told = same; comes = ap (λ (spelt : Option ℤ). with_time spelt (λ t. outcome_at language claim t files)) none }

-- one that is spelt leads on
pub outcome-spelt : (language : Language) (claim : Claim) (t : ℤ) → language.spelt claim.at ≡ Some t → (files : Files) → claim_outcome language claim files ≡ outcome_at language claim t files
outcome-spelt language claim t spelt files = ap (λ (read : Option ℤ). with_time read (λ t. outcome_at language claim t files)) spelt

-- an answer is the outcome
pub HasOutcome-answer : {told : Option Files} {language : Language} {claim : Claim} {text : List ℕ} → IsAnswer told language claim text → IsSome told
    → HasOutcome told language claim (answer text)
HasOutcome-answer {told} {language} {claim} {text} is tells = by_folder told refl tells
  where
    by_folder : (folder : Option Files) → told ≡ folder → IsSome folder → HasOutcome told language claim (answer text)
    by_folder None same tells = cc
    by_folder (Some files) same tells = record {
      files = files;
      is_told = same;
      comes =
          outcome-spelt language claim is.t is.spelt files
          ∙ outcome-read told language claim is.t is.events is.has files same
          ∙ decided-answer told language claim.prop is.t is.events claim.certificate text is.decides files same;
    }

-- a reason with a status is the outcome
pub HasOutcome-reason : {told : Option Files} {language : Language} {claim : Claim} (outcome : Outcome)
    → ((files : Files) → told ≡ Some files → claim_outcome language claim files ≡ outcome) → IsSome told → HasOutcome told language claim outcome
HasOutcome-reason {told} {language} {claim} outcome comes tells = by_folder told refl tells
  where
    by_folder : (folder : Option Files) → told ≡ folder → IsSome folder → HasOutcome told language claim outcome
    by_folder None same tells = cc
    by_folder (Some files) same tells = record { files = files; is_told = same; comes = comes files same }
