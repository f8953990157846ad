-- Claims that a property holds at a time: what one names, and what it comes to by the files of a folder.
use Rattle.std.specs.Prelude.{◌≡◌, ℕ, ℤ, Bool, true, false, nat_lt, if◌then◌else◌, List, Option, Some, None, IsSome, Result, Ok, Err, length}
use Rattle.std.specs.FinMap as map
use Rattle.ec_terms.specs.declared.ground.Ground.{Ground}
use Rattle.ec_terms.specs.declared.theory.Theory.{Theory}
use Rattle.ec_axioms.specs.Calculus.{PlainEvent, holds_at}
use Rattle.ec_outside.specs.Files.{Files}
use Rattle.ec_replies.specs.Replies.{Language}
use Rattle.ec_cone.specs.Label.{label_text}
use Rattle.ec_cert.specs.declared.event_fault.EventName.{EventName}
use Rattle.ec_cert.specs.EventFile.{PlacedName, event_file}
use Rattle.ec_cert.specs.Verdicts.{proof_text, verdict_line, verdict_of}
use Rattle.ec_files.specs.Languages.{language_of}
use Rattle.ec_files.specs.LineFiles.{HasLines, most_replayed}
use Rattle.ec_files.specs.TheoryFiles.{HasTheory}

-- That a property holds at a time, by a theory and an event file: the names of both files. A certificate of it is to be written, or
-- the one in the file of that name is to be verified.
pub record Claim : Type 0 where
  pub theory : List ℕ
  pub lines : List ℕ
  pub certificate : Option (List ℕ)
  pub prop : Ground
  pub at : List ℕ

-- all limits are kept where a certificate is written; where one is verified, mentions and links are not counted
abbrev pub keeps_all_limits : Option (List ℕ) → Bool
keeps_all_limits None = true
keeps_all_limits (Some name) = false

-- ---- what a claim comes to

-- what a claim comes to, under an accepted theory
pub data Outcome : Type 0 where
  -- its time is none of the theory
  no_time : Outcome
  -- a file that it names is missing, or too long
  no_file : Outcome
  long_file : Outcome
  -- a line of its event file is refused
  bad_events : ℕ → EventName → Outcome
  -- this text answers it
  answer : List ℕ → Outcome

-- a time that is spelt, or none
abbrev pub with_time : Option ℤ → (ℤ → Outcome) → Outcome
with_time None rest = no_time
with_time (Some t) rest = rest t

-- a file that is there and not too long, or not
abbrev pub with_file : Option (List ℕ) → (List ℕ → Outcome) → Outcome
with_file None rest = no_file
with_file (Some bytes) rest = if nat_lt most_replayed (length bytes) then long_file else rest bytes

-- events, or the line that is refused
abbrev pub with_events : Result (List PlainEvent) PlacedName → (List PlainEvent → Outcome) → Outcome
with_events (Ok events) rest = rest events
with_events (Err fault) rest = bad_events fault.0 fault.1

module _ (language : Language) (prop : Ground) (t : ℤ) (events : List PlainEvent) where
  -- what is written as a certificate of a property, by the events
  abbrev pub written_text : List ℕ
  written_text = proof_text language.theory events language.canon prop t

  -- what is said of a certificate of it, by the events
  abbrev pub verified_text : List ℕ → List ℕ
  verified_text certificate =
      verdict_line (verdict_of certificate (label_text language.theory events language.canon prop t) (holds_at language.theory events prop t))

  -- a certificate is written, or the one in a file is verified
  abbrev pub decided : Files → Option (List ℕ) → Outcome
  decided files None = answer written_text
  decided files (Some name) = with_file (map.get files name) (λ certificate. answer (verified_text certificate))

-- the event file of a claim is read, and then the claim is decided
abbrev pub outcome_at : Language → Claim → ℤ → Files → Outcome
outcome_at language claim t files =
    with_file (map.get files claim.lines)
    (λ lines. with_events (event_file language (keeps_all_limits claim.certificate) lines)
    (λ events. decided language claim.prop t events files claim.certificate))

-- What a claim comes to, by the files: first its time is read, then its event file, then the certificate, if there is one.
abbrev pub claim_outcome : Language → Claim → Files → Outcome
claim_outcome language claim files = with_time (language.spelt claim.at) (λ t. outcome_at language claim t files)

-- ---- by a folder

-- the folder tells its files, and by these a claim comes to this
pub record HasOutcome (told : Option Files) (language : Language) (claim : Claim) (outcome : Outcome) : Type 0 where
  pub files : Files
  pub is_told : told ≡ Some files
  pub comes : claim_outcome language claim files ≡ outcome

-- a certificate is written, or the one in a file is verified, which has these bytes where the folder tells its files
abbrev pub IsDecided : Option Files → Language → Ground → ℤ → List PlainEvent → Option (List ℕ) → List ℕ → Type 0
IsDecided told language prop t events None text = text ≡ written_text language prop t events
IsDecided told language prop t events (Some name) text =
    (certificate : List ℕ) × (IsSome told → HasLines told name certificate) × (text ≡ verified_text language prop t events certificate)

-- lines are an event file with these events, and stand in the file of a claim, where the folder tells its files
pub record HasEvents (told : Option Files) (language : Language) (claim : Claim) (events : List PlainEvent) : Type 0 where
  pub lines : List ℕ
  pub file : IsSome told → HasLines told claim.lines lines
  pub read : event_file language (keeps_all_limits claim.certificate) lines ≡ Ok events

-- a text answers a claim: its time is spelt, its event file is read, and then this is decided
pub record IsAnswer (told : Option Files) (language : Language) (claim : Claim) (text : List ℕ) : Type 0 where
  pub t : ℤ
  pub spelt : language.spelt claim.at ≡ Some t
  pub events : List PlainEvent
  pub has : HasEvents told language claim events
  pub decides : IsDecided told language claim.prop t events claim.certificate text

-- A claim is put by a theory, a time and events: those of the files and the word that it names, where the folder tells its files.
pub record IsPut (told : Option Files) (claim : Claim) (theory : Theory) (t : ℤ) (events : List PlainEvent) : Type 0 where
  pub accepted : IsSome told → HasTheory told claim.theory theory
  pub spelt : (language_of theory).spelt claim.at ≡ Some t
  pub has : HasEvents told (language_of theory) claim events
