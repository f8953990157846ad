-- What the status of a run says that writes a certificate or verifies one.
use Rattle.std.specs.Prelude.{◌≡◌, ◌⊎◌, ℕ, List, Option, None, IsSome}
use Rattle.ec_cert.specs.declared.event_fault.EventName.{EventName}
use Rattle.ec_cert.specs.EventFile.{events_line}
use Rattle.ec_outside.specs.Counts.{Rose}
use Rattle.ec_outside.specs.Files.{Files}
use Rattle.ec_replies.specs.Replies.{Language}
use Rattle.ec_files.specs.declared.status.Status.{Status}
use Rattle.ec_files.specs.declared.status.Status.TheVariants as status
use Rattle.ec_files.specs.Claims.{Claim, HasOutcome, IsAnswer, bad_events, long_file, no_file}
use Rattle.ec_files.specs.CommandEnds.{SaysLine, WithTheory, Wrote}
use Rattle.ec_files.specs.Languages.{language_of}
use Rattle.ec_files.specs.Words.{usage_line}

module _ {K : Type 0} (stands : K → List ℕ → Type 0) (faults : K → ℕ) (told : Option Files) (language : Language) (claim : Claim) (before after : ℕ) (old new : K) where
  -- a line of the event file is refused, where the folder tells its files, and the line about it was written
  pub record IsToldEvents : Type 0 where
    pub line : ℕ
    pub name : EventName
    pub why : IsSome told → HasOutcome told language claim (bad_events line name)
    pub wrote : Wrote stands faults old new (events_line line name)

  -- the claim is not answered: the line that says so was written, or nothing; no other status comes
  abbrev pub SaysUnanswered : Status → Type 0
  SaysUnanswered status.Done = ⊥
  SaysUnanswered status.NoShape = (language.spelt claim.at ≡ None) × Wrote stands faults old new usage_line
  SaysUnanswered status.BadTheory = ⊥
  SaysUnanswered status.ReadFault = ⊥
  SaysUnanswered status.WriteFault = ⊥
  SaysUnanswered status.NoMemory = new ≡ old
  SaysUnanswered status.FolderFault = (new ≡ old) × (Rose before after ⊎ HasOutcome told language claim no_file)
  SaysUnanswered status.LimitReached = ⊥
  SaysUnanswered status.LongLines = (new ≡ old) × (IsSome told → HasOutcome told language claim long_file)
  SaysUnanswered status.BadEvents = IsToldEvents

  -- the claim is answered, or it is not
  abbrev pub SaysCertified : Status → Type 0
  SaysCertified ended = SaysLine stands faults old new (IsAnswer told language claim) ended ⊎ SaysUnanswered ended

module _ {K : Type 0} (stands : K → List ℕ → Type 0) (faults : K → ℕ) (told : Option Files) (claim : Claim) (before after : ℕ) (old new : K) where
  -- a claim was decided by the theory that it names
  abbrev pub HasCertified : Status → Type 0
  HasCertified ended =
      WithTheory stands faults told claim.theory before after old new
      (λ theory said. SaysCertified stands faults told (language_of theory) claim before after old new said) (Unit {0}) ended
