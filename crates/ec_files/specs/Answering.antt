-- The answer of a claim, why there may be none, and what is said then.
use Rattle.std.specs.Prelude.{◌≡◌, ◌⊎◌, ℕ, List, Option, Some, IsSome}
use Rattle.ec_cert.specs.EventFile.{events_line}
use Rattle.ec_cert.specs.Verdicts.{verdict_line}
use Rattle.ec_outside.specs.Counts.{Rose}
use Rattle.ec_outside.specs.Files.{Files, IsMissing, IsTooLong}
use Rattle.ec_files.specs.declared.answering.Answer.{Answer}
use Rattle.ec_files.specs.declared.answering.Answer.TheVariants.{Written, Verified}
use Rattle.ec_files.specs.declared.no_answer.NoAnswer.{NoAnswer}
use Rattle.ec_files.specs.declared.no_answer.NoAnswer.TheVariants.{FolderFault, NoMemory, LongFile, BadEvents}
use Rattle.ec_files.specs.declared.status.Status.{Status}
use Rattle.ec_files.specs.declared.status.Status.TheVariants as status
use Rattle.ec_files.specs.Claims.{Outcome, bad_events, long_file, no_file}
use Rattle.ec_files.specs.CommandEnds.{Wrote}
use Rattle.ec_files.specs.LineFiles.{most_replayed}

-- the text that is written for an answer
abbrev pub answer_text : Answer → List ℕ
answer_text (Written text) = text.items
answer_text (Verified verdict) = verdict_line verdict

-- why a file of lines was not read
abbrev pub IsUnread : Option Files → List ℕ → ℕ → ℕ → NoAnswer → Type 0
IsUnread told name before after FolderFault = Rose before after ⊎ IsMissing told name
IsUnread told name before after NoMemory = Unit {0}
IsUnread told name before after LongFile = IsSome told → IsTooLong told name most_replayed
IsUnread told name before after (BadEvents line event_name) = ⊥

-- Why what has an outcome by the files is not answered: the folder failed or a file is missing, or memory ran out, or the outcome is of
-- another kind, where the folder tells its files.
abbrev pub IsReason : Option Files → (Files → Outcome) → ℕ → ℕ → NoAnswer → Type 0
IsReason told outcome before after FolderFault = Rose before after ⊎ ((files : Files) × (told ≡ Some files) × (outcome files ≡ no_file))
IsReason told outcome before after NoMemory = Unit {0}
IsReason told outcome before after LongFile = (files : Files) → told ≡ Some files → outcome files ≡ long_file
IsReason told outcome before after (BadEvents line event_name) = (files : Files) → told ≡ Some files → outcome files ≡ bad_events line event_name

-- the status of a claim that is not answered, and what was written: the line about the event file, where that is why; else nothing
abbrev pub IsTold : {K : Type 0} → (K → List ℕ → Type 0) → (K → ℕ) → NoAnswer → Status → K → K → Type 0
IsTold stands faults FolderFault ended old new = (ended ≡ status.FolderFault) × (new ≡ old)
IsTold stands faults NoMemory ended old new = (ended ≡ status.NoMemory) × (new ≡ old)
IsTold stands faults LongFile ended old new = (ended ≡ status.LongLines) × (new ≡ old)
IsTold stands faults (BadEvents line event_name) ended old new = (ended ≡ status.BadEvents) × Wrote stands faults old new (events_line line event_name)
