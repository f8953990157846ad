-- What the status of a command says of the lines that were served, of the input and of the output.
use Rattle.std.specs.Prelude.{◌≡◌, ◌⊎◌, ℕ, List, Option, IsSome}
use Rattle.ec_terms.specs.declared.theory.Theory.{Theory}
use Rattle.ec_commands.specs.Lines.{lines_of}
use Rattle.ec_outside.specs.Counts.{Rose}
use Rattle.ec_outside.specs.Files.{Files}
use Rattle.ec_replies.specs.Replies.{Language}
use Rattle.ec_files.specs.declared.status.Status.{Status}
use Rattle.ec_files.specs.declared.status.Status.TheVariants as status
use Rattle.ec_files.specs.CommandEnds.{SaysLine, SaysUnread, WithTheory}
use Rattle.ec_files.specs.Languages.{language_of}
use Rattle.ec_files.specs.LineFiles.{HasLines}
use Rattle.ec_server.specs.Answered.{AnswersLines, AnswersPart}
use Rattle.ec_server.specs.Ending.{SaysServed}
use Rattle.ec_server.specs.InputLimits.{most_input}
use Rattle.ec_server.specs.Soaking.{IsSoakLine}

module _ {K : Type 0} (stands : K → List ℕ → Type 0) (faults : K → ℕ) (old new : K) where
  -- the line that sums up a run over generated lines was written
  abbrev pub SaysSoaked : ℕ → ℕ → Status → Type 0
  SaysSoaked lines seed ended = SaysLine stands faults old new (IsSoakLine lines seed) ended

module _ {K : Type 0} (stands : K → List ℕ → Type 0) (faults : K → ℕ) (language : Language) (old new : K) where
  -- the lines of bytes were answered, and no call failed; or the sink failed within the replies; or memory ran out first; no other status comes
  abbrev pub SaysBytes : List ℕ → Status → Type 0
  SaysBytes bytes status.Done = AnswersLines stands language (lines_of bytes) old new × (faults new ≡ faults old)
  SaysBytes bytes status.NoShape = ⊥
  SaysBytes bytes status.BadTheory = ⊥
  SaysBytes bytes status.ReadFault = ⊥
  SaysBytes bytes status.WriteFault = Rose (faults old) (faults new) × AnswersPart stands language (lines_of bytes) old new
  SaysBytes bytes status.NoMemory = new ≡ old
  SaysBytes bytes status.FolderFault = ⊥
  SaysBytes bytes status.LimitReached = ⊥
  SaysBytes bytes status.LongLines = ⊥
  SaysBytes bytes status.BadEvents = ⊥

module _ {K : Type 0} (stands : K → List ℕ → Type 0) (faults : K → ℕ) (told : Option Files) (name : List ℕ) (before after : ℕ) (old new : K) where
  -- The status says this of the lines in a file, where the folder tells its files. Or the file was not read.
  abbrev pub SaysReplayed : Theory → Status → Type 0
  SaysReplayed theory ended =
      ((bytes : List ℕ) × (IsSome told → HasLines told name bytes) × SaysBytes stands faults (language_of theory) old new bytes ended) ⊎ SaysUnread stands faults told name before after old new ended

module _ {K : Type 0} (stands : K → List ℕ → Type 0) (faults : K → ℕ) (told : Option Files) (name lines : List ℕ) (before after : ℕ) (old new : K) where
  -- the lines of a file were served with a theory
  abbrev pub HasReplayed : Status → Type 0
  HasReplayed ended = WithTheory stands faults told name before after old new (SaysReplayed stands faults told lines before after old new) (Unit {0}) ended

module _ {S K : Type 0} (left : S → Option (List ℕ)) (read_faults : S → ℕ) (stands : K → List ℕ → Type 0) (write_faults : K → ℕ) (told : Option Files) (name : List ℕ)
    (before after : ℕ) (input_before input : S) (output_before output : K) where
  -- an input was served with a theory; or there is none, and nothing was taken
  abbrev pub HasServed : Status → Type 0
  HasServed ended =
      WithTheory stands write_faults told name before after output_before output
      (λ theory served. SaysServed left read_faults stands write_faults (language_of theory) most_input input_before input output_before output served) (input ≡ input_before) ended
