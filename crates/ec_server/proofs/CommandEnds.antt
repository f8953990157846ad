-- Which status a command has that serves lines, where nothing fails.
use Rattle.std.proofs.Common.{◌≡◌, ◌⊎◌, ℕ, List, Option, Some, IsSome, refl, inl, inr}
use Rattle.ec_terms.specs.declared.theory.Theory.{Theory}
use Rattle.ec_outside.specs.Counts.{Rose}
use Rattle.ec_outside.specs.Files.{Files, IsTooLong}
use Rattle.ec_files.specs.declared.status.Status.{Status}
use Rattle.ec_files.specs.declared.status.Status.TheVariants as status
use Rattle.ec_files.specs.CommandEnds.{SaysUnread}
use Rattle.ec_files.specs.Languages.{language_of}
use Rattle.ec_files.specs.LineFiles.{HasLines, most_replayed}
use Rattle.ec_server.specs.CommandEnds.{SaysBytes, SaysReplayed}
use Rattle.ec_server.specs.Ending.{SaysServed}
use Rattle.ec_server.specs.InputLimits.{most_input, IsShort, IsLong}
use Rattle.ec_files.proofs.CommandEnds.{IsInputStatus, IsUntouched, not_unread}
use Rattle.ec_files.proofs.StatusCodes.{by_either, second_of_two}
use Rattle.ec_files.proofs.TheoryTexts.{HasFile-not_long, HasFile-told}
use Rattle.ec_server.proofs.WholeInput.{long_not_done, short_not_limit}

-- with what one line that is no answer was written
abbrev pub IsOneLine : Status → Type 0
IsOneLine status.NoShape = Unit {0}
IsOneLine status.BadTheory = Unit {0}
IsOneLine status.BadEvents = Unit {0}
IsOneLine s = ⊥

module _ {K : Type 0} (stands : K → List ℕ → Type 0) (faults : K → ℕ) (told : Option Files) (name : List ℕ) (before after : ℕ) (old new : K) (theory : Theory) where
  pub never_replayed : SaysReplayed stands faults told name before after old new theory status.BadTheory → ⊥
  never_replayed (inl read) = read.2
  never_replayed (inr unread) = unread

  pub no_replay : (s : Status) → IsInputStatus s → SaysReplayed stands faults told name before after old new theory s → ⊥
  no_replay status.ReadFault input_status says = by_either says (λ read. read.2) (λ unread. unread)
  no_replay status.LimitReached input_status says = by_either says (λ read. read.2) (λ unread. unread)
  no_replay s input_status says = absurd input_status

  -- a file of lines that is too long is found so
  pub replay_long : ¬ Rose before after → IsTooLong told name most_replayed → (s : Status) → SaysReplayed stands faults told name before after old new theory s → (s ≡ status.LongLines) ⊎ (s ≡ status.NoMemory)
  replay_long fine long s (inl read) = let has = read.1 (HasFile-told long.file) in absurd (HasFile-not_long has.file has.fits long)
  replay_long fine long s (inr unread) = only s unread
    where
      only : (s : Status) → SaysUnread stands faults told name before after old new s → (s ≡ status.LongLines) ⊎ (s ≡ status.NoMemory)
      only status.Done says = absurd says
      only status.NoShape says = absurd says
      only status.BadTheory says = absurd says
      only status.ReadFault says = absurd says
      only status.WriteFault says = absurd says
      only status.NoMemory says = inr refl
      only status.FolderFault says = absurd (not_unread long.file fine says.1)
      only status.LimitReached says = absurd says
      only status.LongLines says = inl refl
      only status.BadEvents says = absurd says

  pub same_replay : (s : Status) → IsUntouched s → SaysReplayed stands faults told name before after old new theory s → new ≡ old
  same_replay status.NoMemory untouched says = by_either says (λ read. read.2) (λ unread. unread)
  same_replay status.FolderFault untouched says = (second_of_two says (λ read. read.2)).0
  same_replay status.LongLines untouched says = (second_of_two says (λ read. read.2)).0
  same_replay s untouched says = absurd untouched

module _ {S K : Type 0} (left : S → Option (List ℕ)) (read_faults : S → ℕ) (stands : K → List ℕ → Type 0) (write_faults : K → ℕ) (theory : Theory)
    (input_before input : S) (output_before output : K) where
  pub same_serve : (s : Status) → IsUntouched s → SaysServed left read_faults stands write_faults (language_of theory) most_input input_before input output_before output s
      → (output ≡ output_before) × (input ≡ input_before)
  same_serve status.NoMemory untouched says = says
  same_serve status.FolderFault untouched says = absurd says
  same_serve status.LongLines untouched says = absurd says
  same_serve s untouched says = absurd untouched

  -- no line about the words, a theory or an event file is written by the serving of an input
  pub never_served : (s : Status) → IsOneLine s → SaysServed left read_faults stands write_faults (language_of theory) most_input input_before input output_before output s → ⊥
  never_served status.NoShape one_line says = says
  never_served status.BadTheory one_line says = says
  never_served status.BadEvents one_line says = says
  never_served s one_line says = absurd one_line

module _ {K : Type 0} (stands : K → List ℕ → Type 0) (faults : K → ℕ) (old new : K) (writes : ¬ Rose (faults old) (faults new)) where
  module _ (told : Option Files) (name : List ℕ) (before after : ℕ) (theory : Theory) (fine : ¬ Rose before after) where
    -- the lines of a file are answered where it is there, not too long, and nothing fails
    pub replay_done : (bytes : List ℕ) → HasLines told name bytes → (s : Status) → SaysReplayed stands faults told name before after old new theory s → (s ≡ status.Done) ⊎ (s ≡ status.NoMemory)
    replay_done bytes has s (inl read) = answered s read.2
      where
        answered : (s : Status) → SaysBytes stands faults (language_of theory) old new read.0 s → (s ≡ status.Done) ⊎ (s ≡ status.NoMemory)
        answered status.Done says = inl refl
        answered status.NoShape says = absurd says
        answered status.BadTheory says = absurd says
        answered status.ReadFault says = absurd says
        answered status.WriteFault says = absurd (writes says.0)
        answered status.NoMemory says = inr refl
        answered status.FolderFault says = absurd says
        answered status.LimitReached says = absurd says
        answered status.LongLines says = absurd says
        answered status.BadEvents says = absurd says
    replay_done bytes has s (inr unread) = only s unread
      where
        only : (s : Status) → SaysUnread stands faults told name before after old new s → (s ≡ status.Done) ⊎ (s ≡ status.NoMemory)
        only status.Done says = absurd says
        only status.NoShape says = absurd says
        only status.BadTheory says = absurd says
        only status.ReadFault says = absurd says
        only status.WriteFault says = absurd says
        only status.NoMemory says = inr refl
        only status.FolderFault says = absurd (not_unread has.file fine says.1)
        only status.LimitReached says = absurd says
        only status.LongLines says = absurd (HasFile-not_long has.file has.fits (says.1 (HasFile-told has.file)))
        only status.BadEvents says = absurd says

module _ {S K : Type 0} (left : S → Option (List ℕ)) (read_faults : S → ℕ) (stands : K → List ℕ → Type 0) (write_faults : K → ℕ) (theory : Theory) (text : List ℕ)
    (input_before input : S) (output_before output : K) (is_text : left input_before ≡ Some text)
    (reads : ¬ Rose (read_faults input_before) (read_faults input)) (writes : ¬ Rose (write_faults output_before) (write_faults output)) where
  abbrev Serving : Status → Type 0
  Serving s = SaysServed left read_faults stands write_faults (language_of theory) most_input input_before input output_before output s

  -- a short input is read to its end or to `quit`
  pub done_if_short : IsShort (language_of theory) most_input text → (s : Status) → Serving s → (s ≡ status.Done) ⊎ (s ≡ status.NoMemory)
  done_if_short short status.Done says = inl refl
  done_if_short short status.NoShape says = absurd says
  done_if_short short status.BadTheory says = absurd says
  done_if_short short status.ReadFault says = absurd (reads (says.read_fault refl))
  done_if_short short status.WriteFault says = absurd (writes (says.write_fault refl))
  done_if_short short status.NoMemory says = inr refl
  done_if_short short status.FolderFault says = absurd says
  done_if_short short status.LimitReached says = absurd (short_not_limit says text is_text short)
  done_if_short short status.LongLines says = absurd says
  done_if_short short status.BadEvents says = absurd says

  -- a long one up to the limit
  pub limit_if_long : IsLong (language_of theory) most_input text → (s : Status) → Serving s → (s ≡ status.LimitReached) ⊎ (s ≡ status.NoMemory)
  limit_if_long long status.Done says = absurd (long_not_done says text is_text long.long long.going)
  limit_if_long long status.NoShape says = absurd says
  limit_if_long long status.BadTheory says = absurd says
  limit_if_long long status.ReadFault says = absurd (reads (says.read_fault refl))
  limit_if_long long status.WriteFault says = absurd (writes (says.write_fault refl))
  limit_if_long long status.NoMemory says = inr refl
  limit_if_long long status.FolderFault says = absurd says
  limit_if_long long status.LimitReached says = inl refl
  limit_if_long long status.LongLines says = absurd says
  limit_if_long long status.BadEvents says = absurd says
