-- What is known of the bytes taken and of the output where the serving of an input ended, by the way it ended and by its status.
use Rattle.std.specs.Prelude.{◌≡◌, ◌≤◌, ◌<◌, ◌⊎◌, ℕ, false, List, length, Option}
use Rattle.ec_commands.specs.Lines.{whole_lines, lines_of}
use Rattle.ec_replies.specs.Runs.{has_quit}
use Rattle.ec_replies.specs.Replies.{Language}
use Rattle.ec_server.specs.Answered.{AnswersLines, AnswersPart, HasQuit}
use Rattle.ec_outside.specs.Counts.{Rose}
use Rattle.ec_outside.specs.Streams.{IsAtEnd, Took}
use Rattle.ec_server.specs.declared.ending.Ending.{Ending}
use Rattle.ec_server.specs.declared.ending.Ending.TheVariants.{End, Quit, Limit, ReadFault, WriteFault}
use Rattle.ec_files.specs.declared.status.Status.{Status}
use Rattle.ec_files.specs.declared.status.Status.TheVariants as status

module _ {K : Type 0} (stands : K → List ℕ → Type 0) (language : Language) where
  -- the whole lines of the bytes taken are answered, and `quit` is not among them
  pub record GoesOn (taken : List ℕ) (old new : K) : Type 0 where
    pub answers : AnswersLines stands language (whole_lines taken) old new
    pub going : has_quit language (whole_lines taken) ≡ false

  -- nothing is left, the limit was not reached, and all lines are answered
  pub record IsFinished (limit : ℕ) (left : Option (List ℕ)) (taken : List ℕ) (old new : K) : Type 0 where
    pub at_end : IsAtEnd left
    pub below : length taken < limit
    pub answers : AnswersLines stands language (lines_of taken) old new

  -- the sink failed within the replies to the whole lines of what was taken; or, where nothing is left, within those to all lines
  abbrev pub IsBroken : Option (List ℕ) → List ℕ → K → K → Type 0
  IsBroken left taken old new = AnswersPart stands language (whole_lines taken) old new ⊎ (IsAtEnd left × AnswersPart stands language (lines_of taken) old new)

  -- what an ending says of the bytes taken and of the sink
  abbrev pub SaysEnding : Ending → ℕ → Option (List ℕ) → List ℕ → K → K → Type 0
  SaysEnding End limit left taken old new = IsFinished limit left taken old new
  SaysEnding Quit limit left taken old new = HasQuit stands language taken old new
  SaysEnding Limit limit left taken old new = GoesOn taken old new × (length taken ≡ limit)
  SaysEnding ReadFault limit left taken old new = GoesOn taken old new
  SaysEnding WriteFault limit left taken old new = IsBroken left taken old new

  -- so many bytes at most were taken, and the ending says this of them
  pub record IsEnding (ending : Ending) (limit : ℕ) (left : Option (List ℕ)) (taken : List ℕ) (old new : K) : Type 0 where
    pub within : length taken ≤ limit
    pub says : SaysEnding ending limit left taken old new

module _ {S K : Type 0} (left : S → Option (List ℕ)) (read_faults : S → ℕ) (stands : K → List ℕ → Type 0) (write_faults : K → ℕ) (language : Language) (limit : ℕ)
    (input_before input : S) (output_before output : K) where
  -- bytes were taken from the input, of which the ending says this; where a call failed, its fault was counted, and the ending tells it
  pub record HasEnded (ending : Ending) : Type 0 where
    pub taken : List ℕ
    pub took : Took (left input_before) (left input) taken
    pub ended : IsEnding stands language ending limit (left input) taken output_before output
    pub read_fault : ending ≡ ReadFault → Rose (read_faults input_before) (read_faults input)
    pub write_fault : ending ≡ WriteFault → Rose (write_faults output_before) (write_faults output)
    pub read_told : (ending ≡ ReadFault) ⊎ (read_faults input ≡ read_faults input_before)
    pub write_told : (ending ≡ WriteFault) ⊎ (write_faults output ≡ write_faults output_before)

  -- what the status of a serving says: how it ended, or that nothing was taken and written; no other status comes
  abbrev pub SaysServed : Status → Type 0
  SaysServed status.Done = HasEnded End ⊎ HasEnded Quit
  SaysServed status.NoShape = ⊥
  SaysServed status.BadTheory = ⊥
  SaysServed status.ReadFault = HasEnded ReadFault
  SaysServed status.WriteFault = HasEnded WriteFault
  SaysServed status.NoMemory = (output ≡ output_before) × (input ≡ input_before)
  SaysServed status.FolderFault = ⊥
  SaysServed status.LimitReached = HasEnded Limit
  SaysServed status.LongLines = ⊥
  SaysServed status.BadEvents = ⊥

-- the status of a run whose serving ended so
unfoldable pub status_of : Ending → Status
status_of End = status.Done
status_of Quit = status.Done
status_of Limit = status.LimitReached
status_of ReadFault = status.ReadFault
status_of WriteFault = status.WriteFault
