-- What has been served of an input: the replies to its lines, from no event on.
use Rattle.std.specs.Prelude.{◌≡◌, ℕ, true, false, List, ◌++◌}
use Rattle.ec_commands.specs.Lines.{whole_lines}
use Rattle.ec_outside.specs.Streams.{Appended, AppendedPart}
use Rattle.ec_replies.specs.State.{State, empty_state}
use Rattle.ec_replies.specs.Replies.{Language}
use Rattle.ec_replies.specs.Runs.{Run, IsRun, has_quit}

module _ {K : Type 0} (stands : K → List ℕ → Type 0) (language : Language) where
  -- what was appended is the replies of a run over the lines
  pub record AnswersLines (lines : List (List ℕ)) (old new : K) : Type 0 where
    pub out : List ℕ
    pub run : IsRun language lines out
    pub appended : Appended stands old new out

  -- what was appended is a first part of the replies of a run over the lines
  pub record AnswersPart (lines : List (List ℕ)) (old new : K) : Type 0 where
    pub out : List ℕ
    pub run : IsRun language lines out
    pub part : AppendedPart stands old new out

  -- the whole lines of the bytes taken so far are answered, none of them was `quit`, and they left the state
  pub record IsServing (taken : List ℕ) (state : State) (old new : K) : Type 0 where
    pub out : List ℕ
    pub run : Run language empty_state (whole_lines taken) out state
    pub going : has_quit language (whole_lines taken) ≡ false
    pub appended : Appended stands old new out

  -- the sink failed within the replies to the whole lines of a first part of the bytes taken
  pub record BreaksOff (taken : List ℕ) (old new : K) : Type 0 where
    pub done : List ℕ
    pub rest : List ℕ
    pub split : taken ≡ done ++ rest
    pub part : AnswersPart (whole_lines done) old new

  -- the whole lines of a first part of the bytes taken are answered, and `quit` is among them
  pub record HasQuit (taken : List ℕ) (old new : K) : Type 0 where
    pub done : List ℕ
    pub rest : List ℕ
    pub split : taken ≡ done ++ rest
    pub quit : has_quit language (whole_lines done) ≡ true
    pub answers : AnswersLines (whole_lines done) old new
