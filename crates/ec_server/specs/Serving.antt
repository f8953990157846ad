-- How far a piece of the input has been served.
use Rattle.std.specs.Prelude.{ℕ, List}
use Rattle.ec_commands.specs.Lines.{cut_of}
use Rattle.ec_replies.specs.State.{State}
use Rattle.ec_replies.specs.Replies.{Language}
use Rattle.ec_server.specs.Answered.{AnswersLines, AnswersPart, IsServing, BreaksOff, HasQuit}
use Rattle.ec_lines.specs.FeedState.{FeedState, IsPart}
use Rattle.ec_sessions.specs.declared.handled.Handled.{Handled}
use Rattle.ec_sessions.specs.declared.handled.Handled.TheVariants.{Go, Bye, WriteFault}

module _ {K : Type 0} (stands : K → List ℕ → Type 0) (language : Language) where
  -- the feed is at the rest of the bytes taken, and their whole lines are answered
  pub record IsAt (taken : List ℕ) (state : State) (feed : FeedState) (old new : K) : Type 0 where
    pub part : IsPart feed (cut_of taken).rest
    pub serving : IsServing stands language taken state old new

  -- what a piece of the input leaves: it was served, or `quit` was in it, or the sink failed
  abbrev pub IsPieceHandled : Handled → List ℕ → State → FeedState → K → K → Type 0
  IsPieceHandled Go taken state feed old new = IsAt taken state feed old new
  IsPieceHandled Bye taken state feed old new = HasQuit stands language taken old new
  IsPieceHandled WriteFault taken state feed old new = BreaksOff stands language taken old new

  -- what the last line leaves: all lines are answered, or the sink failed within their replies
  abbrev pub IsLast : Handled → List (List ℕ) → K → K → Type 0
  IsLast Go lines old new = AnswersLines stands language lines old new
  IsLast Bye lines old new = AnswersLines stands language lines old new
  IsLast WriteFault lines old new = AnswersPart stands language lines old new
