-- How one line is handled.
use Rattle.std.specs.Prelude.{◌≡◌, ℕ, Bool, true, false, List}
use Rattle.ec_outside.specs.Streams.{Appended, AppendedPart}
use Rattle.ec_replies.specs.State.{State}
use Rattle.ec_replies.specs.Replies.{Language}
use Rattle.ec_replies.specs.Runs.{Step, is_quit}
use Rattle.ec_sessions.specs.declared.handled.Handled.{Handled}
use Rattle.ec_sessions.specs.declared.handled.Handled.TheVariants.{Go, Bye, WriteFault}

module _ {K : Type 0} (stands : K → List ℕ → Type 0) (language : Language) where
  -- a line made a step whose whole text was appended, and it was `quit` or not, as `quits` says
  pub record IsAnswered (quits : Bool) (line : List ℕ) (before after : State) (old new : K) : Type 0 where
    pub text : List ℕ
    pub step : Step language before line text after
    pub quit : is_quit language line ≡ quits
    pub appended : Appended stands old new text

  -- a line made a step, and a first part of its text was appended
  pub record IsCutShort (line : List ℕ) (before after : State) (old new : K) : Type 0 where
    pub text : List ℕ
    pub step : Step language before line text after
    pub part : AppendedPart stands old new text

  -- what the handling of a line says
  abbrev pub IsHandled : Handled → List ℕ → State → State → K → K → Type 0
  IsHandled Go line before after old new = IsAnswered false line before after old new
  IsHandled Bye line before after old new = IsAnswered true line before after old new
  IsHandled WriteFault line before after old new = IsCutShort line before after old new
