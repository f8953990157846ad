-- The limit of the input, and which inputs end before it.
use Rattle.std.specs.Prelude.{◌≡◌, ◌≤◌, ◌<◌, ◌⊎◌, ℕ, true, false, List, length, take}
use Rattle.ec_commands.specs.Lines.{whole_lines}
use Rattle.ec_replies.specs.Runs.{has_quit}
use Rattle.ec_replies.specs.Replies.{Language}
use Rattle.ec_server.specs.declared.served.TheConstants.{MOST_INPUT}

-- the most bytes of input that a run takes
abbrev pub most_input : ℕ
most_input = MOST_INPUT

-- an input that ends, or has a `quit` among its whole lines, before so many bytes are taken
abbrev pub IsShort : Language → ℕ → List ℕ → Type 0
IsShort language limit text = (length text < limit) ⊎ (has_quit language (whole_lines (take limit text)) ≡ true)

-- an input that does not, as far as so many bytes of it go
pub record IsLong (language : Language) (limit : ℕ) (text : List ℕ) : Type 0 where
  pub long : limit ≤ length text
  pub going : has_quit language (whole_lines (take limit text)) ≡ false
