-- What a feed has taken of the line that it is at, and which line it holds ready.
use Rattle.std.specs.Prelude.{◌≡◌, ℕ, ◌+◌, ◌<◌, Bool, true, false, List, [], ◌∷◌, ◌++◌, length}
use Rattle.ec_commands.specs.Lines.{cut_of, whole_lines, lines_of, longest_line, is_long}

-- what is kept of a line, whether the line has too many bytes to keep, and whether it is ready
pub record FeedState : Type 0 where
  pub kept : List ℕ
  pub is_long : Bool
  pub is_ready : Bool

-- no line is ready, and the bytes of the line taken so far are these: they are kept, or they are
-- more than a line has with a carriage return behind it
pub record IsPart (feed : FeedState) (bytes : List ℕ) : Type 0 where
  pub not_ready : feed.is_ready ≡ false
  pub kept : feed.is_long ≡ false → feed.kept ≡ bytes
  pub long : feed.is_long ≡ true → longest_line + 1 < length bytes

-- the line that is ready is this one: its bytes are kept and it is not long, or it is long
pub record IsReady (feed : FeedState) (line : List ℕ) : Type 0 where
  pub is_ready : feed.is_ready ≡ true
  pub same_length : feed.is_long ≡ is_long line
  pub kept : feed.is_long ≡ false → feed.kept ≡ line

-- what is left at the end of the stream: no line, or the line that these bytes are
abbrev pub IsEnded : FeedState → List ℕ → Type 0
IsEnded feed [] = IsPart feed []
IsEnded feed (b ∷ bytes) = IsReady feed (b ∷ bytes)

-- A feed that was at the rest of a stream has taken more of it. Where no line is ready it is at the rest of the
-- longer stream, which has the same whole lines; the line that is ready is the next whole line, and no rest follows it.
abbrev pub Advances : Bool → FeedState → List ℕ → List ℕ → Type 0
Advances false feed stream longer = IsPart feed (cut_of longer).rest × (whole_lines longer ≡ whole_lines stream)
Advances true feed stream longer =
    (line : List ℕ) × IsReady feed line × (whole_lines longer ≡ whole_lines stream ++ line ∷ []) × ((cut_of longer).rest ≡ [])

-- A feed that was at the rest of a stream was told that the stream has ended. Where no line is ready the lines of the
-- stream are its whole lines; the line that is ready is the one behind them.
abbrev pub Finishes : Bool → FeedState → List ℕ → Type 0
Finishes false feed stream = IsPart feed [] × (lines_of stream ≡ whole_lines stream)
Finishes true feed stream = (line : List ℕ) × IsReady feed line × (lines_of stream ≡ whole_lines stream ++ line ∷ [])
