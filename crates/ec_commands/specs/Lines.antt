-- How an input is cut into lines, and a line into words.
use Rattle.std.specs.Prelude.{ℕ, Bool, true, false, ◌||◌, ◌==◌, if◌then◌else◌, nat_lt, List, [], ◌∷◌, ◌++◌, map, filter, length}
use Rattle.ec_terms.specs.Pieces.{pieces_between}
use Rattle.ec_commands.specs.declared.limits.TheConstants.{LONGEST_LINE}

-- the byte that ends a line, and the one that may stand before it
abbrev pub line_feed : ℕ
line_feed = 10

abbrev pub carriage_return : ℕ
carriage_return = 13

-- a text cut at its line ends: the ended parts, each without its line end, and what stands after the last line end
pub record CutText : Type 0 where
  pub ended : List (List ℕ)
  pub rest : List ℕ

-- a byte in front of a cut text: in front of its first ended part, or of the rest where no part is ended
abbrev pub before_parts : ℕ → List (List ℕ) → List ℕ → CutText
before_parts b [] rest = record { ended = []; rest = b ∷ rest }
before_parts b (part ∷ parts) rest = record { ended = (b ∷ part) ∷ parts; rest = rest }

-- a text cut at its line ends
unfoldable pub cut_of : List ℕ → CutText
cut_of [] = record { ended = []; rest = [] }
cut_of (b ∷ bytes) =
    let cut = cut_of bytes in
    if b == line_feed then record { ended = [] ∷ cut.ended; rest = cut.rest } else before_parts b cut.ended cut.rest

-- a part without one carriage return at its end
unfoldable pub without_return : List ℕ → List ℕ
without_return [] = []
without_return (b ∷ bytes) = without_last b bytes (without_return bytes)
  where
    without_last : ℕ → List ℕ → List ℕ → List ℕ
    without_last b [] rest = if b == carriage_return then [] else b ∷ []
    without_last b (c ∷ bytes) rest = b ∷ rest

-- the whole lines of a text: the parts that a line end closes, each without one carriage return before it
unfoldable pub whole_lines : List ℕ → List (List ℕ)
whole_lines bytes = map without_return (cut_of bytes).ended

-- a last line without its line end, as it is, where there is one
unfoldable pub last_line : List ℕ → List (List ℕ)
last_line [] = []
last_line (b ∷ rest) = (b ∷ rest) ∷ []

-- the lines of an input: the whole ones and what stands after the last line end
unfoldable pub lines_of : List ℕ → List (List ℕ)
lines_of bytes = whole_lines bytes ++ last_line (cut_of bytes).rest

-- the most bytes that a line has without its line end
abbrev pub longest_line : ℕ
longest_line = LONGEST_LINE

-- a line has more bytes than that
unfoldable pub is_long : List ℕ → Bool
is_long line = nat_lt longest_line (length line)

-- a space or a tab
unfoldable pub is_blank : ℕ → Bool
is_blank b = b == 32 || b == 9

-- the bytes are not none
abbrev pub is_word : List ℕ → Bool
is_word [] = false
is_word (b ∷ bytes) = true

-- the words of a line: its longest runs of bytes other than spaces and tabs
unfoldable pub words_of : List ℕ → List (List ℕ)
words_of line = filter is_word (pieces_between is_blank line)
