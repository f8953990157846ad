-- Which lines a `Line` shows.
use Rattle.std.specs.Prelude.{◌≡◌, ℕ, List, true, false}
use Rattle.ec_commands.specs.Lines.{is_long}
use Rattle.ec_lines.specs.declared.line.Line.{Line}
use Rattle.ec_lines.specs.declared.line.Line.TheVariants.{Text, Long}

-- bytes show the line that they are, which is not long; `Long` shows every line that is long
abbrev pub ShowsLine : Line → List ℕ → Type 0
ShowsLine (Text bytes) line = (bytes.now ≡ line) × (is_long line ≡ false)
ShowsLine Long line = is_long line ≡ true

-- what holds of the bytes of a line, where it is told by its bytes
abbrev pub IfText : Line → (List ℕ → Type 0) → Type 0
IfText (Text bytes) P = P bytes.now
IfText Long P = Unit {0}
