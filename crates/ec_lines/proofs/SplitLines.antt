-- The first line of a text and the lines behind it.
use Rattle.std.proofs.Common.{◌≡◌, ℕ, ◌+◌, ◌<◌, List, [], ◌∷◌, ◌++◌, length, map, take, drop, refl, sym, ap, ◌∙◌, arith, append-nil, append_assoc, take-append-drop}
use Rattle.ec_commands.specs.Lines.{CutText, line_feed, cut_of, without_return, whole_lines, last_line, lines_of}
use Rattle.ec_lines.proofs.CutLines.{HasNoLineEnd, LineEndAt, HasNoLineEnd-take, take-line, cut_of-append, cut_of-none, behind}

-- the lines of a text by its parts
abbrev lines_by : CutText → List (List ℕ)
lines_by cut = map without_return cut.ended ++ last_line cut.rest

lines_of-by : (bytes : List ℕ) → lines_of bytes ≡ lines_by (cut_of bytes)
unfolding lines_of whole_lines
lines_of-by bytes = refl

-- a line end first ends an empty part
cut_of-ended : (rest : List ℕ) → cut_of (line_feed ∷ rest) ≡ record { ended = [] ∷ (cut_of rest).ended; rest = (cut_of rest).rest }
unfolding cut_of
cut_of-ended rest = refl

-- bytes without a line end, and a line end behind them, are the first line
lines_of-ended : (bytes rest : List ℕ) → HasNoLineEnd bytes → lines_of (bytes ++ line_feed ∷ rest) ≡ without_return bytes ∷ lines_of rest
lines_of-ended bytes rest none =
    lines_of-by (bytes ++ line_feed ∷ rest)
    ∙ ap lines_by (cut_of-append bytes (line_feed ∷ rest))
    ∙ ap (λ (cut : CutText). lines_by (behind (cut_of bytes) cut.ended cut.rest)) (cut_of-ended rest)
    ∙ ap (λ (cut : CutText). lines_by (record { ended = cut.ended ++ (cut.rest ++ []) ∷ (cut_of rest).ended; rest = (cut_of rest).rest })) (cut_of-none bytes none)
    ∙ ap (λ (part : List ℕ). without_return part ∷ lines_by (cut_of rest)) (append-nil bytes)
    ∙ ap (λ (lines : List (List ℕ)). without_return bytes ∷ lines) (sym (lines_of-by rest))

-- a text up to and behind its first line end
pub lines_of-first : {bytes : List ℕ} {k : ℕ} → LineEndAt bytes k → lines_of bytes ≡ without_return (take k bytes) ∷ lines_of (drop (k + 1) bytes)
lines_of-first {bytes} {k} at =
    ap lines_of (sym (take-append-drop (k + 1) bytes) ∙ ap (λ (front : List ℕ). front ++ drop (k + 1) bytes) (take-line at) ∙ append_assoc (take k bytes) (line_feed ∷ []) (drop (k + 1) bytes))
    ∙ lines_of-ended (take k bytes) (drop (k + 1) bytes) (HasNoLineEnd-take at)

-- a text without a line end is one line
pub lines_of-one : (bytes : List ℕ) → HasNoLineEnd bytes → 0 < length bytes → lines_of bytes ≡ bytes ∷ lines_of []
unfolding lines_of whole_lines last_line cut_of
lines_of-one [] none some = absurd (omega arith)
lines_of-one (b ∷ bytes) none some = lines_of-by (b ∷ bytes) ∙ ap lines_by (cut_of-none (b ∷ bytes) none)
