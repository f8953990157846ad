-- A text as its gaps and its tokens, joined in order.
use Rattle.std.specs.Prelude.{◌≡◌, ◌<◌, ℕ, ◌==◌, not, List, [], ◌∷◌, ◌++◌, length, IsTrue}
use Rattle.std.specs.List.{list_all}
use Rattle.ec_theory.specs.declared.place.Place.{Place}
use Rattle.ec_theory.specs.declared.token.TokenKind.{TokenKind}
use Rattle.ec_theory.specs.Lexeme.{Lexeme, is_spelling}
use Rattle.ec_theory.specs.Tokens.{is_blank, place_behind}

-- the line ends here: nothing stands behind, or a line feed
abbrev pub EndsLine : List ℕ → Type 0
EndsLine [] = Unit {0}
EndsLine (b ∷ bytes) = b ≡ 10

-- no token is the text with some of the bytes behind it
abbrev pub IsLongest : List ℕ → List ℕ → Type 0
IsLongest text bytes = (kind : TokenKind) (more behind : List ℕ) → bytes ≡ more ++ behind → 0 < length more → IsTrue (not (is_spelling kind (text ++ more)))

-- The text from a place on is blanks, comments up to the end of their line, and these tokens, joined in order. Each
-- token stands at its place, its text is a spelling of its kind, and it is as long as any token could be there.
pub data IsCut : Place → List ℕ → List Lexeme → Type 0 where
  nothing : {place : Place} → IsCut place [] []
  blank : {place : Place} {tokens : List Lexeme} (b : ℕ) (bytes : List ℕ) → IsTrue (is_blank b) → IsCut (place_behind place (b ∷ [])) bytes tokens → IsCut place (b ∷ bytes) tokens
  comment : {place : Place} {tokens : List Lexeme} (line bytes : List ℕ) → IsTrue (list_all (λ c. not (c == 10)) line) → EndsLine bytes → IsCut (place_behind place (37 ∷ line)) bytes tokens → IsCut place ((37 ∷ line) ++ bytes) tokens
  token : {place : Place} {tokens : List Lexeme} (kind : TokenKind) (text bytes : List ℕ) → IsTrue (is_spelling kind text) → IsLongest text bytes → IsCut (place_behind place text) bytes tokens →
      IsCut place (text ++ bytes) (record { kind = kind; text = text; place = place } ∷ tokens)
