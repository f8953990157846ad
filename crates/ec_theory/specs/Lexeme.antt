-- What contracts see of a token and of a list of tokens.
use Rattle.std.specs.Prelude.{ℕ, Bool, List, bytes_eq, codes, [], ◌∷◌, is_some}
use Rattle.std.specs.List.{list_any}
use Rattle.ec_moment.specs.Number.{number_value}
use Rattle.ec_terms.specs.Spelling.{is_name, is_variable}
use Rattle.ec_theory.specs.declared.place.Place.{Place}
use Rattle.ec_theory.specs.declared.token.TokenKind.{TokenKind}
use Rattle.ec_theory.specs.declared.token.TokenKind.TheVariants.{Name, Variable, Number, Mark}
use Rattle.ec_theory.specs.declared.token.Token.{Token}

-- a token without where its text lies in memory
pub record Lexeme : Type 0 where
  pub kind : TokenKind
  pub text : List ℕ
  pub place : Place

-- the tokens of a text in their order, and the place just after its last byte
pub record Lexemes : Type 0 where
  pub tokens : List Lexeme
  pub end : Place

-- the token that a borrowed token shows
abbrev pub lexeme_of : Token → Lexeme
lexeme_of t = record { kind = t.kind; text = t.text.now; place = t.place }

-- the marks
abbrev pub marks : List (List ℕ)
marks = codes "_" ∷ codes "(" ∷ codes ")" ∷ codes "," ∷ codes "." ∷ codes "/" ∷ codes "=" ∷ codes "!=" ∷ codes "<" ∷ codes "<=" ∷ []

-- the text is a spelling of the kind
unfoldable pub is_spelling : TokenKind → List ℕ → Bool
is_spelling Name text = is_name text
is_spelling Variable text = is_variable text
is_spelling Number text = is_some (number_value text)
is_spelling Mark text = list_any (bytes_eq text) marks

-- the text of a token is a spelling of its kind
unfoldable pub is_spelt : Lexeme → Bool
is_spelt t = is_spelling t.kind t.text
