-- Reading a list of tokens as a theory, and where a list that is none goes wrong.
use Rattle.std.specs.Prelude.{◌≡◌, List, [], ◌∷◌, ◌++◌, map}
use Rattle.ec_terms.specs.declared.theory.Theory.{Theory}
use Rattle.ec_theory.specs.declared.place.Place.{Place}
use Rattle.ec_theory.specs.Lexeme.{Lexeme, Lexemes}
use Rattle.ec_theory.specs.declared.syntax_fault.SyntaxFault.{SyntaxFault}
use Rattle.ec_theory.specs.declared.syntax_fault.SyntaxFault.TheVariants.{Syntax, Memory}
use Rattle.ec_theory.specs.Sign.{sign_of, signs_of}
use Rattle.ec_theory.specs.Grammar.{ReadsFrom}

-- the tokens read as the theory by the grammar of clauses
abbrev pub Reads : Lexemes → Theory → Type 0
Reads tokens theory = ReadsFrom 1 (signs_of tokens) theory

-- the tokens read as some theory
pub record IsReadable (tokens : List Lexeme) : Type 0 where
  pub theory : Theory
  pub reads : ReadsFrom 1 (map sign_of tokens) theory

-- with some tokens behind them the tokens are readable
pub record BeginsReadable (tokens : List Lexeme) : Type 0 where
  pub more : List Lexeme
  pub readable : IsReadable (tokens ++ more)

-- The place of the first token with which the tokens so far begin no readable list; or the end, where all of them begin
-- one, and are none.
pub data GoesWrongAt (l : Lexemes) (place : Place) : Type 0 where
  at_token : (before behind : List Lexeme) (t : Lexeme) → l.tokens ≡ before ++ t ∷ behind → place ≡ t.place →
      BeginsReadable before → (BeginsReadable (before ++ t ∷ []) → ⊥) → GoesWrongAt l place
  at_end : place ≡ l.end → BeginsReadable l.tokens → (IsReadable l.tokens → ⊥) → GoesWrongAt l place

-- the fault of the tokens of a text: a fault of syntax is where they go wrong; want of memory says nothing
abbrev pub IsSyntaxFault : SyntaxFault → Lexemes → Type 0
IsSyntaxFault Memory tokens = Unit {0}
IsSyntaxFault (Syntax place) tokens = GoesWrongAt tokens place

-- the tokens have no reading at all; want of memory says nothing
abbrev pub HasNoReading : SyntaxFault → Lexemes → Type 0
HasNoReading Memory tokens = Unit {0}
HasNoReading (Syntax place) tokens = IsReadable tokens.tokens → ⊥
