-- What the parts of the reader give: where a part that reads from one place in a clause to another leaves the walk.
use Rattle.std.specs.Prelude.{◌≡◌, ℕ, Bool, true, false, Option, Some, List, [], map, ◌∷◌, ◌++◌, Result, Ok, Err, IsTrue}
use Rattle.ec_theory.specs.declared.place.Place.{Place}
use Rattle.ec_theory.specs.Lexeme.{Lexeme, Lexemes, lexeme_of}
use Rattle.ec_terms.specs.declared.pattern.PatArg.{PatArg}
use Rattle.ec_terms.specs.declared.pattern.Pattern.{Pattern}
use Rattle.ec_theory.specs.declared.condition.Condition.{Condition}
use Rattle.ec_theory.specs.declared.condition.Condition.TheVariants as condition
use Rattle.ec_theory.specs.Grammar.{TakesPattern}
use Rattle.ec_terms.specs.declared.theory.TimeKind.{TimeKind}
use Rattle.ec_terms.specs.declared.theory.Theory.{Theory}
use Rattle.ec_theory.specs.declared.clause.Clause.{Clause}
use Rattle.ec_theory.specs.declared.clause.Clause.TheVariants as clause
use Rattle.ec_theory.specs.declared.sign.Keyword.{Keyword}
use Rattle.ec_theory.specs.declared.cursor.Cursor.{Cursor}
use Rattle.ec_theory.specs.declared.syntax_fault.SyntaxFault.{SyntaxFault}
use Rattle.ec_theory.specs.Sign.{Sign, Word, Variable, Number, Given, Compare, sign_of, signs_of, keyword_of, time_kind_of, argument_of, is_word, is_compare}
use Rattle.ec_theory.specs.declared.sign.Sign.{Sign as SignAt}
use Rattle.ec_theory.specs.declared.sign.Sign.TheVariants as at
use Rattle.ec_theory.specs.declared.syntax_fault.SyntaxFault.TheVariants.{Syntax, Memory}
use Rattle.ec_terms.specs.Spelling.{is_name}
use Rattle.ec_theory.specs.Walk.{Spot, stop_of}

-- the sign that a borrowed sign shows
unfoldable pub shown : SignAt → Sign
shown (at.Word w) = Word w.now
shown (at.Variable v) = Variable v.now
shown (at.Number z) = Number z
shown (at.Given symbol) = Given symbol
shown (at.Compare op) = Compare op

-- the text of a word is a name
unfoldable pub IsNamed : Sign → Type 0
IsNamed (Word w) = IsTrue (is_name w)
IsNamed (Variable v) = Unit {0}
IsNamed (Number z) = Unit {0}
IsNamed (Given symbol) = Unit {0}
IsNamed (Compare op) = Unit {0}

-- the tokens from a cursor on
abbrev pub left_of : Cursor → Lexemes
left_of c = record { tokens = map lexeme_of c.rest.now; end = c.end }

-- the place of the first of these tokens, or the end
unfoldable pub place_at : List Lexeme → Place → Place
place_at [] end = end
place_at (t ∷ tokens) end = t.place

-- the place of the next token, or the end
abbrev pub next_place : Lexemes → Place
next_place l = place_at l.tokens l.end

-- there is a first token, and it passes the test
unfoldable pub first_passes : (Sign → Bool) → List Lexeme → Bool
first_passes test [] = false
first_passes test (t ∷ tokens) = test (sign_of t)

-- there is a next token, and it passes the test
abbrev pub next_passes : (Sign → Bool) → Lexemes → Bool
next_passes test l = first_passes test l.tokens

-- the next token fails the test, or there is none, and the fault is at this place
pub record Refuses (test : Sign → Bool) (l : Lexemes) (fault : SyntaxFault) : Type 0 where
  pub fails : next_passes test l ≡ false
  pub place : fault ≡ Syntax (next_place l)

-- one token stands between two cursors
pub record Steps (before : Lexemes) (s : Sign) (after : Lexemes) : Type 0 where
  pub token : Lexeme
  pub tokens : before.tokens ≡ token ∷ after.tokens
  pub sign : sign_of token ≡ s
  pub end : after.end ≡ before.end

-- a fault of syntax is where the walk stops; want of memory says nothing
abbrev pub IsStop : SyntaxFault → Option Place → Type 0
IsStop Memory stop = Unit {0}
IsStop (Syntax place) stop = stop ≡ Some place

-- a part that reads from one place in a clause to another: the walk goes on there, or stops at the fault
abbrev pub Goes : {X : Type 0} → Spot → Spot → Lexemes → Result (X × Cursor) SyntaxFault → Type 0
Goes from to before (Ok x) = stop_of from before ≡ stop_of to (left_of x.1)
Goes from to before (Err fault) = IsStop fault (stop_of from before)

-- one token is taken as an argument
pub record TakesArgument (names : List (List ℕ)) (before : Lexemes) (arg : PatArg) (after : Lexemes) : Type 0 where
  pub sign : Sign
  pub steps : Steps before sign after
  pub argument : argument_of names sign ≡ Some arg

-- a name with no comparison behind it is next: so begins a condition on a property
pub record BeginsLiteral (l : Lexemes) : Type 0 where
  pub word : List ℕ
  pub behind : Lexemes
  pub steps : Steps l (Word word) behind
  pub fails : next_passes is_compare behind ≡ false

-- no name is next, or a name with a comparison behind it
pub data BeginsTest (l : Lexemes) : Type 0 where
  no_word : next_passes is_word l ≡ false → BeginsTest l
  compared : {word : List ℕ} {behind : Lexemes} → Steps l (Word word) behind → next_passes is_compare behind ≡ true → BeginsTest l

-- a pattern is taken as a condition on a property, with its sign
pub record TakesLiteral (names : List (List ℕ)) (positive : Bool) (before : Lexemes) (taken : Condition) (after : Lexemes) : Type 0 where
  pub prop : Pattern
  pub takes : TakesPattern names (signs_of before) prop (signs_of after)
  pub literal : taken ≡ condition.Literal (record { positive = positive; prop = prop })

-- a clause behind the clauses of a theory
unfoldable pub clause_added : Theory → Clause → Theory
clause_added theory (clause.Rule r) = record theory { rules = theory.rules ++ r ∷ [] }
clause_added theory (clause.Exclusive e) = record theory { exclusives = theory.exclusives ++ e ∷ [] }
clause_added theory (clause.Strong s) = record theory { strongs = theory.strongs ++ s ∷ [] }
clause_added theory (clause.Initial i) = record theory { initials = theory.initials ++ i ∷ [] }
clause_added theory (clause.Time t) = record theory { times = theory.times ++ t ∷ [] }

-- a word that begins a kind of clause is taken
pub record HasKeyword (before : Lexemes) (keyword : Keyword) (after : Lexemes) : Type 0 where
  pub word : List ℕ
  pub steps : Steps before (Word word) after
  pub begins : keyword_of word ≡ Some keyword

-- a word that names a kind of time is taken
pub record HasTimeKind (before : Lexemes) (kind : TimeKind) (after : Lexemes) : Type 0 where
  pub word : List ℕ
  pub steps : Steps before (Word word) after
  pub names : time_kind_of word ≡ Some kind
