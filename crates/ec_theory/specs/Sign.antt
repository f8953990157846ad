-- What a token is to the grammar of clauses.
use Rattle.std.specs.Prelude.{Bool, true, false, ℕ, ◌==◌, if◌then◌else◌, List, [], ◌∷◌, ◌++◌, length, map, ℤ, pos, Option, Some, None, is_some, unwrap_or, bytes_eq, codes, slice_index}
use Rattle.std.specs.Option.{option_map_or}
use Rattle.std.specs.List.{list_any, position_or_len}
use Rattle.ec_moment.specs.Number.{number_value}
use Rattle.ec_terms.specs.declared.ground.Arg.TheVariants.{Int, Word as Named}
use Rattle.ec_terms.specs.declared.pattern.PatArg.{PatArg}
use Rattle.ec_terms.specs.declared.pattern.PatArg.TheVariants.{Var, Any, Fixed}
use Rattle.ec_terms.specs.declared.theory.TestOp.{TestOp}
use Rattle.ec_terms.specs.declared.theory.TestOp.TheVariants.{Same, Differ, Less, AtMost}
use Rattle.ec_terms.specs.declared.theory.Kind.TheVariants.{Initiates, Terminates}
use Rattle.ec_terms.specs.declared.theory.TimeKind.{TimeKind}
use Rattle.ec_terms.specs.declared.theory.TimeKind.TheVariants.{Tick, Civil}
use Rattle.ec_theory.specs.Lexeme.{Lexeme, Lexemes}
use Rattle.ec_theory.specs.declared.token.TokenKind.TheVariants as kind
use Rattle.ec_theory.specs.declared.sign.Symbol.{Symbol}
use Rattle.ec_theory.specs.declared.sign.Symbol.TheVariants.{If, Not, Anything, Open, Close, Comma, Dot, Slash}
use Rattle.ec_theory.specs.declared.sign.Keyword.{Keyword}
use Rattle.ec_theory.specs.declared.sign.Keyword.TheVariants.{Rule, Exclusive, Strong, Initially, Time}

-- a name other than `if` and `not`, a variable, a number, a symbol that is always the same, or a comparison
pub data Sign : Type 0 where
  Word : List ℕ → Sign
  Variable : List ℕ → Sign
  Number : ℤ → Sign
  Given : Symbol → Sign
  Compare : TestOp → Sign

-- a name is a word, but for `if` and `not`
unfoldable pub name_sign : List ℕ → Sign
name_sign text =
    if bytes_eq text (codes "if") then Given If
    else (if bytes_eq text (codes "not") then Given Not
    else Word text)

-- a mark by its first byte: _ ( ) , . / = ! <, and behind < whether an = follows
unfoldable pub mark_sign : List ℕ → Sign
mark_sign text =
    let b = slice_index text 0 in
    if b == 95 then Given Anything
    else (if b == 40 then Given Open
    else (if b == 41 then Given Close
    else (if b == 44 then Given Comma
    else (if b == 46 then Given Dot
    else (if b == 47 then Given Slash
    else (if b == 61 then Compare Same
    else (if b == 33 then Compare Differ
    else (if length text == 1 then Compare Less
    else Compare AtMost))))))))

-- what a token is to the grammar
unfoldable pub sign_of : Lexeme → Sign
sign_of t =
    elim t.kind [
      | kind.Name ↦ name_sign t.text
      | kind.Variable ↦ Variable t.text
      | kind.Number ↦ Number (unwrap_or (number_value t.text) (pos 0))
      | kind.Mark ↦ mark_sign t.text
    ]

-- what the tokens are to the grammar, one by one
abbrev pub signs_of : Lexemes → List Sign
signs_of l = map sign_of l.tokens

-- the clause that begins with a word, if one does
unfoldable pub keyword_of : List ℕ → Option Keyword
keyword_of word =
    if bytes_eq word (codes "initiates") then Some (Rule Initiates)
    else (if bytes_eq word (codes "terminates") then Some (Rule Terminates)
    else (if bytes_eq word (codes "exclusive") then Some Exclusive
    else (if bytes_eq word (codes "strong") then Some Strong
    else (if bytes_eq word (codes "initially") then Some Initially
    else (if bytes_eq word (codes "time") then Some Time
    else None)))))

-- the kind of time that a word names, if it names one
unfoldable pub time_kind_of : List ℕ → Option TimeKind
time_kind_of word =
    if bytes_eq word (codes "tick") then Some Tick
    else (if bytes_eq word (codes "civil") then Some Civil
    else None)

-- ---- tests of one token

-- the number of a symbol, different for each
abbrev pub symbol_number : Symbol → ℕ
symbol_number If = 0
symbol_number Not = 1
symbol_number Anything = 2
symbol_number Open = 3
symbol_number Close = 4
symbol_number Comma = 5
symbol_number Dot = 6
symbol_number Slash = 7

-- this very symbol
abbrev pub is_given : Symbol → Sign → Bool
is_given symbol (Given other) = symbol_number symbol == symbol_number other
is_given symbol (Word w) = false
is_given symbol (Variable v) = false
is_given symbol (Number z) = false
is_given symbol (Compare op) = false

-- a name other than `if` and `not`
abbrev pub is_word : Sign → Bool
is_word (Word w) = true
is_word (Variable v) = false
is_word (Number z) = false
is_word (Given symbol) = false
is_word (Compare op) = false

-- a number
abbrev pub is_number : Sign → Bool
is_number (Number z) = true
is_number (Word w) = false
is_number (Variable v) = false
is_number (Given symbol) = false
is_number (Compare op) = false

-- a comparison
abbrev pub is_compare : Sign → Bool
is_compare (Compare op) = true
is_compare (Word w) = false
is_compare (Variable v) = false
is_compare (Number z) = false
is_compare (Given symbol) = false

-- a name, a number, a variable or `_`
abbrev pub is_argument : Sign → Bool
is_argument (Word w) = true
is_argument (Variable v) = true
is_argument (Number z) = true
is_argument (Given symbol) = is_given Anything (Given symbol)
is_argument (Compare op) = false

-- the name of a kind of time
abbrev pub is_time_kind : Sign → Bool
is_time_kind (Word w) = is_some (time_kind_of w)
is_time_kind (Variable v) = false
is_time_kind (Number z) = false
is_time_kind (Given symbol) = false
is_time_kind (Compare op) = false

-- a kind of clause
abbrev pub is_keyword : (Keyword → Bool) → Sign → Bool
is_keyword test (Word w) = option_map_or test (keyword_of w) false
is_keyword test (Variable v) = false
is_keyword test (Number z) = false
is_keyword test (Given symbol) = false
is_keyword test (Compare op) = false

abbrev pub is_rule : Keyword → Bool
is_rule (Rule kind) = true
is_rule Exclusive = false
is_rule Strong = false
is_rule Initially = false
is_rule Time = false

abbrev pub is_exclusive : Keyword → Bool
is_exclusive (Rule kind) = false
is_exclusive Exclusive = true
is_exclusive Strong = false
is_exclusive Initially = false
is_exclusive Time = false

abbrev pub is_strong : Keyword → Bool
is_strong (Rule kind) = false
is_strong Exclusive = false
is_strong Strong = true
is_strong Initially = false
is_strong Time = false

abbrev pub is_initially : Keyword → Bool
is_initially (Rule kind) = false
is_initially Exclusive = false
is_initially Strong = false
is_initially Initially = true
is_initially Time = false

abbrev pub is_time : Keyword → Bool
is_time (Rule kind) = false
is_time Exclusive = false
is_time Strong = false
is_time Initially = false
is_time Time = true

-- ---- variables

-- names of variables, and one more where it is not yet among them
unfoldable pub with_variable : List (List ℕ) → List ℕ → List (List ℕ)
with_variable names name = if list_any (bytes_eq name) names then names else names ++ name ∷ []

-- the names so far, and that of a token, where it is a variable
unfoldable pub with_sign : List (List ℕ) → Sign → List (List ℕ)
with_sign names (Variable v) = with_variable names v
with_sign names (Word w) = names
with_sign names (Number z) = names
with_sign names (Given symbol) = names
with_sign names (Compare op) = names

-- the names so far, and the variables up to the next dot, in the order of their first appearance
unfoldable pub variables_from : List (List ℕ) → List Sign → List (List ℕ)
variables_from names [] = names
variables_from names (s ∷ signs) = if is_given Dot s then names else variables_from (with_sign names s) signs

-- the variables of the clause at the front, in the order of their first appearance
abbrev pub variables_of : List Sign → List (List ℕ)
variables_of signs = variables_from [] signs

-- the number of a variable: its place among the variables of the clause, from 0
abbrev pub number_of : List (List ℕ) → List ℕ → ℕ
number_of names name = position_or_len (bytes_eq name) names

-- ---- arguments

-- the argument that a token is, if it is one: a name, a number, a variable by its number, or `_`
unfoldable pub argument_of : List (List ℕ) → Sign → Option PatArg
argument_of names (Word w) = Some (Fixed (Named w))
argument_of names (Variable v) = Some (Var (number_of names v))
argument_of names (Number z) = Some (Fixed (Int z))
argument_of names (Given symbol) = if is_given Anything (Given symbol) then Some Any else None
argument_of names (Compare op) = None
