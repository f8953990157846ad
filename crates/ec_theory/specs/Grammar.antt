-- The grammar of clauses. Each form says that something stands at the front of a list of tokens, and what stands behind it.
-- Variables go by their place among `names`, the variables of the clause.
use Rattle.std.specs.Prelude.{◌≡◌, ℕ, ◌+◌, true, false, ℤ, List, [], ◌∷◌, Some}
use Rattle.ec_terms.specs.declared.pattern.PatArg.{PatArg}
use Rattle.ec_terms.specs.declared.pattern.Pattern.{Pattern}
use Rattle.ec_terms.specs.declared.theory.TestOp.{TestOp}
use Rattle.ec_terms.specs.declared.theory.Test.{Test}
use Rattle.ec_terms.specs.declared.theory.Literal.{Literal}
use Rattle.ec_terms.specs.declared.theory.Kind.{Kind}
use Rattle.ec_terms.specs.declared.theory.TimeKind.{TimeKind}
use Rattle.ec_terms.specs.declared.theory.Theory.{Theory}
use Rattle.ec_theory.specs.declared.sign.Symbol.TheVariants.{If, Not, Open, Close, Comma, Dot, Slash}
use Rattle.ec_theory.specs.declared.sign.Keyword.TheVariants.{Rule, Exclusive, Strong, Initially, Time}
use Rattle.ec_theory.specs.declared.condition.Condition.{Condition}
use Rattle.ec_theory.specs.declared.condition.Condition.TheVariants as condition
use Rattle.ec_theory.specs.declared.clause.Clause.{Clause}
use Rattle.ec_theory.specs.declared.clause.Clause.TheVariants as clause
use Rattle.ec_theory.specs.Sign.{Sign, Word, Number, Given, Compare, keyword_of, time_kind_of, argument_of, variables_of}

-- argument { "," argument } ")"
pub data TakesArguments (names : List (List ℕ)) : List Sign → List PatArg → List Sign → Type 0 where
  last : {s : Sign} {a : PatArg} {rest : List Sign} → argument_of names s ≡ Some a → TakesArguments names (s ∷ Given Close ∷ rest) (a ∷ []) rest
  more : {s : Sign} {a : PatArg} {signs : List Sign} {args : List PatArg} {rest : List Sign} → argument_of names s ≡ Some a → TakesArguments names signs args rest → TakesArguments names (s ∷ Given Comma ∷ signs) (a ∷ args) rest

-- term_name [ "(" argument { "," argument } ")" ]
pub data TakesPattern (names : List (List ℕ)) : List Sign → Pattern → List Sign → Type 0 where
  alone : {w : List ℕ} {rest : List Sign} → TakesPattern names (Word w ∷ rest) (record { name = w; args = [] }) rest
  applied : {w : List ℕ} {signs : List Sign} {args : List PatArg} {rest : List Sign} → TakesArguments names signs args rest → TakesPattern names (Word w ∷ Given Open ∷ signs) (record { name = w; args = args }) rest

-- [ "not" ] pattern | argument op argument
pub data TakesCondition (names : List (List ℕ)) : List Sign → Condition → List Sign → Type 0 where
  current : {signs : List Sign} {p : Pattern} {rest : List Sign} → TakesPattern names signs p rest → TakesCondition names signs (condition.Literal (record { positive = true; prop = p })) rest
  not_current : {signs : List Sign} {p : Pattern} {rest : List Sign} → TakesPattern names signs p rest → TakesCondition names (Given Not ∷ signs) (condition.Literal (record { positive = false; prop = p })) rest
  test : {l r : Sign} {a b : PatArg} {op : TestOp} {rest : List Sign} → argument_of names l ≡ Some a → argument_of names r ≡ Some b → TakesCondition names (l ∷ Compare op ∷ r ∷ rest) (condition.Test (record { op = op; left = a; right = b })) rest

-- cond { "," cond } "."
pub data TakesConditions (names : List (List ℕ)) : List Sign → List Condition → List Sign → Type 0 where
  final : {signs : List Sign} {c : Condition} {rest : List Sign} → TakesCondition names signs c (Given Dot ∷ rest) → TakesConditions names signs (c ∷ []) rest
  further : {signs middle : List Sign} {c : Condition} {cs : List Condition} {rest : List Sign} → TakesCondition names signs c (Given Comma ∷ middle) → TakesConditions names middle cs rest → TakesConditions names signs (c ∷ cs) rest

-- [ "if" cond { "," cond } ] "."
pub data TakesBody (names : List (List ℕ)) : List Sign → List Condition → List Sign → Type 0 where
  empty : {rest : List Sign} → TakesBody names (Given Dot ∷ rest) [] rest
  conditions : {signs : List Sign} {cs : List Condition} {rest : List Sign} → TakesConditions names signs cs rest → TakesBody names (Given If ∷ signs) cs rest

-- the tests among conditions, in their order
unfoldable pub tests_of : List Condition → List Test
tests_of [] = []
tests_of (condition.Test t ∷ cs) = t ∷ tests_of cs
tests_of (condition.Literal l ∷ cs) = tests_of cs

-- the literals among conditions, in their order
unfoldable pub literals_of : List Condition → List Literal
literals_of [] = []
literals_of (condition.Test t ∷ cs) = literals_of cs
literals_of (condition.Literal l ∷ cs) = l ∷ literals_of cs

-- ( rule | exclusive | strong | initially | time ) ".", as the clause with a number
pub data TakesClause (names : List (List ℕ)) (number : ℕ) : List Sign → Clause → List Sign → Type 0 where
  rule : {w : List ℕ} {kind : Kind} {signs middle tail : List Sign} {event head : Pattern} {cs : List Condition} {rest : List Sign} →
      keyword_of w ≡ Some (Rule kind) → TakesPattern names signs event middle → TakesPattern names middle head tail → TakesBody names tail cs rest →
      TakesClause names number (Word w ∷ signs) (clause.Rule (record { clause = number; kind = kind; event = event; head = head; tests = tests_of cs; literals = literals_of cs })) rest
  exclusive : {w : List ℕ} {signs middle : List Sign} {left right : Pattern} {rest : List Sign} →
      keyword_of w ≡ Some Exclusive → TakesPattern names signs left middle → TakesPattern names middle right (Given Dot ∷ rest) →
      TakesClause names number (Word w ∷ signs) (clause.Exclusive (record { clause = number; left = left; right = right })) rest
  strong : {w name : List ℕ} {arity : ℤ} {rest : List Sign} →
      keyword_of w ≡ Some Strong →
      TakesClause names number (Word w ∷ Word name ∷ Given Slash ∷ Number arity ∷ Given Dot ∷ rest) (clause.Strong (record { clause = number; name = name; arity = arity })) rest
  initially : {w : List ℕ} {signs : List Sign} {prop : Pattern} {rest : List Sign} →
      keyword_of w ≡ Some Initially → TakesPattern names signs prop (Given Dot ∷ rest) →
      TakesClause names number (Word w ∷ signs) (clause.Initial (record { clause = number; prop = prop })) rest
  time : {w name : List ℕ} {kind : TimeKind} {rest : List Sign} →
      keyword_of w ≡ Some Time → time_kind_of name ≡ Some kind →
      TakesClause names number (Word w ∷ Word name ∷ Given Dot ∷ rest) (clause.Time (record { clause = number; kind = kind })) rest

-- a theory without clauses
abbrev pub no_clauses : Theory
no_clauses = record { rules = []; exclusives = []; strongs = []; initials = []; times = [] }

-- a clause before the clauses of a theory
unfoldable pub with_clause : Clause → Theory → Theory
with_clause (clause.Rule r) theory = record theory { rules = r ∷ theory.rules }
with_clause (clause.Exclusive e) theory = record theory { exclusives = e ∷ theory.exclusives }
with_clause (clause.Strong s) theory = record theory { strongs = s ∷ theory.strongs }
with_clause (clause.Initial i) theory = record theory { initials = i ∷ theory.initials }
with_clause (clause.Time t) theory = record theory { times = t ∷ theory.times }

-- { clause }: all tokens are clauses, numbered from a number on, and make a theory
pub data ReadsFrom : ℕ → List Sign → Theory → Type 0 where
  no_more : {number : ℕ} → ReadsFrom number [] no_clauses
  one_more : {number : ℕ} {signs rest : List Sign} {c : Clause} {theory : Theory} → TakesClause (variables_of signs) number signs c rest → ReadsFrom (number + 1) rest theory → ReadsFrom number signs (with_clause c theory)
