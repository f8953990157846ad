-- What is read by the grammar ends the walk at a clause's beginning.
use Rattle.std.proofs.Common.{◌≡◌, ℕ, Bool, true, false, List, [], ◌∷◌, map, Option, Some, None, refl, ◌∙◌}
use Rattle.std.proofs.lemmas.Bool.{false≢true}
use Rattle.std.specs.Option.{option_map_or}
use Rattle.ec_terms.specs.declared.pattern.PatArg.{PatArg}
use Rattle.ec_terms.specs.declared.pattern.Pattern.{Pattern}
use Rattle.ec_terms.specs.declared.theory.TestOp.{TestOp}
use Rattle.ec_terms.specs.declared.theory.Theory.{Theory}
use Rattle.ec_theory.specs.declared.place.Place.{Place}
use Rattle.ec_theory.specs.Lexeme.{Lexeme}
use Rattle.ec_theory.specs.declared.sign.Symbol.{Symbol}
use Rattle.ec_theory.specs.declared.sign.Symbol.TheVariants.{If, Not, Anything, Open, Close, Comma, Dot, Slash}
use Rattle.ec_theory.specs.declared.condition.Condition.{Condition}
use Rattle.ec_theory.specs.declared.clause.Clause.{Clause}
use Rattle.ec_theory.specs.Sign.{Sign, Word, Variable, Number, Given, Compare, sign_of, argument_of, is_given, is_word, is_compare, is_argument}
use Rattle.ec_theory.specs.Grammar.{TakesArguments, last, more, TakesPattern, alone, applied, TakesCondition, current, not_current, test, TakesConditions, final, further, TakesBody, empty, conditions, TakesClause, rule, exclusive, strong, initially, time, ReadsFrom, no_more, one_more}
use Rattle.ec_theory.specs.Walk.{Part, Event, Head, Left, Right, Condition as PartCondition, Initial, Spot, Beginning, PatternAt, AfterName, ArgumentAt, AfterPattern, ConditionAt, AfterConditionName, RightSideAt, step, moves, moves_behind, first_move, first_stop, is_beginning}
use Rattle.ec_theory.proofs.WalkSteps.{argument_passes}

-- the walk over the tokens ends at a clause's beginning
unfoldable pub finishes : Spot → List Sign → Bool
finishes spot [] = is_beginning spot
finishes spot (s ∷ signs) = option_map_or (λ next. finishes next signs) (step spot s) false

-- where it does, it stops nowhere
pub no_stop : (spot : Spot) (tokens : List Lexeme) (end : Place) → finishes spot (map sign_of tokens) ≡ true → first_stop spot tokens end ≡ None
unfolding finishes first_stop
no_stop spot [] end ends = rw ends refl
no_stop spot (t ∷ tokens) end ends = through (step spot (sign_of t)) ends (λ next e. no_stop next tokens end e)
  where
    through : (o : Option Spot) → option_map_or (λ next. finishes next (map sign_of tokens)) o false ≡ true → ((next : Spot) → finishes next (map sign_of tokens) ≡ true → first_stop next tokens end ≡ None) → option_map_or (λ n. first_stop n tokens end) o (Some t.place) ≡ None
    through None e later = cc
    through (Some next) e later = later next e

-- the list begins with an opening parenthesis; with a comparison
abbrev pub opens : List Sign → Bool
opens [] = false
opens (s ∷ signs) = is_given Open s

abbrev pub compares : List Sign → Bool
compares [] = false
compares (s ∷ signs) = is_compare s

given_left : (op : TestOp) (signs : List Sign) (symbol : Symbol) → is_argument (Given symbol) ≡ true → finishes ConditionAt (Given symbol ∷ Compare op ∷ signs) ≡ finishes RightSideAt signs
unfolding finishes moves moves_behind first_move
given_left op signs If e = absurd (false≢true e)
given_left op signs Not e = absurd (false≢true e)
given_left op signs Anything e = refl
given_left op signs Open e = absurd (false≢true e)
given_left op signs Close e = absurd (false≢true e)
given_left op signs Comma e = absurd (false≢true e)
given_left op signs Dot e = absurd (false≢true e)
given_left op signs Slash e = absurd (false≢true e)

module _ (names : List (List ℕ)) where
  arguments_finish : {signs : List Sign} {args : List PatArg} {rest : List Sign} → TakesArguments names signs args rest → (part : Part) → finishes (ArgumentAt part) signs ≡ finishes (AfterPattern part) rest
  unfolding finishes moves first_move
  arguments_finish (last {s = s} e) part = rw (argument_passes names s _ e) refl
  arguments_finish (more {s = s} e t) part = rw (argument_passes names s _ e) (arguments_finish t part)

  behind_name : (part : Part) (rest : List Sign) → opens rest ≡ false → finishes (AfterName part) rest ≡ finishes (AfterPattern part) rest
  unfolding finishes moves first_move
  behind_name part [] closed = refl
  behind_name part (s ∷ rest) closed = rw closed refl

  pattern_finishes : {signs : List Sign} {p : Pattern} {rest : List Sign} → TakesPattern names signs p rest → opens rest ≡ false → (part : Part) → finishes (PatternAt part) signs ≡ finishes (AfterPattern part) rest
  unfolding finishes moves first_move
  pattern_finishes (alone {rest = rest}) closed part = behind_name part rest closed
  pattern_finishes (applied t) closed part = arguments_finish t part

  behind_condition_name : (rest : List Sign) → opens rest ≡ false → compares rest ≡ false → finishes AfterConditionName rest ≡ finishes (AfterPattern PartCondition) rest
  unfolding finishes moves moves_behind first_move
  behind_condition_name [] closed plain = refl
  behind_condition_name (s ∷ rest) closed plain = rw (plain, closed) refl

  literal_finishes : {signs : List Sign} {p : Pattern} {rest : List Sign} → TakesPattern names signs p rest → opens rest ≡ false → compares rest ≡ false → finishes ConditionAt signs ≡ finishes (AfterPattern PartCondition) rest
  unfolding finishes moves moves_behind first_move
  literal_finishes (alone {rest = rest}) closed plain = behind_condition_name rest closed plain
  literal_finishes (applied t) closed plain = arguments_finish t PartCondition

  left_finishes : (l : Sign) (a : PatArg) (op : TestOp) (signs : List Sign) → argument_of names l ≡ Some a → finishes ConditionAt (l ∷ Compare op ∷ signs) ≡ finishes RightSideAt signs
  unfolding finishes moves moves_behind first_move argument_of
  left_finishes (Word w) a op signs e = refl
  left_finishes (Variable v) a op signs e = refl
  left_finishes (Number z) a op signs e = refl
  left_finishes (Given symbol) a op signs e = given_left op signs symbol (argument_passes names (Given symbol) a e)
  left_finishes (Compare o) a op signs e = cc

  right_finishes : (r : Sign) (b : PatArg) (signs : List Sign) → argument_of names r ≡ Some b → finishes RightSideAt (r ∷ signs) ≡ finishes (AfterPattern PartCondition) signs
  unfolding finishes moves first_move
  right_finishes r b signs e = rw (argument_passes names r b e) refl

  condition_finishes : {signs : List Sign} {c : Condition} {rest : List Sign} → TakesCondition names signs c rest → opens rest ≡ false → compares rest ≡ false → finishes ConditionAt signs ≡ finishes (AfterPattern PartCondition) rest
  unfolding finishes moves moves_behind first_move
  condition_finishes (current t) closed plain = literal_finishes t closed plain
  condition_finishes (not_current t) closed plain = pattern_finishes t closed PartCondition
  condition_finishes (test {l = l} {r = r} {a = a} {b = b} {op = op} {rest = rest} e f) closed plain = left_finishes l a op (r ∷ rest) e ∙ right_finishes r b rest f

  conditions_finish : {signs : List Sign} {cs : List Condition} {rest : List Sign} → TakesConditions names signs cs rest → finishes ConditionAt signs ≡ finishes Beginning rest
  unfolding finishes moves moves_behind first_move
  conditions_finish (final t) = condition_finishes t refl refl
  conditions_finish (further t ts) = condition_finishes t refl refl ∙ conditions_finish ts

  body_finishes : {signs : List Sign} {cs : List Condition} {rest : List Sign} → TakesBody names signs cs rest → finishes (AfterPattern Head) signs ≡ finishes Beginning rest
  unfolding finishes moves moves_behind first_move
  body_finishes empty = refl
  body_finishes (conditions t) = conditions_finish t

  pub body_closed : {signs : List Sign} {cs : List Condition} {rest : List Sign} → TakesBody names signs cs rest → opens signs ≡ false
  body_closed empty = refl
  body_closed (conditions t) = refl

  pub pattern_closed : {signs : List Sign} {p : Pattern} {rest : List Sign} → TakesPattern names signs p rest → opens signs ≡ false
  pattern_closed alone = refl
  pattern_closed (applied t) = refl

  -- from one pattern to the next
  next_pattern : {signs : List Sign} {p : Pattern} {rest : List Sign} (from to : Part) → TakesPattern names signs p rest → ((s : Sign) → is_word s ≡ true → step (AfterPattern from) s ≡ Some (AfterName to)) → finishes (AfterPattern from) signs ≡ finishes (PatternAt to) signs
  unfolding finishes moves first_move
  next_pattern from to (alone {w = w}) leads = rw (leads (Word w) refl) refl
  next_pattern from to (applied {w = w} t) leads = rw (leads (Word w) refl) refl

  clause_finishes : {number : ℕ} {signs : List Sign} {c : Clause} {rest : List Sign} → TakesClause names number signs c rest → finishes Beginning signs ≡ finishes Beginning rest
  unfolding finishes moves moves_behind first_move
  clause_finishes (rule begins event head body) =
      rw begins
      (pattern_finishes event (pattern_closed head) Event ∙ next_pattern Event Head head (λ s e. rw e refl) ∙ pattern_finishes head (body_closed body) Head ∙ body_finishes body)
  clause_finishes (exclusive begins left right) =
      rw begins (pattern_finishes left (pattern_closed right) Left ∙ next_pattern Left Right right (λ s e. rw e refl) ∙ pattern_finishes right refl Right)
  clause_finishes (strong begins) = rw begins refl
  clause_finishes (initially begins prop) = rw begins (pattern_finishes prop refl Initial)
  clause_finishes (time begins named) = rw (begins, named) refl

-- a reading ends the walk at a clause's beginning
pub reading_finishes : {number : ℕ} {signs : List Sign} {theory : Theory} → ReadsFrom number signs theory → finishes Beginning signs ≡ true
unfolding finishes
reading_finishes no_more = refl
reading_finishes (one_more t reads) = clause_finishes _ t ∙ reading_finishes reads
