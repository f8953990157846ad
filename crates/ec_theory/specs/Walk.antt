-- The walk over the tokens of a theory: the places within a clause, and where a token at each place leads.
use Rattle.std.specs.Prelude.{◌≡◌, Bool, true, false, if◌then◌else◌, List, [], ◌∷◌, map, Option, Some, None, option_and_then, IsTrue}
use Rattle.std.specs.List.{list_all}
use Rattle.std.specs.Option.{option_map_or}
use Rattle.ec_theory.specs.declared.place.Place.{Place}
use Rattle.ec_theory.specs.Lexeme.{Lexeme, Lexemes, is_spelt}
use Rattle.ec_theory.specs.declared.sign.Symbol.TheVariants.{If, Not, Open, Close, Comma, Dot, Slash}
use Rattle.ec_theory.specs.Sign.{Sign, sign_of, is_given, is_word, is_number, is_compare, is_argument, is_time_kind, is_keyword, is_rule, is_exclusive, is_strong, is_initially, is_time}

-- what a pattern is in its clause
pub data Part : Type 0 where
  Event Head Left Right Condition Initial : Part

-- a place within a clause: what comes next, or what came last
pub data Spot : Type 0 where
  Beginning : Spot
  PatternAt AfterName ArgumentAt AfterArgument AfterPattern : Part → Spot
  ConditionAt AfterConditionName CompareAt RightSideAt : Spot
  StrongNameAt SlashAt ArityAt AfterArity : Spot
  TimeKindAt AfterTimeKind : Spot

-- ---- the table

-- a test of the next token, and where it leads
pub record Move : Type 0 where
  pub test : Sign → Bool
  pub next : Spot

abbrev pub on : (Sign → Bool) → Spot → Move
on test next = record { test = test; next = next }

-- where the tokens behind a pattern lead
unfoldable pub moves_behind : Part → List Move
moves_behind Event = on is_word (AfterName Head) ∷ []
moves_behind Head = on (is_given If) ConditionAt ∷ on (is_given Dot) Beginning ∷ []
moves_behind Left = on is_word (AfterName Right) ∷ []
moves_behind Right = on (is_given Dot) Beginning ∷ []
moves_behind Condition = on (is_given Comma) ConditionAt ∷ on (is_given Dot) Beginning ∷ []
moves_behind Initial = on (is_given Dot) Beginning ∷ []

-- where the tokens at a place lead; of several the first counts
unfoldable pub moves : Spot → List Move
moves Beginning =
    on (is_keyword is_rule) (PatternAt Event) ∷ on (is_keyword is_exclusive) (PatternAt Left) ∷ on (is_keyword is_strong) StrongNameAt
    ∷ on (is_keyword is_initially) (PatternAt Initial) ∷ on (is_keyword is_time) TimeKindAt ∷ []
moves (PatternAt part) = on is_word (AfterName part) ∷ []
moves (AfterName part) = on (is_given Open) (ArgumentAt part) ∷ moves_behind part
moves (ArgumentAt part) = on is_argument (AfterArgument part) ∷ []
moves (AfterArgument part) = on (is_given Comma) (ArgumentAt part) ∷ on (is_given Close) (AfterPattern part) ∷ []
moves (AfterPattern part) = moves_behind part
moves ConditionAt = on (is_given Not) (PatternAt Condition) ∷ on is_word AfterConditionName ∷ on is_argument CompareAt ∷ []
moves AfterConditionName = on is_compare RightSideAt ∷ on (is_given Open) (ArgumentAt Condition) ∷ moves_behind Condition
moves CompareAt = on is_compare RightSideAt ∷ []
moves RightSideAt = on is_argument (AfterPattern Condition) ∷ []
moves StrongNameAt = on is_word SlashAt ∷ []
moves SlashAt = on (is_given Slash) ArityAt ∷ []
moves ArityAt = on is_number AfterArity ∷ []
moves AfterArity = on (is_given Dot) Beginning ∷ []
moves TimeKindAt = on is_time_kind AfterTimeKind ∷ []
moves AfterTimeKind = on (is_given Dot) Beginning ∷ []

-- the first of the moves that a token passes
unfoldable pub first_move : List Move → Sign → Option Spot
first_move [] s = None
first_move (m ∷ ms) s = if m.test s then Some m.next else first_move ms s

-- the place that a token leads to, or none
abbrev pub step : Spot → Sign → Option Spot
step spot s = first_move (moves spot) s

-- ---- the walk

-- the place that the tokens lead to, or none
unfoldable pub walk : Spot → List Sign → Option Spot
walk spot [] = Some spot
walk spot (s ∷ signs) = option_and_then (λ next. walk next signs) (step spot s)

-- tokens lead from a place back to a clause's beginning
pub record LeadsBack (spot : Spot) : Type 0 where
  pub tokens : List Lexeme
  pub spelt : IsTrue (list_all is_spelt tokens)
  pub back : walk spot (map sign_of tokens) ≡ Some Beginning

-- a clause may begin here
abbrev pub is_beginning : Spot → Bool
is_beginning Beginning = true
is_beginning (PatternAt part) = false
is_beginning (AfterName part) = false
is_beginning (ArgumentAt part) = false
is_beginning (AfterArgument part) = false
is_beginning (AfterPattern part) = false
is_beginning ConditionAt = false
is_beginning AfterConditionName = false
is_beginning CompareAt = false
is_beginning RightSideAt = false
is_beginning StrongNameAt = false
is_beginning SlashAt = false
is_beginning ArityAt = false
is_beginning AfterArity = false
is_beginning TimeKindAt = false
is_beginning AfterTimeKind = false

-- The place of the first token that leads nowhere; where all lead on, but not to a clause's beginning, the end; none otherwise.
unfoldable pub first_stop : Spot → List Lexeme → Place → Option Place
first_stop spot [] end = if is_beginning spot then None else Some end
first_stop spot (t ∷ tokens) end = option_map_or (λ next. first_stop next tokens end) (step spot (sign_of t)) (Some t.place)

-- the same for the tokens of a whole text
abbrev pub stop_of : Spot → Lexemes → Option Place
stop_of spot l = first_stop spot l.tokens l.end
