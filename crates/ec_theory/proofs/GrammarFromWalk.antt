-- Where the walk over some tokens ends at a clause's beginning, the grammar reads them.
use Rattle.std.proofs.Common.{◌≡◌, ℕ, ◌+◌, Bool, true, false, cond, eqb, List, [], ◌∷◌, ℤ, Option, Some, None, ◌⊎◌, inl, inr, ⊎_elim, refl, sym, ◌∙◌, subst, eqb-true, ap}
use Rattle.std.specs.Prelude.{is_some}
use Rattle.std.specs.Option.{option_map_or}
use Rattle.std.proofs.lemmas.Bool.{false≢true}
use Rattle.ec_terms.specs.declared.pattern.PatArg.{PatArg}
use Rattle.ec_terms.specs.declared.pattern.PatArg.TheVariants.{Var, Any, Fixed}
use Rattle.ec_terms.specs.declared.ground.Arg.TheVariants.{Int, Word as Named}
use Rattle.ec_terms.specs.declared.pattern.Pattern.{Pattern}
use Rattle.ec_terms.specs.declared.theory.TestOp.{TestOp}
use Rattle.ec_terms.specs.declared.theory.TimeKind.{TimeKind}
use Rattle.ec_terms.specs.declared.theory.Theory.{Theory}
use Rattle.ec_theory.specs.declared.condition.Condition.{Condition}
use Rattle.ec_theory.specs.declared.condition.Condition.TheVariants as condition
use Rattle.ec_theory.specs.declared.clause.Clause.TheVariants as clause
use Rattle.ec_theory.specs.declared.sign.Symbol.{Symbol}
use Rattle.ec_theory.specs.declared.sign.Symbol.TheVariants.{If, Not, Anything, Open, Close, Comma, Dot, Slash}
use Rattle.ec_theory.specs.declared.sign.Keyword.{Keyword}
use Rattle.ec_theory.specs.declared.sign.Keyword.TheVariants.{Rule, Exclusive, Strong, Initially, Time}
use Rattle.ec_theory.specs.Sign.{Sign, Word, Variable, Number, Given, Compare, symbol_number, keyword_of, time_kind_of, variables_of, argument_of, number_of, is_given, is_word, is_number, is_compare, is_argument, is_time_kind, is_keyword, is_rule, is_exclusive, is_strong, is_initially, is_time}
use Rattle.ec_theory.specs.Grammar.{TakesArguments, last, more, TakesPattern, alone, applied, TakesCondition, current, not_current, test, TakesConditions, final, further, TakesBody, empty, conditions, rule, exclusive, strong, initially, time, tests_of, literals_of, ReadsFrom, no_more, one_more, no_clauses, with_clause}
use Rattle.ec_theory.specs.Walk.{Part, Event, Head, Left, Right, Condition as PartCondition, Initial, Spot, Beginning, PatternAt, AfterName, ArgumentAt, AfterArgument, AfterPattern, ConditionAt, AfterConditionName, CompareAt, RightSideAt, StrongNameAt, SlashAt, ArityAt, AfterArity, TimeKindAt, AfterTimeKind, Move, on, moves, moves_behind, first_move, is_beginning}
use Rattle.ec_theory.proofs.WalkEnds.{finishes}

-- ---- what the tokens from a place on are

-- clauses stand from here on, whatever number the first gets
abbrev Readable : List Sign → Type 0
Readable signs = (number : ℕ) → (theory : Theory) × ReadsFrom number signs theory

-- the dot and then clauses
record DotThenClauses (signs : List Sign) : Type 0 where
  rest : List Sign
  dot : signs ≡ Given Dot ∷ rest
  readable : Readable rest

module _ (names : List (List ℕ)) where
  record ConditionsThenClauses (signs : List Sign) : Type 0 where
    list : List Condition
    rest : List Sign
    takes : TakesConditions names signs list rest
    readable : Readable rest

  -- behind a condition the dot stands, or a comma and further conditions
  data AfterCondition (signs : List Sign) : Type 0 where
    ended : DotThenClauses signs → AfterCondition signs
    goes_on : {middle : List Sign} → signs ≡ Given Comma ∷ middle → ConditionsThenClauses middle → AfterCondition signs

  record OneCondition (signs : List Sign) : Type 0 where
    one : Condition
    rest : List Sign
    takes : TakesCondition names signs one rest
    after : AfterCondition rest

  record BodyThenClauses (signs : List Sign) : Type 0 where
    list : List Condition
    rest : List Sign
    takes : TakesBody names signs list rest
    readable : Readable rest

  record HeadThenBody (signs : List Sign) : Type 0 where
    head : Pattern
    middle : List Sign
    takes : TakesPattern names signs head middle
    body : BodyThenClauses middle

  record RightThenDot (signs : List Sign) : Type 0 where
    pattern : Pattern
    rest : List Sign
    takes : TakesPattern names signs pattern rest
    dot : DotThenClauses rest

  -- what stands behind a pattern
  abbrev BehindPattern : Part → List Sign → Type 0
  BehindPattern Event signs = HeadThenBody signs
  BehindPattern Head signs = BodyThenClauses signs
  BehindPattern Left signs = RightThenDot signs
  BehindPattern Right signs = DotThenClauses signs
  BehindPattern PartCondition signs = AfterCondition signs
  BehindPattern Initial signs = DotThenClauses signs

  record PatternThen (part : Part) (signs : List Sign) : Type 0 where
    pattern : Pattern
    rest : List Sign
    takes : TakesPattern names signs pattern rest
    behind : BehindPattern part rest

  record NameThen (part : Part) (signs : List Sign) : Type 0 where
    args : List PatArg
    rest : List Sign
    takes : (w : List ℕ) → TakesPattern names (Word w ∷ signs) (record { name = w; args = args }) rest
    behind : BehindPattern part rest

  record ArgumentsThen (part : Part) (signs : List Sign) : Type 0 where
    args : List PatArg
    rest : List Sign
    takes : TakesArguments names signs args rest
    behind : BehindPattern part rest

  record RightSideThen (signs : List Sign) : Type 0 where
    sign : Sign
    arg : PatArg
    rest : List Sign
    is : signs ≡ sign ∷ rest
    argument : argument_of names sign ≡ Some arg
    after : AfterCondition rest

-- the end of a strong declaration
abbrev ArityThen : List Sign → Type 0
ArityThen signs = (arity : ℤ) × (rest : List Sign) × (signs ≡ Number arity ∷ Given Dot ∷ rest) × Readable rest

abbrev SlashThen : List Sign → Type 0
SlashThen signs = (arity : ℤ) × (rest : List Sign) × (signs ≡ Given Slash ∷ Number arity ∷ Given Dot ∷ rest) × Readable rest

abbrev StrongNameThen : List Sign → Type 0
StrongNameThen signs = (name : List ℕ) × (arity : ℤ) × (rest : List Sign) × (signs ≡ Word name ∷ Given Slash ∷ Number arity ∷ Given Dot ∷ rest) × Readable rest

-- the end of a time declaration
abbrev TimeKindThen : List Sign → Type 0
TimeKindThen signs = (name : List ℕ) × (kind : TimeKind) × (rest : List Sign) × (signs ≡ Word name ∷ Given Dot ∷ rest) × (time_kind_of name ≡ Some kind) × Readable rest

-- what the tokens are that lead from a place to a clause's beginning
abbrev Means : Spot → List (List ℕ) → List Sign → Type 0
Means Beginning names signs = Readable signs
Means (PatternAt part) names signs = PatternThen names part signs
Means (AfterName part) names signs = NameThen names part signs
Means (ArgumentAt part) names signs = ArgumentsThen names part signs
Means (AfterArgument part) names signs = (s : Sign) (a : PatArg) → argument_of names s ≡ Some a → ArgumentsThen names part (s ∷ signs)
Means (AfterPattern part) names signs = BehindPattern names part signs
Means ConditionAt names signs = ConditionsThenClauses names signs
Means AfterConditionName names signs = (w : List ℕ) → OneCondition names (Word w ∷ signs)
Means CompareAt names signs = (s : Sign) (a : PatArg) → argument_of names s ≡ Some a → OneCondition names (s ∷ signs)
Means RightSideAt names signs = RightSideThen names signs
Means StrongNameAt names signs = StrongNameThen signs
Means SlashAt names signs = SlashThen signs
Means ArityAt names signs = ArityThen signs
Means AfterArity names signs = DotThenClauses signs
Means TimeKindAt names signs = TimeKindThen signs
Means AfterTimeKind names signs = DotThenClauses signs

-- ---- what a token is that passes a test

with_word : (P : Sign → Type 0) (s : Sign) → is_word s ≡ true → ((w : List ℕ) → P (Word w)) → P s
with_word P (Word w) e p = p w
with_word P (Variable v) e p = absurd (false≢true e)
with_word P (Number z) e p = absurd (false≢true e)
with_word P (Given symbol) e p = absurd (false≢true e)
with_word P (Compare op) e p = absurd (false≢true e)

with_number : (P : Sign → Type 0) (s : Sign) → is_number s ≡ true → ((z : ℤ) → P (Number z)) → P s
with_number P (Number z) e p = p z
with_number P (Word w) e p = absurd (false≢true e)
with_number P (Variable v) e p = absurd (false≢true e)
with_number P (Given symbol) e p = absurd (false≢true e)
with_number P (Compare op) e p = absurd (false≢true e)

with_compare : (P : Sign → Type 0) (s : Sign) → is_compare s ≡ true → ((op : TestOp) → P (Compare op)) → P s
with_compare P (Compare op) e p = p op
with_compare P (Word w) e p = absurd (false≢true e)
with_compare P (Variable v) e p = absurd (false≢true e)
with_compare P (Number z) e p = absurd (false≢true e)
with_compare P (Given symbol) e p = absurd (false≢true e)

-- the symbol with a number
symbol_with : ℕ → Symbol
symbol_with n = cond (eqb n 0) If (cond (eqb n 1) Not (cond (eqb n 2) Anything (cond (eqb n 3) Open (cond (eqb n 4) Close (cond (eqb n 5) Comma (cond (eqb n 6) Dot Slash))))))

symbol_with-number : (symbol : Symbol) → symbol_with (symbol_number symbol) ≡ symbol
unfolding symbol_with
symbol_with-number If = refl
symbol_with-number Not = refl
symbol_with-number Anything = refl
symbol_with-number Open = refl
symbol_with-number Close = refl
symbol_with-number Comma = refl
symbol_with-number Dot = refl
symbol_with-number Slash = refl

-- a symbol is known by its number
same_symbol : (a b : Symbol) → symbol_number a ≡ symbol_number b → a ≡ b
same_symbol a b same = sym (symbol_with-number a) ∙ ap symbol_with same ∙ symbol_with-number b

with_given : (P : Sign → Type 0) (symbol : Symbol) (s : Sign) → is_given symbol s ≡ true → P (Given symbol) → P s
with_given P symbol (Given other) e p = subst (λ x. P (Given x)) (same_symbol symbol other (eqb-true _ _ e)) p
with_given P symbol (Word w) e p = absurd (false≢true e)
with_given P symbol (Variable v) e p = absurd (false≢true e)
with_given P symbol (Number z) e p = absurd (false≢true e)
with_given P symbol (Compare op) e p = absurd (false≢true e)

keyword_by : (begins : Keyword → Bool) (o : Option Keyword) → option_map_or begins o false ≡ true → (k : Keyword) × (o ≡ Some k) × (begins k ≡ true)
keyword_by begins None e = absurd (false≢true e)
keyword_by begins (Some k) e = (k, refl, e)

with_keyword : (P : Sign → Type 0) (begins : Keyword → Bool) (s : Sign) → is_keyword begins s ≡ true → ((w : List ℕ) (k : Keyword) → keyword_of w ≡ Some k → begins k ≡ true → P (Word w)) → P s
with_keyword P begins (Word w) e p = let by = keyword_by begins (keyword_of w) e in p w by.0 by.1 by.2
with_keyword P begins (Variable v) e p = absurd (false≢true e)
with_keyword P begins (Number z) e p = absurd (false≢true e)
with_keyword P begins (Given symbol) e p = absurd (false≢true e)
with_keyword P begins (Compare op) e p = absurd (false≢true e)

time_kind_by : (o : Option TimeKind) → is_some o ≡ true → (kind : TimeKind) × (o ≡ Some kind)
time_kind_by None e = absurd (false≢true e)
time_kind_by (Some kind) e = (kind, refl)

with_time_kind : (P : Sign → Type 0) (s : Sign) → is_time_kind s ≡ true → ((w : List ℕ) (kind : TimeKind) → time_kind_of w ≡ Some kind → P (Word w)) → P s
with_time_kind P (Word w) e p = let by = time_kind_by (time_kind_of w) e in p w by.0 by.1
with_time_kind P (Variable v) e p = absurd (false≢true e)
with_time_kind P (Number z) e p = absurd (false≢true e)
with_time_kind P (Given symbol) e p = absurd (false≢true e)
with_time_kind P (Compare op) e p = absurd (false≢true e)

as_argument : (names : List (List ℕ)) (s : Sign) → is_argument s ≡ true → (a : PatArg) × (argument_of names s ≡ Some a)
unfolding argument_of
as_argument names (Word w) e = (Fixed (Named w), refl)
as_argument names (Variable v) e = (Var (number_of names v), refl)
as_argument names (Number z) e = (Fixed (Int z), refl)
as_argument names (Given symbol) e = (Any, rw e refl)
as_argument names (Compare op) e = absurd (false≢true e)

-- ---- one step

-- the walk goes on by the first of the moves that the token passes
abbrev goes_by : List Move → Sign → List Sign → Bool
goes_by ms s signs = option_map_or (λ next. finishes next signs) (first_move ms s) false

module _ (s : Sign) (signs : List Sign) where
  by_first : (passes : Sign → Bool) (next : Spot) (ms : List Move) → goes_by (on passes next ∷ ms) s signs ≡ true → ((passes s ≡ true) × (finishes next signs ≡ true)) ⊎ (goes_by ms s signs ≡ true)
  unfolding first_move
  by_first passes next ms e = by_test (passes s) refl e
    where
      by_test : (t : Bool) → passes s ≡ t → option_map_or (λ n. finishes n signs) (cond t (Some next) (first_move ms s)) false ≡ true → ((passes s ≡ true) × (finishes next signs ≡ true)) ⊎ (goes_by ms s signs ≡ true)
      by_test true p e = inl (p, e)
      by_test false p e = inr e

  by_only : (passes : Sign → Bool) (next : Spot) → goes_by (on passes next ∷ []) s signs ≡ true → (passes s ≡ true) × (finishes next signs ≡ true)
  unfolding first_move
  by_only passes next e = ⊎_elim (λ p. p) (λ none. absurd (false≢true none)) (by_first passes next [] e)

-- a condition, and what stands behind it
conditions_from : (names : List (List ℕ)) (signs : List Sign) → OneCondition names signs → ConditionsThenClauses names signs
conditions_from names signs c = by_after c.after
  where
    by_after : AfterCondition names c.rest → ConditionsThenClauses names signs
    by_after (ended e) = record { list = c.one ∷ []; rest = e.rest; takes = final (subst (λ x. TakesCondition names signs c.one x) e.dot c.takes); readable = e.readable }
    by_after (goes_on is later) = record { list = c.one ∷ later.list; rest = later.rest; takes = further (subst (λ x. TakesCondition names signs c.one x) is c.takes) later.takes; readable = later.readable }

module _ (s : Sign) (signs : List Sign) (later : (next : Spot) → finishes next signs ≡ true → (names : List (List ℕ)) → Means next names signs) (names : List (List ℕ)) where
  dot_then : is_given Dot s ≡ true → finishes Beginning signs ≡ true → DotThenClauses (s ∷ signs)
  dot_then dot ends = with_given (λ x. DotThenClauses (x ∷ signs)) Dot s dot (record { rest = signs; dot = refl; readable = later Beginning ends names })

  after_condition : goes_by (moves_behind PartCondition) s signs ≡ true → AfterCondition names (s ∷ signs)
  unfolding moves_behind
  after_condition e =
      ⊎_elim (λ comma. with_given (λ x. AfterCondition names (x ∷ signs)) Comma s comma.0 (goes_on refl (later ConditionAt comma.1 names)))
      (λ e2. let dot = by_only s signs (is_given Dot) Beginning e2 in ended (dot_then dot.0 dot.1))
      (by_first s signs (is_given Comma) ConditionAt _ e)

  behind_pattern : (part : Part) → goes_by (moves_behind part) s signs ≡ true → BehindPattern names part (s ∷ signs)
  unfolding moves_behind
  behind_pattern Event e =
      let m = by_only s signs is_word (AfterName Head) e in
      let name = later (AfterName Head) m.1 names in
      with_word (λ x. HeadThenBody names (x ∷ signs)) s m.0 (λ w. record { head = record { name = w; args = name.args }; middle = name.rest; takes = name.takes w; body = name.behind })
  behind_pattern Head e =
      ⊎_elim (λ m. let list = later ConditionAt m.1 names in with_given (λ x. BodyThenClauses names (x ∷ signs)) If s m.0 (record { list = list.list; rest = list.rest; takes = conditions list.takes; readable = list.readable }))
      (λ e2. let m = by_only s signs (is_given Dot) Beginning e2 in with_given (λ x. BodyThenClauses names (x ∷ signs)) Dot s m.0 (record { list = []; rest = signs; takes = empty; readable = later Beginning m.1 names }))
      (by_first s signs (is_given If) ConditionAt _ e)
  behind_pattern Left e =
      let m = by_only s signs is_word (AfterName Right) e in
      let name = later (AfterName Right) m.1 names in
      with_word (λ x. RightThenDot names (x ∷ signs)) s m.0 (λ w. record { pattern = record { name = w; args = name.args }; rest = name.rest; takes = name.takes w; dot = name.behind })
  behind_pattern Right e = let m = by_only s signs (is_given Dot) Beginning e in dot_then m.0 m.1
  behind_pattern PartCondition e = after_condition e
  behind_pattern Initial e = let m = by_only s signs (is_given Dot) Beginning e in dot_then m.0 m.1

  -- a pattern that begins with this token
  pattern_then : (part : Part) → is_word s ≡ true → finishes (AfterName part) signs ≡ true → PatternThen names part (s ∷ signs)
  pattern_then part word ends =
      let name = later (AfterName part) ends names in
      with_word (λ x. PatternThen names part (x ∷ signs)) s word (λ w. record { pattern = record { name = w; args = name.args }; rest = name.rest; takes = name.takes w; behind = name.behind })

  after_name : (part : Part) → goes_by (on (is_given Open) (ArgumentAt part) ∷ moves_behind part) s signs ≡ true → NameThen names part (s ∷ signs)
  after_name part e =
      ⊎_elim (λ m. let args = later (ArgumentAt part) m.1 names in with_given (λ x. NameThen names part (x ∷ signs)) Open s m.0 (record { args = args.args; rest = args.rest; takes = λ w. applied args.takes; behind = args.behind }))
      (λ e2. record { args = []; rest = s ∷ signs; takes = λ w. alone; behind = behind_pattern part e2 })
      (by_first s signs (is_given Open) (ArgumentAt part) _ e)

  -- a comparison and its right side behind its left side
  compared_then : (l : Sign) (a : PatArg) → argument_of names l ≡ Some a → is_compare s ≡ true → finishes RightSideAt signs ≡ true → OneCondition names (l ∷ s ∷ signs)
  compared_then l a argument compare ends =
      let right = later RightSideAt ends names in
      with_compare (λ x. OneCondition names (l ∷ x ∷ signs)) s compare
      (λ op. record {
        one = condition.Test (record { op = op; left = a; right = right.arg });
        rest = right.rest;
        takes = subst (λ x. TakesCondition names (l ∷ Compare op ∷ x) (condition.Test (record { op = op; left = a; right = right.arg })) right.rest) (sym right.is) (test argument right.argument);
        after = right.after;
      })

  after_condition_name : goes_by (on is_compare RightSideAt ∷ on (is_given Open) (ArgumentAt PartCondition) ∷ moves_behind PartCondition) s signs ≡ true → (w : List ℕ) → OneCondition names (Word w ∷ s ∷ signs)
  unfolding argument_of
  after_condition_name e w =
      ⊎_elim (λ m. compared_then (Word w) (Fixed (Named w)) refl m.0 m.1)
      (λ e2. let name = after_name PartCondition e2 in record { one = condition.Literal (record { positive = true; prop = record { name = w; args = name.args } }); rest = name.rest; takes = current (name.takes w); after = name.behind })
      (by_first s signs is_compare RightSideAt _ e)

  -- a condition that begins with this token
  condition_at : goes_by (moves ConditionAt) s signs ≡ true → ConditionsThenClauses names (s ∷ signs)
  unfolding moves
  condition_at e =
      ⊎_elim (λ m. let p = later (PatternAt PartCondition) m.1 names in conditions_from names (s ∷ signs) (with_given (λ x. OneCondition names (x ∷ signs)) Not s m.0 (record { one = condition.Literal (record { positive = false; prop = p.pattern }); rest = p.rest; takes = not_current p.takes; after = p.behind })))
      (λ e2. ⊎_elim (λ m. conditions_from names (s ∷ signs) (with_word (λ x. OneCondition names (x ∷ signs)) s m.0 (later AfterConditionName m.1 names)))
      (λ e3. let m = by_only s signs is_argument CompareAt e3 in let a = as_argument names s m.0 in conditions_from names (s ∷ signs) (later CompareAt m.1 names s a.0 a.1))
      (by_first s signs is_word AfterConditionName _ e2))
      (by_first s signs (is_given Not) (PatternAt PartCondition) _ e)

  after_argument : (part : Part) → goes_by (on (is_given Comma) (ArgumentAt part) ∷ on (is_given Close) (AfterPattern part) ∷ []) s signs ≡ true → (l : Sign) (a : PatArg) → argument_of names l ≡ Some a → ArgumentsThen names part (l ∷ s ∷ signs)
  after_argument part e l a argument =
      ⊎_elim (λ m. let args = later (ArgumentAt part) m.1 names in with_given (λ x. ArgumentsThen names part (l ∷ x ∷ signs)) Comma s m.0 (record { args = a ∷ args.args; rest = args.rest; takes = more argument args.takes; behind = args.behind }))
      (λ e2. let m = by_only s signs (is_given Close) (AfterPattern part) e2 in with_given (λ x. ArgumentsThen names part (l ∷ x ∷ signs)) Close s m.0 (record { args = a ∷ []; rest = signs; takes = last argument; behind = later (AfterPattern part) m.1 names }))
      (by_first s signs (is_given Comma) (ArgumentAt part) _ e)

module _ (s : Sign) (signs : List Sign) (later : (next : Spot) → finishes next signs ≡ true → (names : List (List ℕ)) → Means next names signs) where
  -- a clause that begins with this token
  rule_then : is_keyword is_rule s ≡ true → finishes (PatternAt Event) signs ≡ true → Readable (s ∷ signs)
  rule_then keyword ends = with_keyword (λ x. Readable (x ∷ signs)) is_rule s keyword by_keyword
    where
      by_keyword : (w : List ℕ) (k : Keyword) → keyword_of w ≡ Some k → is_rule k ≡ true → Readable (Word w ∷ signs)
      by_keyword w (Rule kind) begins is number =
          let event = later (PatternAt Event) ends (variables_of (Word w ∷ signs)) in
          let head = event.behind in
          let next = head.body.readable (number + 1) in (
            with_clause (clause.Rule (record { clause = number; kind = kind; event = event.pattern; head = head.head; tests = tests_of head.body.list; literals = literals_of head.body.list })) next.0,
            one_more (rule begins event.takes head.takes head.body.takes) next.1,
          )
      by_keyword w Exclusive begins is number = absurd (false≢true is)
      by_keyword w Strong begins is number = absurd (false≢true is)
      by_keyword w Initially begins is number = absurd (false≢true is)
      by_keyword w Time begins is number = absurd (false≢true is)

  exclusive_then : is_keyword is_exclusive s ≡ true → finishes (PatternAt Left) signs ≡ true → Readable (s ∷ signs)
  exclusive_then keyword ends = with_keyword (λ x. Readable (x ∷ signs)) is_exclusive s keyword by_keyword
    where
      by_keyword : (w : List ℕ) (k : Keyword) → keyword_of w ≡ Some k → is_exclusive k ≡ true → Readable (Word w ∷ signs)
      by_keyword w Exclusive begins is number =
          let names = variables_of (Word w ∷ signs) in
          let left = later (PatternAt Left) ends names in
          let right = left.behind in
          let next = right.dot.readable (number + 1) in (
            with_clause (clause.Exclusive (record { clause = number; left = left.pattern; right = right.pattern })) next.0,
            one_more (exclusive begins left.takes (subst (λ x. TakesPattern names left.rest right.pattern x) right.dot.dot right.takes)) next.1,
          )
      by_keyword w (Rule kind) begins is number = absurd (false≢true is)
      by_keyword w Strong begins is number = absurd (false≢true is)
      by_keyword w Initially begins is number = absurd (false≢true is)
      by_keyword w Time begins is number = absurd (false≢true is)

  strong_then : is_keyword is_strong s ≡ true → finishes StrongNameAt signs ≡ true → Readable (s ∷ signs)
  strong_then keyword ends = with_keyword (λ x. Readable (x ∷ signs)) is_strong s keyword by_keyword
    where
      by_keyword : (w : List ℕ) (k : Keyword) → keyword_of w ≡ Some k → is_strong k ≡ true → Readable (Word w ∷ signs)
      by_keyword w Strong begins is number =
          let name = later StrongNameAt ends [] in
          let next = name.4 (number + 1) in (
            with_clause (clause.Strong (record { clause = number; name = name.0; arity = name.1 })) next.0,
            subst (λ x. ReadsFrom number (Word w ∷ x) (with_clause (clause.Strong (record { clause = number; name = name.0; arity = name.1 })) next.0)) (sym name.3) (one_more (strong begins) next.1),
          )
      by_keyword w (Rule kind) begins is number = absurd (false≢true is)
      by_keyword w Exclusive begins is number = absurd (false≢true is)
      by_keyword w Initially begins is number = absurd (false≢true is)
      by_keyword w Time begins is number = absurd (false≢true is)

  initially_then : is_keyword is_initially s ≡ true → finishes (PatternAt Initial) signs ≡ true → Readable (s ∷ signs)
  initially_then keyword ends = with_keyword (λ x. Readable (x ∷ signs)) is_initially s keyword by_keyword
    where
      by_keyword : (w : List ℕ) (k : Keyword) → keyword_of w ≡ Some k → is_initially k ≡ true → Readable (Word w ∷ signs)
      by_keyword w Initially begins is number =
          let names = variables_of (Word w ∷ signs) in
          let prop = later (PatternAt Initial) ends names in
          let next = prop.behind.readable (number + 1) in (
            with_clause (clause.Initial (record { clause = number; prop = prop.pattern })) next.0,
            one_more (initially begins (subst (λ x. TakesPattern names signs prop.pattern x) prop.behind.dot prop.takes)) next.1,
          )
      by_keyword w (Rule kind) begins is number = absurd (false≢true is)
      by_keyword w Exclusive begins is number = absurd (false≢true is)
      by_keyword w Strong begins is number = absurd (false≢true is)
      by_keyword w Time begins is number = absurd (false≢true is)

  time_then : is_keyword is_time s ≡ true → finishes TimeKindAt signs ≡ true → Readable (s ∷ signs)
  time_then keyword ends = with_keyword (λ x. Readable (x ∷ signs)) is_time s keyword by_keyword
    where
      by_keyword : (w : List ℕ) (k : Keyword) → keyword_of w ≡ Some k → is_time k ≡ true → Readable (Word w ∷ signs)
      by_keyword w Time begins is number =
          let kind = later TimeKindAt ends [] in
          let next = kind.5 (number + 1) in (
            with_clause (clause.Time (record { clause = number; kind = kind.1 })) next.0,
            subst (λ x. ReadsFrom number (Word w ∷ x) (with_clause (clause.Time (record { clause = number; kind = kind.1 })) next.0)) (sym kind.3) (one_more (time begins kind.4) next.1),
          )
      by_keyword w (Rule kind) begins is number = absurd (false≢true is)
      by_keyword w Exclusive begins is number = absurd (false≢true is)
      by_keyword w Strong begins is number = absurd (false≢true is)
      by_keyword w Initially begins is number = absurd (false≢true is)

  step_means : (spot : Spot) → goes_by (moves spot) s signs ≡ true → (names : List (List ℕ)) → Means spot names (s ∷ signs)
  unfolding moves
  step_means Beginning e names =
      ⊎_elim (λ m. rule_then m.0 m.1)
      (λ e2. ⊎_elim (λ m. exclusive_then m.0 m.1)
      (λ e3. ⊎_elim (λ m. strong_then m.0 m.1)
      (λ e4. ⊎_elim (λ m. initially_then m.0 m.1)
      (λ e5. let m = by_only s signs (is_keyword is_time) TimeKindAt e5 in time_then m.0 m.1)
      (by_first s signs (is_keyword is_initially) (PatternAt Initial) _ e4))
      (by_first s signs (is_keyword is_strong) StrongNameAt _ e3))
      (by_first s signs (is_keyword is_exclusive) (PatternAt Left) _ e2))
      (by_first s signs (is_keyword is_rule) (PatternAt Event) _ e)
  step_means (PatternAt part) e names = let m = by_only s signs is_word (AfterName part) e in pattern_then s signs later names part m.0 m.1
  step_means (AfterName part) e names = after_name s signs later names part e
  step_means (ArgumentAt part) e names =
      let m = by_only s signs is_argument (AfterArgument part) e in
      let a = as_argument names s m.0 in
      later (AfterArgument part) m.1 names s a.0 a.1
  step_means (AfterArgument part) e names = after_argument s signs later names part e
  step_means (AfterPattern part) e names = behind_pattern s signs later names part e
  step_means ConditionAt e names = condition_at s signs later names e
  step_means AfterConditionName e names = after_condition_name s signs later names e
  step_means CompareAt e names = let m = by_only s signs is_compare RightSideAt e in λ l a argument. compared_then s signs later names l a argument m.0 m.1
  step_means RightSideAt e names =
      let m = by_only s signs is_argument (AfterPattern PartCondition) e in
      let a = as_argument names s m.0 in
      record { sign = s; arg = a.0; rest = signs; is = refl; argument = a.1; after = later (AfterPattern PartCondition) m.1 names }
  step_means StrongNameAt e names =
      let m = by_only s signs is_word SlashAt e in
      let end = later SlashAt m.1 names in
      with_word (λ x. StrongNameThen (x ∷ signs)) s m.0 (λ w. (w, end.0, end.1, ap (λ x. Word w ∷ x) end.2, end.3))
  step_means SlashAt e names =
      let m = by_only s signs (is_given Slash) ArityAt e in
      let end = later ArityAt m.1 names in
      with_given (λ x. SlashThen (x ∷ signs)) Slash s m.0 (end.0, end.1, ap (λ x. Given Slash ∷ x) end.2, end.3)
  step_means ArityAt e names =
      let m = by_only s signs is_number AfterArity e in
      let end = later AfterArity m.1 names in
      with_number (λ x. ArityThen (x ∷ signs)) s m.0 (λ z. (z, end.rest, ap (λ x. Number z ∷ x) end.dot, end.readable))
  step_means AfterArity e names = let m = by_only s signs (is_given Dot) Beginning e in dot_then s signs later names m.0 m.1
  step_means TimeKindAt e names =
      let m = by_only s signs is_time_kind AfterTimeKind e in
      let end = later AfterTimeKind m.1 names in
      with_time_kind (λ x. TimeKindThen (x ∷ signs)) s m.0 (λ w kind named. (w, kind, end.rest, ap (λ x. Word w ∷ x) end.dot, named, end.readable))
  step_means AfterTimeKind e names = let m = by_only s signs (is_given Dot) Beginning e in dot_then s signs later names m.0 m.1

-- no token is left
at_end : (spot : Spot) → is_beginning spot ≡ true → (names : List (List ℕ)) → Means spot names []
at_end Beginning e names = λ number. (no_clauses, no_more)
at_end (PatternAt part) e names = absurd (false≢true e)
at_end (AfterName part) e names = absurd (false≢true e)
at_end (ArgumentAt part) e names = absurd (false≢true e)
at_end (AfterArgument part) e names = absurd (false≢true e)
at_end (AfterPattern part) e names = absurd (false≢true e)
at_end ConditionAt e names = absurd (false≢true e)
at_end AfterConditionName e names = absurd (false≢true e)
at_end CompareAt e names = absurd (false≢true e)
at_end RightSideAt e names = absurd (false≢true e)
at_end StrongNameAt e names = absurd (false≢true e)
at_end SlashAt e names = absurd (false≢true e)
at_end ArityAt e names = absurd (false≢true e)
at_end AfterArity e names = absurd (false≢true e)
at_end TimeKindAt e names = absurd (false≢true e)
at_end AfterTimeKind e names = absurd (false≢true e)

meant : (signs : List Sign) (spot : Spot) → finishes spot signs ≡ true → (names : List (List ℕ)) → Means spot names signs
unfolding finishes
meant [] spot e names = at_end spot e names
meant (s ∷ signs) spot e names = step_means s signs (meant signs) spot e names

-- where the walk ends at a clause's beginning there is a reading
pub finishes_reads : (number : ℕ) (signs : List Sign) → finishes Beginning signs ≡ true → (theory : Theory) × ReadsFrom number signs theory
finishes_reads number signs ends = meant signs Beginning ends [] number
