-- What the loop over the conditions of a rule keeps.
use Rattle.std.proofs.Common.{◌≡◌, ℕ, false, List, [], ◌∷◌, ◌++◌, Result, Ok, Err, sym, refl, ap, ◌∙◌, subst, append_assoc}
use Rattle.std.specs.Prelude.{IfOk}
use Rattle.ec_theory.specs.declared.cursor.Cursor.{Cursor}
use Rattle.ec_theory.specs.declared.syntax_fault.SyntaxFault.{SyntaxFault}
use Rattle.ec_theory.specs.Lexeme.{Lexemes}
use Rattle.ec_theory.specs.declared.sign.Symbol.TheVariants.{Comma, Dot, If}
use Rattle.ec_theory.specs.declared.condition.Condition.{Condition}
use Rattle.ec_theory.specs.declared.condition.Condition.TheVariants as condition
use Rattle.ec_theory.specs.declared.condition.Body.{Body}
use Rattle.ec_theory.specs.Body.{Collects}
use Rattle.ec_theory.specs.Sign.{Sign, Given, signs_of, is_given}
use Rattle.ec_theory.specs.Grammar.{TakesCondition, TakesConditions, final, further, TakesBody, empty, conditions, tests_of, literals_of}
use Rattle.ec_theory.specs.Walk.{Condition as PartCondition, Head, Beginning, AfterPattern, ConditionAt, moves, moves_behind, first_move, stop_of}
use Rattle.ec_theory.specs.Reader.{Steps, left_of, Refuses, next_passes, IsStop}
use Rattle.ec_theory.proofs.WalkSteps.{steps_signs, step_goes, refused_both, goes_on_fault}

tests_append : (before after : List Condition) → tests_of (before ++ after) ≡ tests_of before ++ tests_of after
unfolding tests_of
tests_append [] after = refl
tests_append (condition.Literal l ∷ before) after = tests_append before after
tests_append (condition.Test t ∷ before) after = ap (λ x. t ∷ x) (tests_append before after)

literals_append : (before after : List Condition) → literals_of (before ++ after) ≡ literals_of before ++ literals_of after
unfolding literals_of
literals_append [] after = refl
literals_append (condition.Literal l ∷ before) after = ap (λ x. l ∷ x) (literals_append before after)
literals_append (condition.Test t ∷ before) after = literals_append before after

-- the conditions so far: whatever conditions come next, all together stand at the first place; and the walk came here
pub record Conditions (names : List (List ℕ)) (start : Lexemes) (body : Body) (here : Lexemes) : Type 0 where
  pub before : List Condition
  pub tests : body.tests ≡ tests_of before
  pub literals : body.literals ≡ literals_of before
  pub takes : (cs : List Condition) (rest : List Sign) → TakesConditions names (signs_of here) cs rest → TakesConditions names (signs_of start) (before ++ cs) rest
  pub goes : stop_of ConditionAt start ≡ stop_of ConditionAt here

pub no_conditions : (names : List (List ℕ)) (start : Lexemes) (body : Body) → body.tests ≡ [] → body.literals ≡ [] → Conditions names start body start
unfolding tests_of literals_of
no_conditions names start body tests literals = record { before = []; tests = tests; literals = literals; takes = λ cs rest t. t; goes = refl }

module _ {names : List (List ℕ)} {start : Lexemes} {body : Body} {here : Lexemes} (so_far : Conditions names start body here) where
  -- no condition comes
  pub condition_stops : (fault : SyntaxFault) → IsStop fault (stop_of ConditionAt here) → IsStop fault (stop_of ConditionAt start)
  condition_stops fault stop = goes_on_fault ConditionAt ConditionAt start here fault so_far.goes stop

  tests_more : (c : Condition) (body' : Body) → body'.tests ≡ body.tests ++ tests_of (c ∷ []) → body'.tests ≡ tests_of (so_far.before ++ c ∷ [])
  tests_more c body' tests = tests ∙ ap (λ l. l ++ tests_of (c ∷ [])) so_far.tests ∙ sym (tests_append so_far.before (c ∷ []))

  literals_more : (c : Condition) (body' : Body) → body'.literals ≡ body.literals ++ literals_of (c ∷ []) → body'.literals ≡ literals_of (so_far.before ++ c ∷ [])
  literals_more c body' literals = literals ∙ ap (λ l. l ++ literals_of (c ∷ [])) so_far.literals ∙ sym (literals_append so_far.before (c ∷ []))

  module _ {c : Condition} {behind : Lexemes} (takes : TakesCondition names (signs_of here) c (signs_of behind)) (goes : stop_of ConditionAt here ≡ stop_of (AfterPattern PartCondition) behind) (body' : Body) (tests : body'.tests ≡ body.tests ++ tests_of (c ∷ [])) (literals : body'.literals ≡ body.literals ++ literals_of (c ∷ [])) where
    -- a condition and a comma
    pub condition_more : (inside : Lexemes) → Steps behind (Given Comma) inside → Conditions names start body' inside
    unfolding moves moves_behind first_move
    condition_more inside comma = record {
      before = so_far.before ++ c ∷ [];
      tests = tests_more c body' tests;
      literals = literals_more c body' literals;
      takes = λ cs rest t.
          subst (λ l. TakesConditions names (signs_of start) l rest) (sym (append_assoc so_far.before (c ∷ []) cs))
          (so_far.takes (c ∷ cs) rest (further (subst (λ l. TakesCondition names (signs_of here) c l) (steps_signs behind (Given Comma) inside comma) takes) t));
      goes = so_far.goes ∙ goes ∙ step_goes (AfterPattern PartCondition) ConditionAt behind (Given Comma) inside comma refl;
    }

    -- a condition and the dot
    pub condition_last : (rest : Lexemes) → Steps behind (Given Dot) rest → Collects (λ cs. TakesConditions names (signs_of start) cs (signs_of rest)) body'
    condition_last rest dot = record {
      conditions = so_far.before ++ c ∷ [];
      takes = so_far.takes (c ∷ []) (signs_of rest) (final (subst (λ l. TakesCondition names (signs_of here) c l) (steps_signs behind (Given Dot) rest dot) takes));
      tests = tests_more c body' tests;
      literals = literals_more c body' literals;
    }

  module _ {behind : Lexemes} (goes : stop_of ConditionAt here ≡ stop_of (AfterPattern PartCondition) behind) where
    pub condition_ends : (rest : Lexemes) → Steps behind (Given Dot) rest → stop_of ConditionAt start ≡ stop_of Beginning rest
    unfolding moves moves_behind first_move
    condition_ends rest dot = so_far.goes ∙ goes ∙ step_goes (AfterPattern PartCondition) Beginning behind (Given Dot) rest dot refl

    -- neither a comma nor the dot
    pub condition_unended : (fault : SyntaxFault) → next_passes (is_given Comma) behind ≡ false → Refuses (is_given Dot) behind fault → IsStop fault (stop_of ConditionAt start)
    unfolding moves moves_behind first_move
    condition_unended fault no_comma refuses =
        goes_on_fault ConditionAt (AfterPattern PartCondition) start behind fault (so_far.goes ∙ goes)
        (refused_both (AfterPattern PartCondition) (is_given Comma) (is_given Dot) behind fault refl (λ s e1 e2. rw (e1, e2) refl) no_comma refuses)

-- the conditions of a rule behind its `if`
pub with_if : (names : List (List ℕ)) (l m : Lexemes) (r : Result (Body × Cursor) SyntaxFault) → Steps l (Given If) m → IfOk r (λ x. Collects (λ cs. TakesConditions names (signs_of m) cs (signs_of (left_of x.1))) x.0) → IfOk r (λ x. Collects (λ cs. TakesBody names (signs_of l) cs (signs_of (left_of x.1))) x.0)
with_if names l m (Ok x) steps collects = record {
  conditions = collects.conditions;
  takes = rw (steps_signs l (Given If) m steps) (conditions collects.takes);
  tests = collects.tests;
  literals = collects.literals;
}
with_if names l m (Err fault) steps collects = tt

pub if_goes : (l m : Lexemes) → Steps l (Given If) m → stop_of (AfterPattern Head) l ≡ stop_of ConditionAt m
unfolding moves moves_behind first_move
if_goes l m steps = step_goes (AfterPattern Head) ConditionAt l (Given If) m steps refl

-- no conditions
pub without_if : (names : List (List ℕ)) (l m : Lexemes) (body : Body) → Steps l (Given Dot) m → body.tests ≡ [] → body.literals ≡ [] → Collects (λ cs. TakesBody names (signs_of l) cs (signs_of m)) body
unfolding tests_of literals_of
without_if names l m body steps tests literals = record { conditions = []; takes = rw (steps_signs l (Given Dot) m steps) empty; tests = tests; literals = literals }

pub dot_goes : (l m : Lexemes) → Steps l (Given Dot) m → stop_of (AfterPattern Head) l ≡ stop_of Beginning m
unfolding moves moves_behind first_move
dot_goes l m steps = step_goes (AfterPattern Head) Beginning l (Given Dot) m steps refl

pub body_refused : (l : Lexemes) (fault : SyntaxFault) → next_passes (is_given If) l ≡ false → Refuses (is_given Dot) l fault → IsStop fault (stop_of (AfterPattern Head) l)
unfolding moves moves_behind first_move
body_refused l fault no_if refuses = refused_both (AfterPattern Head) (is_given If) (is_given Dot) l fault refl (λ s e1 e2. rw (e1, e2) refl) no_if refuses
