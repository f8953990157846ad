-- Where the conditions of a rule lead the walk.
use Rattle.std.proofs.Common.{◌≡◌, ℕ, true, false, List, ◌∷◌, Some, Result, Ok, Err, sym, refl, ap, ◌∙◌, subst}
use Rattle.std.proofs.lemmas.Bool.{false≢true}
use Rattle.ec_terms.specs.declared.pattern.PatArg.{PatArg}
use Rattle.ec_terms.specs.declared.theory.TestOp.{TestOp}
use Rattle.ec_theory.specs.declared.syntax_fault.SyntaxFault.{SyntaxFault}
use Rattle.ec_theory.specs.Lexeme.{Lexemes}
use Rattle.ec_theory.specs.declared.sign.Symbol.TheVariants.{Not}
use Rattle.std.specs.Prelude.{IfOk}
use Rattle.ec_theory.specs.declared.cursor.Cursor.{Cursor}
use Rattle.ec_theory.specs.declared.condition.Condition.{Condition}
use Rattle.ec_theory.specs.declared.condition.Condition.TheVariants as condition
use Rattle.ec_theory.specs.Sign.{Sign, Word, Variable, Number, Given, Compare, sign_of, signs_of, is_given, is_argument, is_word, is_compare}
use Rattle.ec_theory.specs.Grammar.{TakesCondition, current, not_current, test}
use Rattle.ec_theory.specs.Walk.{Spot, Condition as PartCondition, PatternAt, AfterName, AfterPattern, ConditionAt, AfterConditionName, CompareAt, RightSideAt, step, moves, moves_behind, first_move, stop_of}
use Rattle.ec_theory.specs.Reader.{Steps, Refuses, TakesArgument, TakesLiteral, left_of, BeginsLiteral, BeginsTest, no_word, compared, next_passes, first_passes, IsStop}
use Rattle.ec_theory.proofs.NextTokens.{steps_pass}
use Rattle.ec_theory.proofs.WalkSteps.{steps_signs, step_goes, refused, refused_both, same_stop, goes_on_fault, argument_passes}

-- what is no argument is no word
no_word_either : (s : Sign) → is_argument s ≡ false → is_word s ≡ false
no_word_either (Word w) e = e
no_word_either (Variable v) e = refl
no_word_either (Number z) e = refl
no_word_either (Given symbol) e = refl
no_word_either (Compare op) e = refl

-- one list has one first token
same_rest : (l m : Lexemes) {s s' : Sign} {k : Lexemes} → Steps l s k → Steps l s' m → m.tokens ≡ k.tokens
same_rest l m first second = let e = sym second.tokens ∙ first.tokens in cc

same_sign : (l m : Lexemes) {s s' : Sign} {k : Lexemes} → Steps l s k → Steps l s' m → s' ≡ s
same_sign l m first second = let e : second.token ∷ m.tokens ≡ first.token ∷ _ = sym second.tokens ∙ first.tokens in let t : second.token ≡ first.token = cc in sym second.sign ∙ ap sign_of t ∙ first.sign

module _ {l : Lexemes} (positive : next_passes (is_given Not) l ≡ false) where
  -- nothing that begins a condition comes
  pub condition_refused : (fault : SyntaxFault) → Refuses is_argument l fault → IsStop fault (stop_of ConditionAt l)
  unfolding moves first_move
  condition_refused fault refuses =
      refused_both ConditionAt (is_given Not) is_argument l fault refl (λ s e1 e2. rw (e1, no_word_either s e2, e2) refl) positive refuses

  module _ {names : List (List ℕ)} {left : PatArg} {m : Lexemes} (begins : BeginsTest l) (takes : TakesArgument names l left m) where
    -- the left side leads to a place where only a comparison leads on
    left_place : (spot : Spot) × (stop_of ConditionAt l ≡ stop_of spot m) × ((op : TestOp) → step spot (Compare op) ≡ Some RightSideAt) × ((fault : SyntaxFault) → Refuses is_compare m fault → IsStop fault (stop_of spot m))
    unfolding moves moves_behind first_move
    left_place = place_by begins
      where
        place_by : BeginsTest l → (spot : Spot) × (stop_of ConditionAt l ≡ stop_of spot m) × ((op : TestOp) → step spot (Compare op) ≡ Some RightSideAt) × ((fault : SyntaxFault) → Refuses is_compare m fault → IsStop fault (stop_of spot m))
        place_by (no_word fails) = (
          CompareAt,
          step_goes ConditionAt CompareAt l takes.sign m takes.steps
              (rw (sym (steps_pass (is_given Not) l takes.sign m takes.steps) ∙ positive, sym (steps_pass is_word l takes.sign m takes.steps) ∙ fails, argument_passes names takes.sign left takes.argument) refl),
          λ op. refl,
          λ fault refuses. refused CompareAt is_compare m fault refl (λ s e. rw e refl) refuses,
        )
        place_by (compared steps passes) = (
          AfterConditionName,
          step_goes ConditionAt AfterConditionName l takes.sign m takes.steps (ap (step ConditionAt) (same_sign l m steps takes.steps)),
          λ op. refl,
          λ fault refuses. absurd (false≢true (sym refuses.fails ∙ ap (first_passes is_compare) (same_rest l m steps takes.steps) ∙ passes)),
        )

    pub test_refused : (fault : SyntaxFault) → Refuses is_compare m fault → IsStop fault (stop_of ConditionAt l)
    test_refused fault refuses = goes_on_fault ConditionAt left_place.0 l m fault left_place.1 (left_place.3 fault refuses)

    module _ {op : TestOp} {k : Lexemes} (compare : Steps m (Compare op) k) where
      goes_right : stop_of ConditionAt l ≡ stop_of RightSideAt k
      goes_right = left_place.1 ∙ step_goes left_place.0 RightSideAt m (Compare op) k compare (left_place.2 op)

      pub right_refused : (fault : SyntaxFault) → Refuses is_argument k fault → IsStop fault (stop_of ConditionAt l)
      unfolding moves first_move
      right_refused fault refuses = goes_on_fault ConditionAt RightSideAt l k fault goes_right (refused RightSideAt is_argument k fault refl (λ s e. rw e refl) refuses)

      module _ {right : PatArg} {rest : Lexemes} (takes_right : TakesArgument names k right rest) where
        pub test_goes : stop_of ConditionAt l ≡ stop_of (AfterPattern PartCondition) rest
        unfolding moves first_move
        test_goes = goes_right ∙ step_goes RightSideAt (AfterPattern PartCondition) k takes_right.sign rest takes_right.steps (rw (argument_passes names takes_right.sign right takes_right.argument) refl)

        pub test_takes : TakesCondition names (signs_of l) (condition.Test (record { op = op; left = left; right = right })) (signs_of rest)
        test_takes =
            let signs = steps_signs l takes.sign m takes.steps ∙ ap (λ x. takes.sign ∷ x) (steps_signs m (Compare op) k compare ∙ ap (λ x. Compare op ∷ x) (steps_signs k takes_right.sign rest takes_right.steps)) in
            subst (λ x. TakesCondition names x (condition.Test (record { op = op; left = left; right = right })) (signs_of rest)) (sym signs) (test takes.argument takes_right.argument)

-- a name with no comparison behind it leads where a pattern leads
pub literal_goes : (l : Lexemes) → BeginsLiteral l → stop_of ConditionAt l ≡ stop_of (PatternAt PartCondition) l
unfolding moves moves_behind first_move
literal_goes l begins =
    step_goes ConditionAt AfterConditionName l (Word begins.word) begins.behind begins.steps refl
    ∙ same_stop AfterConditionName (AfterName PartCondition) is_compare begins.behind refl (λ s e. rw e refl) begins.fails
    ∙ sym (step_goes (PatternAt PartCondition) (AfterName PartCondition) l (Word begins.word) begins.behind begins.steps refl)

-- behind a `not` stands a pattern
pub not_goes : (l m : Lexemes) → Steps l (Given Not) m → stop_of ConditionAt l ≡ stop_of (PatternAt PartCondition) m
unfolding moves first_move
not_goes l m steps = step_goes ConditionAt (PatternAt PartCondition) l (Given Not) m steps refl

-- a condition on a property
pub literal_is : (names : List (List ℕ)) (l : Lexemes) (r : Result (Condition × Cursor) SyntaxFault) → IfOk r (λ x. TakesLiteral names true l x.0 (left_of x.1)) → IfOk r (λ x. TakesCondition names (signs_of l) x.0 (signs_of (left_of x.1)))
literal_is names l (Ok x) taken = rw taken.literal (current taken.takes)
literal_is names l (Err fault) taken = tt

pub literal_not : (names : List (List ℕ)) (l m : Lexemes) (r : Result (Condition × Cursor) SyntaxFault) → Steps l (Given Not) m → IfOk r (λ x. TakesLiteral names false m x.0 (left_of x.1)) → IfOk r (λ x. TakesCondition names (signs_of l) x.0 (signs_of (left_of x.1)))
literal_not names l m (Ok x) steps taken = rw (taken.literal, steps_signs l (Given Not) m steps) (not_current taken.takes)
literal_not names l m (Err fault) steps taken = tt
