-- What the loops of the reader keep.
use Rattle.std.proofs.Common.{◌≡◌, ℕ, false, List, [], ◌∷◌, ◌++◌, Result, Ok, Err, sym, refl, ap, ◌∙◌, subst, append_assoc}
use Rattle.ec_terms.specs.declared.pattern.PatArg.{PatArg}
use Rattle.std.specs.Prelude.{IfOk}
use Rattle.ec_theory.specs.declared.cursor.Cursor.{Cursor}
use Rattle.ec_theory.specs.declared.syntax_fault.SyntaxFault.{SyntaxFault}
use Rattle.ec_theory.specs.Lexeme.{Lexemes}
use Rattle.ec_theory.specs.declared.sign.Symbol.TheVariants.{Open, Comma, Close}
use Rattle.ec_theory.specs.Sign.{Sign, Word, Given, signs_of, is_given, is_argument}
use Rattle.ec_theory.specs.Grammar.{TakesArguments, last, more, TakesPattern, alone, applied}
use Rattle.ec_theory.specs.Walk.{Part, ArgumentAt, AfterArgument, AfterPattern, moves, first_move, stop_of}
use Rattle.ec_theory.specs.Reader.{Steps, left_of, Refuses, TakesArgument, next_passes, IsStop}
use Rattle.ec_theory.proofs.WalkSteps.{steps_signs, step_goes, refused, refused_both, goes_on_fault, argument_passes, argument_step, no_argument_step}

-- the arguments so far: whatever arguments come next, all together stand at the first place; and the walk came here
pub record Arguments (names : List (List ℕ)) (start : Lexemes) (args : List PatArg) (here : Lexemes) : Type 0 where
  pub takes : (further : List PatArg) (rest : List Sign) → TakesArguments names (signs_of here) further rest → TakesArguments names (signs_of start) (args ++ further) rest
  pub goes : (part : Part) → stop_of (ArgumentAt part) start ≡ stop_of (ArgumentAt part) here

pub no_arguments : (names : List (List ℕ)) (start : Lexemes) → Arguments names start [] start
no_arguments names start = record { takes = λ further rest t. t; goes = λ part. refl }

module _ {names : List (List ℕ)} {start : Lexemes} {args : List PatArg} {here : Lexemes} (so_far : Arguments names start args here) where
  -- no argument comes
  pub argument_refused : (part : Part) (fault : SyntaxFault) → Refuses is_argument here fault → IsStop fault (stop_of (ArgumentAt part) start)
  argument_refused part fault refuses =
      goes_on_fault (ArgumentAt part) (ArgumentAt part) start here fault (so_far.goes part) (refused (ArgumentAt part) is_argument here fault refl (no_argument_step part) refuses)

  module _ {arg : PatArg} {behind : Lexemes} (takes : TakesArgument names here arg behind) where
    goes_behind : (part : Part) → stop_of (ArgumentAt part) start ≡ stop_of (AfterArgument part) behind
    goes_behind part = so_far.goes part ∙ step_goes (ArgumentAt part) (AfterArgument part) here takes.sign behind takes.steps (argument_step part takes.sign (argument_passes names takes.sign arg takes.argument))

    -- an argument and a comma
    pub argument_more : (inside : Lexemes) → Steps behind (Given Comma) inside → Arguments names start (args ++ arg ∷ []) inside
    unfolding moves first_move
    argument_more inside comma = record {
      takes = λ further rest t.
          let signs = steps_signs here takes.sign behind takes.steps ∙ ap (λ l. takes.sign ∷ l) (steps_signs behind (Given Comma) inside comma) in
          subst (λ l. TakesArguments names (signs_of start) l rest) (sym (append_assoc args (arg ∷ []) further))
          (so_far.takes (arg ∷ further) rest (subst (λ l. TakesArguments names l (arg ∷ further) rest) (sym signs) (more takes.argument t)));
      goes = λ part. goes_behind part ∙ step_goes (AfterArgument part) (ArgumentAt part) behind (Given Comma) inside comma refl;
    }

    -- an argument and the closing parenthesis
    pub argument_last : (rest : Lexemes) → Steps behind (Given Close) rest → TakesArguments names (signs_of start) (args ++ arg ∷ []) (signs_of rest)
    argument_last rest close =
        let signs = steps_signs here takes.sign behind takes.steps ∙ ap (λ l. takes.sign ∷ l) (steps_signs behind (Given Close) rest close) in
        so_far.takes (arg ∷ []) (signs_of rest) (subst (λ l. TakesArguments names l (arg ∷ []) (signs_of rest)) (sym signs) (last takes.argument))

    pub argument_closes : (part : Part) (rest : Lexemes) → Steps behind (Given Close) rest → stop_of (ArgumentAt part) start ≡ stop_of (AfterPattern part) rest
    unfolding moves first_move
    argument_closes part rest close = goes_behind part ∙ step_goes (AfterArgument part) (AfterPattern part) behind (Given Close) rest close refl

    -- neither a comma nor the closing parenthesis
    pub argument_unclosed : (part : Part) (fault : SyntaxFault) → next_passes (is_given Comma) behind ≡ false → Refuses (is_given Close) behind fault → IsStop fault (stop_of (ArgumentAt part) start)
    unfolding moves first_move
    argument_unclosed part fault no_comma refuses =
        goes_on_fault (ArgumentAt part) (AfterArgument part) start behind fault (goes_behind part)
        (refused_both (AfterArgument part) (is_given Comma) (is_given Close) behind fault refl (λ s e1 e2. rw (e1, e2) refl) no_comma refuses)

-- arguments behind a name
pub applied_takes : (names : List (List ℕ)) (l m : Lexemes) (r : Result (List PatArg × Cursor) SyntaxFault) → Steps l (Given Open) m → IfOk r (λ x. TakesArguments names (signs_of m) x.0 (signs_of (left_of x.1))) → IfOk r (λ x. (w : List ℕ) → TakesPattern names (Word w ∷ signs_of l) (record { name = w; args = x.0 }) (signs_of (left_of x.1)))
applied_takes names l m (Ok x) steps takes = λ w. rw (steps_signs l (Given Open) m steps) (applied takes)
applied_takes names l m (Err fault) steps takes = tt

pub alone_takes : {names : List (List ℕ)} {signs : List Sign} (args : List PatArg) → args ≡ [] → (w : List ℕ) → TakesPattern names (Word w ∷ signs) (record { name = w; args = args }) signs
alone_takes args empty w = rw empty alone
