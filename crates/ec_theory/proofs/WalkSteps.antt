-- One step of the walk, and where it stops.
use Rattle.std.proofs.Common.{◌≡◌, ℕ, Bool, true, false, cond, List, [], ◌∷◌, map, Option, Some, None, Result, Ok, Err, sym, refl, ap, ◌∙◌}
use Rattle.std.specs.Option.{option_map_or}
use Rattle.ec_theory.specs.declared.place.Place.{Place}
use Rattle.ec_theory.specs.Lexeme.{Lexeme, Lexemes}
use Rattle.ec_terms.specs.declared.pattern.PatArg.{PatArg}
use Rattle.ec_terms.specs.declared.pattern.PatArg.TheVariants.{Any}
use Rattle.ec_theory.specs.declared.cursor.Cursor.{Cursor}
use Rattle.ec_theory.specs.declared.syntax_fault.SyntaxFault.{SyntaxFault}
use Rattle.ec_theory.specs.declared.syntax_fault.SyntaxFault.TheVariants.{Syntax, Memory}
use Rattle.ec_theory.specs.declared.sign.Symbol.TheVariants.{Anything}
use Rattle.ec_theory.specs.Sign.{Sign, Word, Variable, Number, Given, Compare, sign_of, signs_of, argument_of, is_argument, is_given}
use Rattle.ec_theory.specs.Walk.{Part, Spot, ArgumentAt, AfterArgument, step, moves, first_move, first_stop, stop_of, is_beginning}
use Rattle.ec_theory.specs.Reader.{Steps, first_passes, next_passes, place_at, Refuses, Goes, IsStop}

-- a token that was taken is the first sign
pub steps_signs : (l : Lexemes) (s : Sign) (m : Lexemes) → Steps l s m → signs_of l ≡ s ∷ signs_of m
steps_signs l s m steps = ap (map sign_of) steps.tokens ∙ ap (λ x. x ∷ signs_of m) steps.sign

-- a token that leads on
pub step_goes : (spot next : Spot) (l : Lexemes) (s : Sign) (m : Lexemes) → Steps l s m → step spot s ≡ Some next → stop_of spot l ≡ stop_of next m
unfolding first_stop
step_goes spot next l s m steps leads =
    ap (λ ts. first_stop spot ts l.end) steps.tokens
    ∙ ap (λ o. option_map_or (λ n. first_stop n m.tokens l.end) o (Some steps.token.place)) (ap (step spot) steps.sign ∙ leads)
    ∙ ap (first_stop next m.tokens) (sym steps.end)

-- a token that leads nowhere, or the end within a clause
refused_at : (spot : Spot) (test : Sign → Bool) (tokens : List Lexeme) (end : Place) → is_beginning spot ≡ false → ((s : Sign) → test s ≡ false → step spot s ≡ None) → first_passes test tokens ≡ false → first_stop spot tokens end ≡ Some (place_at tokens end)
unfolding first_stop first_passes place_at
refused_at spot test [] end within stops fails = rw within refl
refused_at spot test (t ∷ tokens) end within stops fails = ap (λ o. option_map_or (λ n. first_stop n tokens end) o (Some t.place)) (stops (sign_of t) fails)

pub refused : (spot : Spot) (test : Sign → Bool) (l : Lexemes) (fault : SyntaxFault) → is_beginning spot ≡ false → ((s : Sign) → test s ≡ false → step spot s ≡ None) → Refuses test l fault → IsStop fault (stop_of spot l)
refused spot test l fault within stops refuses = rw refuses.place (refused_at spot test l.tokens l.end within stops refuses.fails)

-- the same, where another test failed before
refused_both_at : (spot : Spot) (first test : Sign → Bool) (tokens : List Lexeme) (end : Place) → is_beginning spot ≡ false → ((s : Sign) → first s ≡ false → test s ≡ false → step spot s ≡ None) → first_passes first tokens ≡ false → first_passes test tokens ≡ false → first_stop spot tokens end ≡ Some (place_at tokens end)
unfolding first_stop first_passes place_at
refused_both_at spot first test [] end within stops fails fails2 = rw within refl
refused_both_at spot first test (t ∷ tokens) end within stops fails fails2 = ap (λ o. option_map_or (λ n. first_stop n tokens end) o (Some t.place)) (stops (sign_of t) fails fails2)

pub refused_both : (spot : Spot) (first test : Sign → Bool) (l : Lexemes) (fault : SyntaxFault) → is_beginning spot ≡ false → ((s : Sign) → first s ≡ false → test s ≡ false → step spot s ≡ None) → next_passes first l ≡ false → Refuses test l fault → IsStop fault (stop_of spot l)
refused_both spot first test l fault within stops fails refuses = rw refuses.place (refused_both_at spot first test l.tokens l.end within stops fails refuses.fails)

-- two places from which every token that fails the test leads to the same
same_at : (from to : Spot) (test : Sign → Bool) (tokens : List Lexeme) (end : Place) → is_beginning from ≡ is_beginning to → ((s : Sign) → test s ≡ false → step from s ≡ step to s) → first_passes test tokens ≡ false → first_stop from tokens end ≡ first_stop to tokens end
unfolding first_stop first_passes
same_at from to test [] end within same fails = rw within refl
same_at from to test (t ∷ tokens) end within same fails = ap (λ o. option_map_or (λ n. first_stop n tokens end) o (Some t.place)) (same (sign_of t) fails)

pub same_stop : (from to : Spot) (test : Sign → Bool) (l : Lexemes) → is_beginning from ≡ is_beginning to → ((s : Sign) → test s ≡ false → step from s ≡ step to s) → next_passes test l ≡ false → stop_of from l ≡ stop_of to l
same_stop from to test l within same fails = same_at from to test l.tokens l.end within same fails

none_passes : (tokens : List Lexeme) → first_passes (λ s. false) tokens ≡ false
unfolding first_passes
none_passes [] = refl
none_passes (t ∷ tokens) = refl

pub same_row : (from to : Spot) (l : Lexemes) → is_beginning from ≡ is_beginning to → ((s : Sign) → step from s ≡ step to s) → stop_of from l ≡ stop_of to l
same_row from to l within same = same_stop from to (λ s. false) l within (λ s _. same s) (none_passes l.tokens)

-- what failed further on stops the walk from here too
pub goes_on_fault : (from middle : Spot) (l m : Lexemes) (fault : SyntaxFault) → stop_of from l ≡ stop_of middle m → IsStop fault (stop_of middle m) → IsStop fault (stop_of from l)
goes_on_fault from middle l m (Syntax place) goes stop = goes ∙ stop
goes_on_fault from middle l m Memory goes stop = tt

-- want of memory stops nothing
pub memory_stop : (fault : SyntaxFault) (stop : Option Place) → fault ≡ Memory → IsStop fault stop
memory_stop fault stop e = rw e tt

-- what is an argument passes the test, and what is none fails it
pub argument_passes : (names : List (List ℕ)) (s : Sign) (a : PatArg) → argument_of names s ≡ Some a → is_argument s ≡ true
unfolding argument_of
argument_passes names (Word w) a e = refl
argument_passes names (Variable v) a e = refl
argument_passes names (Number z) a e = refl
argument_passes names (Given symbol) a e = given_argument (is_given Anything (Given symbol)) e
  where
    given_argument : (t : Bool) → (cond t (Some Any) None ≡ Some a) → t ≡ true
    given_argument true e = refl
    given_argument false e = cc
argument_passes names (Compare op) a e = cc

pub no_argument_fails : (names : List (List ℕ)) (s : Sign) → argument_of names s ≡ None → is_argument s ≡ false
unfolding argument_of
no_argument_fails names (Word w) e = cc
no_argument_fails names (Variable v) e = cc
no_argument_fails names (Number z) e = cc
no_argument_fails names (Given symbol) e = given_none (is_given Anything (Given symbol)) e
  where
    given_none : (t : Bool) → (◌≡◌ {A = Option PatArg} (cond t (Some Any) None) None) → t ≡ false
    given_none true e = cc
    given_none false e = refl
no_argument_fails names (Compare op) e = refl

-- an argument leads behind it
pub argument_step : (part : Part) (s : Sign) → is_argument s ≡ true → step (ArgumentAt part) s ≡ Some (AfterArgument part)
unfolding moves first_move
argument_step part s e = rw e refl

pub no_argument_step : (part : Part) (s : Sign) → is_argument s ≡ false → step (ArgumentAt part) s ≡ None
unfolding moves first_move
no_argument_step part s e = rw e refl

-- a part that begins further on
pub goes_from : {X : Type 0} (from middle to : Spot) (l m : Lexemes) (r : Result (X × Cursor) SyntaxFault) → stop_of from l ≡ stop_of middle m → Goes middle to m r → Goes from to l r
goes_from from middle to l m (Ok x) goes rest = goes ∙ rest
goes_from from middle to l m (Err fault) goes rest = goes_on_fault from middle l m fault goes rest

-- the exit by `?`
pub exit_goes : {X : Type 0} (from to : Spot) (l : Lexemes) (r : Result (X × Cursor) SyntaxFault) (fault y : SyntaxFault) → r ≡ Err y → y ≡ fault → IsStop fault (stop_of from l) → Goes from to l r
exit_goes from to l r fault y is same stop = rw (is, same) stop
