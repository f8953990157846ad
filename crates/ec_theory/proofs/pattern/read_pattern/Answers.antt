use Rattle.std.proofs.Common.{refl, ◌∙◌, arith}
use Rattle.std.proofs.lemmas.Grind.{common_steps}
use Rattle.std.proofs.lemmas.Result.{err_from_is_err_and}
use Rattle.ec_theory.specs.Sign.{Word, is_word}
use Rattle.ec_theory.specs.Walk.{PatternAt, AfterName, AfterPattern, moves, first_move}
use Rattle.ec_theory.specs.Reader.{left_of}
use Rattle.ec_theory.proofs.WalkSteps.{step_goes, refused, goes_on_fault, exit_goes}
use Rattle.ec_theory.proofs.pattern.read_pattern.Goals as goal

pub returns-in_default-clause-goes : goal.returns-in_default-clause-goes
unfolding moves first_move
returns-in_default-clause-goes c = λ part.
    refused (PatternAt part) is_word (left_of c.args.cursor) _ refl (λ s e. rw e refl) (record { fails = c.in_default.ensures.none; place = c.fault.ensures })

pub returns-in_err-args-clause-goes : goal.returns-in_err-args-clause-goes
unfolding moves first_move
returns-in_err-args-clause-goes c = λ part.
    let e = err_from_is_err_and _ c.from_residual.ensures.1 in
    exit_goes (PatternAt part) (AfterPattern part) (left_of c.args.cursor) _ _ _ e.1 e.2
    (goes_on_fault (PatternAt part) (AfterName part) (left_of c.args.cursor) (left_of c.in-Some.behind) _
    (step_goes (PatternAt part) (AfterName part) (left_of c.args.cursor) (Word c.in-Some.text.now) (left_of c.in-Some.behind) c.in-Some.ensures.some refl) (c.in_err-args.ensures.goes part))

pub returns-clause-goes : goal.returns-clause-goes
unfolding moves first_move
returns-clause-goes c = λ part.
    step_goes (PatternAt part) (AfterName part) (left_of c.args.cursor) (Word c.in-Some.text.now) (left_of c.in-Some.behind) c.in-Some.ensures.some refl ∙ c.in_ok-args.ensures.goes part

pub returns-clause-takes : goal.returns-clause-takes
returns-clause-takes c = grind (arith, common_steps)
