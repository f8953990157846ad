use Rattle.std.proofs.Common.{◌∙◌}
use Rattle.std.proofs.lemmas.Result.{err_from_is_err_and}
use Rattle.ec_theory.specs.Reader.{left_of}
use Rattle.ec_theory.specs.Walk.{Beginning, PatternAt, AfterPattern, Initial}
use Rattle.ec_theory.proofs.WalkSteps.{exit_goes, goes_on_fault}
use Rattle.ec_theory.proofs.ClauseWalk.{initial_ends, initial_refused, initial_takes}
use Rattle.ec_theory.proofs.clause.read_initial.Goals as goal

pub returns-in_err-rest-clause-goes : goal.returns-in_err-rest-clause-goes
returns-in_err-rest-clause-goes c =
    let e = err_from_is_err_and _ c.from_residual-in_err-rest.ensures.1 in
    exit_goes (PatternAt Initial) Beginning (left_of c.args.cursor) _ _ _ e.1 e.2
    (goes_on_fault (PatternAt Initial) (AfterPattern Initial) (left_of c.args.cursor) (left_of c.in_ok-prop.behind) _
    (c.in_ok-prop.ensures.goes Initial) (initial_refused (left_of c.in_ok-prop.behind) _ c.in_err-rest.ensures.err))

pub returns-clause-takes : goal.returns-clause-takes
returns-clause-takes c = λ w begins. initial_takes (left_of c.in_ok-prop.behind) (left_of c.in_ok-rest.rest) w begins c.in_ok-prop.ensures.takes c.in_ok-rest.ensures.ok

pub returns-clause-goes : goal.returns-clause-goes
returns-clause-goes c = c.in_ok-prop.ensures.goes Initial ∙ initial_ends (left_of c.in_ok-prop.behind) (left_of c.in_ok-rest.rest) c.in_ok-rest.ensures.ok
