use Rattle.std.proofs.Common.{◌∙◌}
use Rattle.std.proofs.lemmas.Result.{err_from_is_err_and}
use Rattle.ec_theory.specs.Reader.{left_of}
use Rattle.ec_theory.specs.Walk.{Beginning, PatternAt, AfterPattern, Left, Right}
use Rattle.ec_theory.proofs.WalkSteps.{exit_goes, goes_on_fault}
use Rattle.ec_theory.proofs.ClauseWalk.{left_to_right, right_ends, right_refused, exclusive_takes}
use Rattle.ec_theory.proofs.clause.read_exclusive.Goals as goal

pub returns-in_err-right-clause-goes : goal.returns-in_err-right-clause-goes
returns-in_err-right-clause-goes c =
    let e = err_from_is_err_and _ c.from_residual-in_err-right.ensures.1 in
    exit_goes (PatternAt Left) Beginning (left_of c.args.cursor) _ _ _ e.1 e.2
    (goes_on_fault (PatternAt Left) (PatternAt Right) (left_of c.args.cursor) (left_of c.in_ok-left.behind_left) _
    (c.in_ok-left.ensures.goes Left ∙ left_to_right (left_of c.in_ok-left.behind_left)) (c.in_err-right.ensures.goes Right))

pub returns-in_err-rest-clause-goes : goal.returns-in_err-rest-clause-goes
returns-in_err-rest-clause-goes c =
    let e = err_from_is_err_and _ c.from_residual-in_err-rest.ensures.1 in
    exit_goes (PatternAt Left) Beginning (left_of c.args.cursor) _ _ _ e.1 e.2
    (goes_on_fault (PatternAt Left) (AfterPattern Right) (left_of c.args.cursor) (left_of c.in_ok-right.behind_right) _
    (c.in_ok-left.ensures.goes Left ∙ left_to_right (left_of c.in_ok-left.behind_left) ∙ c.in_ok-right.ensures.goes Right)
    (right_refused (left_of c.in_ok-right.behind_right) _ c.in_err-rest.ensures.err))

pub returns-clause-takes : goal.returns-clause-takes
returns-clause-takes c = λ w begins. exclusive_takes (left_of c.in_ok-right.behind_right) (left_of c.in_ok-rest.rest) w begins c.in_ok-left.ensures.takes c.in_ok-right.ensures.takes c.in_ok-rest.ensures.ok

pub returns-clause-goes : goal.returns-clause-goes
returns-clause-goes c =
    c.in_ok-left.ensures.goes Left ∙ left_to_right (left_of c.in_ok-left.behind_left) ∙ c.in_ok-right.ensures.goes Right
    ∙ right_ends (left_of c.in_ok-right.behind_right) (left_of c.in_ok-rest.rest) c.in_ok-rest.ensures.ok
