use Rattle.std.proofs.Common.{◌∙◌}
use Rattle.std.proofs.lemmas.Result.{err_from_is_err_and}
use Rattle.ec_theory.specs.Reader.{left_of}
use Rattle.ec_theory.specs.Walk.{Beginning, PatternAt, AfterPattern, Event, Head}
use Rattle.ec_theory.proofs.WalkSteps.{exit_goes, goes_on_fault}
use Rattle.ec_theory.proofs.ClauseWalk.{event_to_head, rule_takes}
use Rattle.ec_theory.proofs.clause.read_rule.Goals as goal

pub returns-in_err-head-clause-goes : goal.returns-in_err-head-clause-goes
returns-in_err-head-clause-goes c =
    let e = err_from_is_err_and _ c.from_residual-in_err-head.ensures.1 in
    exit_goes (PatternAt Event) Beginning (left_of c.args.cursor) _ _ _ e.1 e.2
    (goes_on_fault (PatternAt Event) (PatternAt Head) (left_of c.args.cursor) (left_of c.in_ok-event.behind_event) _
    (c.in_ok-event.ensures.goes Event ∙ event_to_head (left_of c.in_ok-event.behind_event)) (c.in_err-head.ensures.goes Head))

pub returns-in_err-body-clause-goes : goal.returns-in_err-body-clause-goes
returns-in_err-body-clause-goes c =
    let e = err_from_is_err_and _ c.from_residual-in_err-body.ensures.1 in
    exit_goes (PatternAt Event) Beginning (left_of c.args.cursor) _ _ _ e.1 e.2
    (goes_on_fault (PatternAt Event) (AfterPattern Head) (left_of c.args.cursor) (left_of c.in_ok-head.behind_head) _
    (c.in_ok-event.ensures.goes Event ∙ event_to_head (left_of c.in_ok-event.behind_event) ∙ c.in_ok-head.ensures.goes Head) c.in_err-body.ensures.goes)

pub returns-clause-takes : goal.returns-clause-takes
returns-clause-takes c = λ w begins. rule_takes c.in_ok-body.body w begins c.in_ok-event.ensures.takes c.in_ok-head.ensures.takes c.in_ok-body.ensures.takes

pub returns-clause-goes : goal.returns-clause-goes
returns-clause-goes c =
    c.in_ok-event.ensures.goes Event ∙ event_to_head (left_of c.in_ok-event.behind_event) ∙ c.in_ok-head.ensures.goes Head ∙ c.in_ok-body.ensures.goes
