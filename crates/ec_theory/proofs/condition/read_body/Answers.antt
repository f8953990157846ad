use Rattle.std.proofs.lemmas.Result.{err_from_is_err_and}
use Rattle.ec_theory.specs.Reader.{left_of}
use Rattle.ec_theory.specs.Walk.{Beginning, AfterPattern, Head, ConditionAt}
use Rattle.ec_theory.proofs.WalkSteps.{exit_goes, goes_from}
use Rattle.ec_theory.proofs.ConditionLoop.{with_if, if_goes, without_if, dot_goes, body_refused}
use Rattle.ec_theory.proofs.condition.read_body.Goals as goal

pub returns-in_err-rest-in-None-clause-goes : goal.returns-in_err-rest-in-None-clause-goes
returns-in_err-rest-in-None-clause-goes c =
    let e = err_from_is_err_and _ c.from_residual.ensures.1 in
    exit_goes (AfterPattern Head) Beginning (left_of c.args.cursor) _ _ _ e.1 e.2 (body_refused (left_of c.args.cursor) _ c.in-None.ensures.none c.in_err-rest-in-None.ensures.err)

pub returns-in-Some-clause-takes : goal.returns-in-Some-clause-takes
returns-in-Some-clause-takes c = with_if _ (left_of c.args.cursor) _ _ c.in-Some.ensures.some c.read_conditions.ensures.takes

pub returns-in-Some-clause-goes : goal.returns-in-Some-clause-goes
returns-in-Some-clause-goes c =
    goes_from (AfterPattern Head) ConditionAt Beginning (left_of c.args.cursor) _ _ (if_goes (left_of c.args.cursor) _ c.in-Some.ensures.some) c.read_conditions.ensures.goes

pub returns-in_ok-rest-in-None-clause-takes : goal.returns-in_ok-rest-in-None-clause-takes
returns-in_ok-rest-in-None-clause-takes c = without_if _ (left_of c.args.cursor) _ _ c.in_ok-rest-in-None.ensures.ok c.new.ensures.tests c.new.ensures.literals

pub returns-in_ok-rest-in-None-clause-goes : goal.returns-in_ok-rest-in-None-clause-goes
returns-in_ok-rest-in-None-clause-goes c = dot_goes (left_of c.args.cursor) _ c.in_ok-rest-in-None.ensures.ok
