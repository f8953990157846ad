use Rattle.std.proofs.lemmas.Result.{err_from_is_err_and}
use Rattle.ec_theory.specs.Walk.{Condition as PartCondition, ConditionAt, AfterPattern}
use Rattle.ec_theory.specs.Reader.{left_of}
use Rattle.ec_theory.proofs.WalkSteps.{exit_goes}
use Rattle.ec_theory.proofs.ConditionWalk.{condition_refused, test_refused, right_refused, test_goes, test_takes}
use Rattle.ec_theory.proofs.condition.read_test.Goals as goal

pub returns-in_err-left-clause-goes : goal.returns-in_err-left-clause-goes
returns-in_err-left-clause-goes c =
    let e = err_from_is_err_and _ c.from_residual.ensures.1 in
    exit_goes ConditionAt (AfterPattern PartCondition) (left_of c.args.cursor) _ _ _ e.1 e.2 (condition_refused c.requires.positive _ c.in_err-left.ensures.err)

pub returns-in_default-clause-goes : goal.returns-in_default-clause-goes
returns-in_default-clause-goes c = test_refused c.requires.positive c.requires.test c.in_ok-left.ensures.takes _ (record { fails = c.in_default.ensures.none; place = c.fault.ensures })

pub returns-in_err-right-clause-goes : goal.returns-in_err-right-clause-goes
returns-in_err-right-clause-goes c =
    let e = err_from_is_err_and _ c.from_residual-in_err-right.ensures.1 in
    exit_goes ConditionAt (AfterPattern PartCondition) (left_of c.args.cursor) _ _ _ e.1 e.2
    (right_refused c.requires.positive c.requires.test c.in_ok-left.ensures.takes c.in-Some.ensures.some _ c.in_err-right.ensures.err)

pub returns-clause-takes : goal.returns-clause-takes
returns-clause-takes c = test_takes c.requires.positive c.requires.test c.in_ok-left.ensures.takes c.in-Some.ensures.some c.in_ok-right.ensures.takes

pub returns-clause-goes : goal.returns-clause-goes
returns-clause-goes c = test_goes c.requires.positive c.requires.test c.in_ok-left.ensures.takes c.in-Some.ensures.some c.in_ok-right.ensures.takes
