use Rattle.std.proofs.Common.{ap}
use Rattle.std.proofs.lemmas.Result.{err_from_is_err_and}
use Rattle.ec_theory.specs.Reader.{left_of}
use Rattle.std.proofs.Common.{length, arith}
use Rattle.ec_theory.specs.Walk.{Beginning, ConditionAt}
use Rattle.ec_theory.proofs.WalkSteps.{exit_goes, steps_signs}
use Rattle.ec_theory.proofs.ShorterRests.{condition_shorter, signs_length}
use Rattle.ec_theory.proofs.ConditionLoop.{no_conditions, condition_more, condition_last, condition_ends, condition_unended}
use Rattle.ec_theory.proofs.condition.read_conditions.Goals as goal

pub loop-body-init : goal.loop-body-init
loop-body-init c = no_conditions _ _ _ c.new-body.ensures.tests c.new-body.ensures.literals

pub loop-body-smaller : goal.loop-body-smaller
loop-body-smaller c =
    omega (
      arith,
      condition_shorter c.in_ok-condition.ensures.takes,
      ap length (steps_signs _ _ _ c.in-Some.ensures.some),
      signs_length c.loop-body.next.rest.now,
      signs_length c.in_ok-condition.behind.rest.now,
      signs_length c.in-Some.inside.rest.now,
    )

pub loop-body-preserved : goal.loop-body-preserved
loop-body-preserved c =
    condition_more c.loop-body.invariant c.in_ok-condition.ensures.takes c.in_ok-condition.ensures.goes c.push.new.self c.in_ok-push.ensures.tests c.in_ok-push.ensures.literals _ c.in-Some.ensures.some

pub returns-in_err-rest-in-None-clause-goes : goal.returns-in_err-rest-in-None-clause-goes
returns-in_err-rest-in-None-clause-goes c =
    let e = err_from_is_err_and _ c.from_residual-in_err-rest-in-None.ensures.1 in
    exit_goes ConditionAt Beginning (left_of c.args.cursor) _ _ _ e.1 e.2
    (condition_unended c.loop-body.invariant c.in_ok-condition.ensures.goes _ c.in-None.ensures.none c.in_err-rest-in-None.ensures.err)

pub returns-in-None-clause-takes : goal.returns-in-None-clause-takes
returns-in-None-clause-takes c =
    condition_last c.loop-body.invariant c.in_ok-condition.ensures.takes c.in_ok-condition.ensures.goes c.push.new.self c.in_ok-push.ensures.tests c.in_ok-push.ensures.literals _ c.in_ok-rest-in-None.ensures.ok

pub returns-in-None-clause-goes : goal.returns-in-None-clause-goes
returns-in-None-clause-goes c = condition_ends c.loop-body.invariant c.in_ok-condition.ensures.goes _ c.in_ok-rest-in-None.ensures.ok
