use Rattle.std.proofs.lemmas.Result.{err_from_is_err_and}
use Rattle.ec_theory.specs.Reader.{left_of}
use Rattle.ec_theory.specs.Walk.{Beginning, TimeKindAt}
use Rattle.ec_theory.proofs.WalkSteps.{exit_goes}
use Rattle.ec_theory.proofs.ClauseWalk.{time_refused, time_unended, time_ends, time_takes}
use Rattle.ec_theory.proofs.clause.read_time.Goals as goal

pub returns-in_default-clause-goes : goal.returns-in_default-clause-goes
returns-in_default-clause-goes c = time_refused (left_of c.args.cursor) _ (record { fails = c.in_default.ensures.none; place = c.fault.ensures })

pub returns-in_err-rest-clause-goes : goal.returns-in_err-rest-clause-goes
returns-in_err-rest-clause-goes c =
    let e = err_from_is_err_and _ c.from_residual.ensures.1 in
    exit_goes TimeKindAt Beginning (left_of c.args.cursor) _ _ _ e.1 e.2
    (time_unended (left_of c.args.cursor) c.in-Some.ensures.some _ c.in_err-rest.ensures.err)

pub returns-clause-takes : goal.returns-clause-takes
returns-clause-takes c = λ names w begins. time_takes (left_of c.args.cursor) c.in-Some.ensures.some c.in_ok-rest.ensures.ok names c.args.number w begins

pub returns-clause-goes : goal.returns-clause-goes
returns-clause-goes c = time_ends (left_of c.args.cursor) c.in-Some.ensures.some c.in_ok-rest.ensures.ok
