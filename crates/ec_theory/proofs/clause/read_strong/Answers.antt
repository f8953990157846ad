use Rattle.std.proofs.Common.{SFits, w64, rules}
use Rattle.std.proofs.lemmas.Int.{to_z-of_z}
use Rattle.std.proofs.lemmas.Result.{err_from_is_err_and}
use Rattle.ec_theory.specs.Reader.{left_of}
use Rattle.ec_theory.specs.Walk.{Beginning, StrongNameAt}
use Rattle.ec_theory.proofs.WalkSteps.{exit_goes}
use Rattle.ec_theory.proofs.ClauseWalk.{strong_refused, slash_refused, arity_refused, strong_unended, strong_ends, strong_takes}
use Rattle.ec_theory.proofs.clause.read_strong.Goals as goal

pub returns-in_default-clause-goes : goal.returns-in_default-clause-goes
returns-in_default-clause-goes c = strong_refused (left_of c.args.cursor) _ (record { fails = c.in_default.ensures.none; place = c.fault.ensures })

pub returns-in_err-behind_slash-clause-goes : goal.returns-in_err-behind_slash-clause-goes
returns-in_err-behind_slash-clause-goes c =
    let e = err_from_is_err_and _ c.from_residual.ensures.1 in
    exit_goes StrongNameAt Beginning (left_of c.args.cursor) _ _ _ e.1 e.2 (slash_refused (left_of c.args.cursor) c.in-Some.ensures.some _ c.in_err-behind_slash.ensures.err)

pub returns-in_default-number-clause-goes : goal.returns-in_default-number-clause-goes
returns-in_default-number-clause-goes c =
    arity_refused (left_of c.args.cursor) c.in-Some.ensures.some c.in_ok-behind_slash.ensures.ok _ (record { fails = c.in_default-number.ensures.none; place = c.fault-in_default-number.ensures })

pub returns-in_err-rest-clause-goes : goal.returns-in_err-rest-clause-goes
returns-in_err-rest-clause-goes c =
    let e = err_from_is_err_and _ c.from_residual-in_err-rest.ensures.1 in
    exit_goes StrongNameAt Beginning (left_of c.args.cursor) _ _ _ e.1 e.2
    (strong_unended (left_of c.args.cursor) c.in-Some.ensures.some c.in_ok-behind_slash.ensures.ok c.in-Some-number.ensures.some _ c.in_err-rest.ensures.err)

pub returns-clause-takes : goal.returns-clause-takes
returns-clause-takes c = λ names w begins.
    let fits : SFits w64 c.in-Some-number.arity = search rules in
    rw (c.name_of.ensures, to_z-of_z w64 c.in-Some-number.arity fits) (strong_takes (left_of c.args.cursor) c.in-Some.ensures.some c.in_ok-behind_slash.ensures.ok c.in-Some-number.ensures.some c.in_ok-rest.ensures.ok names c.args.number w begins)

pub returns-clause-goes : goal.returns-clause-goes
returns-clause-goes c = strong_ends (left_of c.args.cursor) c.in-Some.ensures.some c.in_ok-behind_slash.ensures.ok c.in-Some-number.ensures.some c.in_ok-rest.ensures.ok
