use Rattle.std.proofs.Common.{arith}
use Rattle.std.proofs.lemmas.Grind.{common_steps}
use Rattle.std.proofs.lemmas.Result.{err_from_is_err_and}
use Rattle.ec_theory.specs.Walk.{ArgumentAt, AfterPattern}
use Rattle.ec_theory.specs.Reader.{left_of}
use Rattle.ec_theory.proofs.WalkSteps.{exit_goes}
use Rattle.ec_theory.proofs.ArgumentLoop.{argument_refused, argument_more, argument_last, argument_closes, argument_unclosed}
use Rattle.ec_theory.proofs.pattern.read_arguments.Goals as goal

pub returns-in_err-arg-clause-goes : goal.returns-in_err-arg-clause-goes
returns-in_err-arg-clause-goes c = λ part.
    let e = err_from_is_err_and _ c.from_residual.ensures.1 in
    exit_goes (ArgumentAt part) (AfterPattern part) (left_of c.args.cursor) _ _ _ e.1 e.2 (argument_refused c.loop-args.invariant part _ c.in_err-arg.ensures.err)

pub loop-args-preserved : goal.loop-args-preserved
loop-args-preserved c = rw c.in_ok-push.ensures.ok (argument_more c.loop-args.invariant c.in_ok-arg.ensures.takes _ c.in-Some.ensures.some)

pub returns-in_err-rest-in-None-clause-goes : goal.returns-in_err-rest-in-None-clause-goes
returns-in_err-rest-in-None-clause-goes c = λ part.
    let e = err_from_is_err_and _ c.from_residual-in_err-rest-in-None.ensures.1 in
    exit_goes (ArgumentAt part) (AfterPattern part) (left_of c.args.cursor) _ _ _ e.1 e.2
    (argument_unclosed c.loop-args.invariant c.in_ok-arg.ensures.takes part _ c.in-None.ensures.none c.in_err-rest-in-None.ensures.err)

pub returns-in-None-clause-takes : goal.returns-in-None-clause-takes
returns-in-None-clause-takes c = rw c.in_ok-push.ensures.ok (argument_last c.loop-args.invariant c.in_ok-arg.ensures.takes _ c.in_ok-rest-in-None.ensures.ok)

pub returns-in-None-clause-goes : goal.returns-in-None-clause-goes
returns-in-None-clause-goes c = λ part. argument_closes c.loop-args.invariant c.in_ok-arg.ensures.takes part _ c.in_ok-rest-in-None.ensures.ok

pub same-args-in-None : goal.same-args-in-None
same-args-in-None c = grind (arith, common_steps)

pub loop-args-init : goal.loop-args-init
loop-args-init c = grind (arith, common_steps)

pub loop-args-smaller : goal.loop-args-smaller
loop-args-smaller c = grind (arith, common_steps)
