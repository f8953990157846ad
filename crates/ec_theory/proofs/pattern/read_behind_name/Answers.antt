use Rattle.std.proofs.Common.{refl}
use Rattle.ec_theory.specs.declared.sign.Symbol.TheVariants.{Open}
use Rattle.ec_theory.specs.Sign.{Given, is_given}
use Rattle.ec_theory.specs.Walk.{AfterName, ArgumentAt, AfterPattern, moves, first_move}
use Rattle.ec_theory.specs.Reader.{left_of}
use Rattle.ec_theory.proofs.WalkSteps.{step_goes, goes_from, same_stop}
use Rattle.ec_theory.proofs.ArgumentLoop.{applied_takes, alone_takes}
use Rattle.ec_theory.proofs.pattern.read_behind_name.Goals as goal

pub returns-in-Some-clause-takes : goal.returns-in-Some-clause-takes
returns-in-Some-clause-takes c = applied_takes _ (left_of c.args.cursor) (left_of c.in-Some.inside) _ c.in-Some.ensures.some c.read_arguments.ensures.takes

pub returns-in-Some-clause-goes : goal.returns-in-Some-clause-goes
unfolding moves first_move
returns-in-Some-clause-goes c = λ part.
    goes_from (AfterName part) (ArgumentAt part) (AfterPattern part) (left_of c.args.cursor) (left_of c.in-Some.inside) _
    (step_goes (AfterName part) (ArgumentAt part) (left_of c.args.cursor) (Given Open) (left_of c.in-Some.inside) c.in-Some.ensures.some refl) (c.read_arguments.ensures.goes part)

pub returns-in-None-clause-takes : goal.returns-in-None-clause-takes
returns-in-None-clause-takes c = alone_takes _ c.new.ensures

pub returns-in-None-clause-goes : goal.returns-in-None-clause-goes
unfolding moves first_move
returns-in-None-clause-goes c = λ part. same_stop (AfterName part) (AfterPattern part) (is_given Open) (left_of c.args.cursor) refl (λ s e. rw e refl) c.in-None.ensures.none
