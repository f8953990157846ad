use Rattle.std.proofs.Common.{arith}
use Rattle.std.proofs.lemmas.Grind.{common_steps}
use Rattle.std.proofs.lemmas.Result.{err_from_is_err_and}
use Rattle.ec_theory.specs.Reader.{left_of}
use Rattle.ec_theory.specs.Walk.{Beginning}
use Rattle.ec_theory.proofs.WalkSteps.{exit_goes, memory_stop}
use Rattle.ec_theory.proofs.clause.read_clause.Goals as goal

pub returns-in_err-names-clause-goes : goal.returns-in_err-names-clause-goes
returns-in_err-names-clause-goes c =
    let e = err_from_is_err_and _ c.from_residual.ensures.1 in
    exit_goes Beginning Beginning (left_of c.args.cursor) _ _ _ e.1 e.2 (memory_stop _ _ c.in_err-names.ensures.err)

pub returns-clause-takes : goal.returns-clause-takes
returns-clause-takes c = grind (arith, common_steps)
