-- What follows from the calls and the tests before it.
use Rattle.std.proofs.Common.{arith}
use Rattle.std.proofs.lemmas.Grind.{common_steps}
use Rattle.ec_theory.proofs.cursor.Cursor.compare.Goals as goal

pub returns-in_err-sign-clause-some : goal.returns-in_err-sign-clause-some
returns-in_err-sign-clause-some c = grind (arith, common_steps)

pub returns-in_err-compare-clause-some : goal.returns-in_err-compare-clause-some
returns-in_err-compare-clause-some c = grind (arith, common_steps)

pub returns-clause-some : goal.returns-clause-some
returns-clause-some c = grind (arith, common_steps)
