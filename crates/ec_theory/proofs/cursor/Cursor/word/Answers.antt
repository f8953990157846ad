use Rattle.std.proofs.Common.{subst, arith}
use Rattle.std.proofs.lemmas.Grind.{common_steps}
use Rattle.ec_theory.specs.Reader.{IsNamed}
use Rattle.ec_theory.proofs.cursor.Cursor.word.Goals as goal

pub returns-clause-name : goal.returns-clause-name
unfolding IsNamed
returns-clause-name c = subst IsNamed c.in_ok-word.ensures.some c.in_ok-sign.ensures.named

pub returns-in_err-sign-clause-name : goal.returns-in_err-sign-clause-name
returns-in_err-sign-clause-name c = grind (arith, common_steps)

pub returns-in_err-word-clause-some : goal.returns-in_err-word-clause-some
returns-in_err-word-clause-some c = grind (arith, common_steps)

pub returns-in_err-word-clause-name : goal.returns-in_err-word-clause-name
returns-in_err-word-clause-name c = grind (arith, common_steps)

pub returns-in_err-sign-clause-some : goal.returns-in_err-sign-clause-some
returns-in_err-sign-clause-some c = grind (arith, common_steps)

pub returns-clause-some : goal.returns-clause-some
returns-clause-some c = grind (arith, common_steps)
