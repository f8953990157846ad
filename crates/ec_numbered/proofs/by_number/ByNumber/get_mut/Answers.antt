-- The row that is lent is the one that stands under the number.
use Rattle.std.proofs.Common.{arith}
use Rattle.std.proofs.lemmas.Grind.{common_steps}
use Rattle.ec_numbered.proofs.by_number.ByNumber.get_mut.Goals as goal

pub returns : goal.returns
returns g c = grind (arith, common_steps)

pub returns-in_err-self-inside : goal.returns-in_err-self-inside
returns-in_err-self-inside c = grind (arith, common_steps)

pub invariant_of-self-lent-2 : goal.invariant_of-self-lent-2
invariant_of-self-lent-2 c = grind (arith, common_steps)
