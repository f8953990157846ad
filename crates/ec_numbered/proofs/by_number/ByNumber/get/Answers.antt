-- What follows from the calls and the tests before it.
use Rattle.std.proofs.Common.{arith}
use Rattle.std.proofs.lemmas.Grind.{common_steps}
use Rattle.ec_numbered.proofs.by_number.ByNumber.get.Goals as goal

pub returns-in_err-get : goal.returns-in_err-get
returns-in_err-get c = grind (arith, common_steps)

pub returns : goal.returns
returns c = grind (arith, common_steps)
