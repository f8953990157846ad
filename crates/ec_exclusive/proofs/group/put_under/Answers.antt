-- The group under the slot gets the property, and keeps its key.
use Rattle.std.proofs.Common.{arith}
use Rattle.std.proofs.lemmas.Grind.{common_steps}
use Rattle.ec_exclusive.proofs.group.put_under.Goals as goal

pub returns-in_ok-reserve-clause-keys : goal.returns-in_ok-reserve-clause-keys
returns-in_ok-reserve-clause-keys c = grind (arith, common_steps)

pub returns-in_ok-reserve-clause-ok : goal.returns-in_ok-reserve-clause-ok
returns-in_ok-reserve-clause-ok c = grind (arith, common_steps)

pub returns-in_err-reserve-clause-keys : goal.returns-in_err-reserve-clause-keys
returns-in_err-reserve-clause-keys c = grind (arith, common_steps)

pub returns-in_err-reserve-clause-err : goal.returns-in_err-reserve-clause-err
returns-in_err-reserve-clause-err c = grind (arith, common_steps)
