-- The bit says that the entry is active.
use Rattle.std.proofs.Common.{arith}
use Rattle.std.proofs.lemmas.Grind.{common_steps}
use Rattle.ec_query.proofs.causes.is_active_cause.Goals as goal

pub returns-then-has_bit : goal.returns-then-has_bit
returns-then-has_bit g c = λ events p shown on there.
    let bit = c.has_bit.ensures in
    let wanted = c.is_sought-wanted.ensures events p shown on there in
    let set = c.if-has_bit.true in grind arith

pub returns-else-has_bit : goal.returns-else-has_bit
returns-else-has_bit c = grind (arith, common_steps)
