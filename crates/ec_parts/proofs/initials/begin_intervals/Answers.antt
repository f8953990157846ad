-- What follows from the calls and the tests before it.
use Rattle.std.proofs.Common.{arith}
use Rattle.std.proofs.lemmas.Grind.{common_steps}
use Rattle.ec_parts.proofs.initials.begin_intervals.Goals as goal

pub begin_interval-requires-clause-row : goal.begin_interval-requires-clause-row
begin_interval-requires-clause-row c = grind (arith, common_steps)

pub returns : goal.returns
returns c = grind (arith, common_steps)

pub begin_interval-requires-clause-marks : goal.begin_interval-requires-clause-marks
begin_interval-requires-clause-marks c = grind (arith, common_steps)

pub loop-p-init : goal.loop-p-init
loop-p-init c = grind (arith, common_steps)

pub is_strong-requires : goal.is_strong-requires
is_strong-requires c = grind (arith, common_steps)
