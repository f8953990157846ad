-- What follows from the calls and the tests before it.
use Rattle.std.proofs.Common.{arith}
use Rattle.std.proofs.lemmas.Grind.{common_steps}
use Rattle.ec_entries.proofs.entries.in_slot.Goals as goal

pub offset_bounds-slots-slot : goal.offset_bounds-slots-slot
offset_bounds-slots-slot c = grind (arith, common_steps)

pub returns : goal.returns
returns c = grind (arith, common_steps)

pub unreachable-requires : goal.unreachable-requires
unreachable-requires c = grind (arith, common_steps)

pub bounds-slots-slot : goal.bounds-slots-slot
bounds-slots-slot c = grind (arith, common_steps)
