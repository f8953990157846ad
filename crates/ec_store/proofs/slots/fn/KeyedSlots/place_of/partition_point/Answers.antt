-- Of two with one key, what stands under the slot tells which is in front.
use Rattle.std.proofs.Common.{rules}
use Rattle.ec_store.proofs.slots.fn.KeyedSlots.place_of.partition_point.Goals as goal

pub returns-then-member-key-2 : goal.returns-then-member-key-2
returns-then-member-key-2 g c = search rules
