-- The slot stands at its place among those that were there.
use Rattle.std.proofs.Common.{rules}
use Rattle.ec_store.proofs.slots.KeyedSlots.insert.Goals as goal

pub returns-clause-items : goal.returns-clause-items
returns-clause-items c = search rules
