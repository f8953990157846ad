-- The slots are in the order of the hashes of the keys.
use Rattle.ec_exclusive.specs.Groups.{group_at}
use Rattle.ec_exclusive.proofs.GroupLemmas.{IsInOrder-key}
use Rattle.ec_exclusive.proofs.group.place_of.Goals as goal

pub place_of-requires : goal.place_of-requires
place_of-requires c = IsInOrder-key (group_at c.args.records.now) c.args.slots.now.items c.requires c.hash_of.result c.args.key.now c.hash_of.ensures
