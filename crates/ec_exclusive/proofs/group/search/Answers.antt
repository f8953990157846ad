-- The search by the hash of a key finds the slot of its group.
use Rattle.std.proofs.Common.{Some, None, IfOk, OnErr, ◌≡◌, ℕ, Option, subst}
use Rattle.ec_exclusive.specs.Groups.{group_at}
use Rattle.ec_exclusive.proofs.GroupLemmas.{IsInOrder-key, slot_of-key}
use Rattle.ec_exclusive.proofs.group.search.Goals as goal

pub search-requires : goal.search-requires
search-requires c = IsInOrder-key (group_at c.args.records.now) c.args.slots.now.items c.requires c.hash_of.result c.args.key.now c.hash_of.ensures

pub returns-clause-found : goal.returns-clause-found
returns-clause-found c =
    subst (λ (o : Option ℕ). IfOk c.search.result (λ slot. o ≡ Some slot)) (slot_of-key (group_at c.args.records.now) c.args.slots.now.items c.requires c.hash_of.result c.args.key.now c.hash_of.ensures)
    c.search.ensures.found

pub returns-clause-absent : goal.returns-clause-absent
returns-clause-absent c =
    subst (λ (o : Option ℕ). OnErr c.search.result (o ≡ None)) (slot_of-key (group_at c.args.records.now) c.args.slots.now.items c.requires c.hash_of.result c.args.key.now c.hash_of.ensures)
    c.search.ensures.absent
