-- The search cuts the slots where the test of the closure ends.
use Rattle.std.proofs.Common.{rules, subst, sym}
use Rattle.std.proofs.lemmas.List.Sorted.{IsPartitionPoint-from_clause}
use Rattle.ec_lists.specs.Reserved.{Reserved}
use Rattle.ec_store.specs.Slots.{is_in_front, IsInOrder}
use Rattle.ec_store.proofs.SlotLemmas.{IsCut}
use Rattle.ec_store.proofs.slots.KeyedSlots.place_of.Goals as goal

pub returns-clause-cut : goal.returns-clause-cut
returns-clause-cut g c =
    let order = subst (λ (v : Reserved _). IsInOrder c.args.key (g.S.Sought.place c.args.sought.now) v.items) (sym c.self.view_is) c.requires in
    subst (λ (v : Reserved _). IsCut c.args.key (g.S.Sought.place c.args.sought.now) v.items c.partition_point.result) c.self.view_is
    (IsPartitionPoint-from_clause (is_in_front c.args.key (g.S.Sought.place c.args.sought.now)) c.self.inside.slots.items _
    c.partition_point.ensures.partitioned order.front (λ a r f' called. search (rules, called)))
