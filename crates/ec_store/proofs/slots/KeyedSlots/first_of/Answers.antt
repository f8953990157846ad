-- The search cuts the slots where the test of the closure ends.
use Rattle.std.proofs.Common.{rules, nat_lt, sym, subst}
use Rattle.std.specs.List.Sorted.{IsPartitionedBy}
use Rattle.std.proofs.lemmas.List.Sorted.{IsPartitionPoint-from_clause}
use Rattle.ec_lists.specs.Reserved.{Reserved}
use Rattle.ec_store.specs.declared.slots.KeyedSlot.{KeyedSlot}
use Rattle.std.specs.declared.cmp.Ordering.TheVariants.{Less}
use Rattle.ec_store.proofs.SlotLemmas.{IsKeyCut}
use Rattle.ec_store.proofs.slots.KeyedSlots.first_of.Goals as goal

pub returns-clause-cut : goal.returns-clause-cut
returns-clause-cut c = λ parted.
    let here = subst (λ (v : Reserved KeyedSlot). IsPartitionedBy (λ (member : KeyedSlot). nat_lt member.key c.args.key) v.items) (sym c.self.view_is) parted in
    subst (λ (v : Reserved KeyedSlot). IsKeyCut c.args.key (λ n. Less) v.items c.partition_point.result) c.self.view_is
    (IsPartitionPoint-from_clause (λ (member : KeyedSlot). nat_lt member.key c.args.key) c.self.inside.slots.items _
    c.partition_point.ensures.partitioned here (λ a r f' called. search (rules, called)))
