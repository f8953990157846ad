-- What is gathered, with what is left in the nets, is what is to be gathered.
use Rattle.std.proofs.Common.{◌≡◌, ◌≤◌, ◌+◌, ◌++◌, filter_map, reverse, IfSome, IsSome, All}
use Rattle.indexmap.specs.IndexMap.{index_map_len}
use Rattle.ec_store.specs.Store.{event_at}
use Rattle.ec_batch.specs.NetChange.{HasRoom, coming, going}
use Rattle.ec_batch.proofs.net_changes.gather.Given as goal

abbrev pub invariant-loop-net : goal.invariant-loop-net
invariant-loop-net g l = record {
  going : l.gathered.going.items ++ filter_map (λ entry. going g.T.Moment.rank l.store.events entry.1) (reverse l.nets.entries)
      ≡ l.fn.gathered.going.items ++ filter_map (λ entry. going g.T.Moment.rank l.store.events entry.1) (reverse l.fn.nets.entries);
  coming : l.gathered.coming.items ++ filter_map (λ entry. coming g.T.Moment.rank l.store.events entry.1) (reverse l.nets.entries)
      ≡ l.fn.gathered.coming.items ++ filter_map (λ entry. coming g.T.Moment.rank l.store.events entry.1) (reverse l.fn.nets.entries);
  live : All (λ entry. IfSome entry.1.old (λ slot. IsSome (event_at slot l.store.events))) l.nets.entries;
  room : HasRoom (index_map_len l.nets) l.gathered;
  steps : l.steps + index_map_len l.nets ≤ l.fn.steps + index_map_len l.fn.nets;
}

abbrev pub decreases-loop-net : goal.decreases-loop-net
decreases-loop-net g l = index_map_len l.nets
