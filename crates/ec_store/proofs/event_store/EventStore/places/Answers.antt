-- Under the slot of an event there is a record, whose slot is one of those that there are places for.
use Rattle.std.proofs.Common.{◌<◌, length, ap, arith}
use Rattle.slab.specs.Slab.{get as record_at}
use Rattle.slab.proofs.SlabLemmas.{ContainsKey-within}
use Rattle.ec_store.specs.Store.{Store}
use Rattle.ec_store.proofs.StoreLemmas.{IsSome-record}
use Rattle.ec_store.proofs.event_store.EventStore.places.Goals as goal

pub returns-clause-slots : goal.returns-clause-slots
returns-clause-slots g c slot live =
    let within : slot.0 < length c.self.inside.records.slots =
    ContainsKey-within c.self.inside.records slot.0
    (IsSome-record g.T.Moment.rank (record_at c.self.inside.records) (g.X.TimeRow.times c.self.inside.times) _ slot (ap (λ (s : Store _). s.events) c.self.view_is) live) in
    omega (arith, c.capacity.ensures.slots)
