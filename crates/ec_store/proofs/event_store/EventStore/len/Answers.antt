-- Each event is under its own slot.
use Rattle.std.proofs.Common.{ap, arith}
use Rattle.std.proofs.lemmas.Grind.{common_steps}
use Rattle.slab.specs.Slab.{get as record_at}
use Rattle.ec_store.specs.Store.{Store}
use Rattle.ec_store.proofs.StoreLemmas.{own_slots}
use Rattle.ec_store.proofs.event_store.EventStore.len.Goals as goal

pub returns-clause-slots : goal.returns-clause-slots
returns-clause-slots g c = own_slots g.T.Moment.rank (record_at c.self.inside.records) (g.X.TimeRow.times c.self.inside.times) _ (ap (λ (s : Store _). s.events) c.self.view_is)

pub returns-clause-len : goal.returns-clause-len
returns-clause-len c = grind (arith, common_steps)
