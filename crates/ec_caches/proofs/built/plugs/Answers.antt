-- The identities are those that are given.
use Rattle.ec_moment.specs.declared.tick.Tick.{Tick}
use Rattle.ec_axioms.specs.Events.{event_of}
use Rattle.ec_caches.proofs.Taken.{HaveOwnIds-three}
use Rattle.ec_caches.proofs.built.plugs.Goals as goal

pub returns : goal.returns
returns g c =
    let plain = event_of (λ (t : Tick). t.0) in
    HaveOwnIds-three (plain c.event.result) (plain c.event-2.result) (plain c.event-3.result) c.event.ensures c.event-2.ensures c.event-3.ensures
