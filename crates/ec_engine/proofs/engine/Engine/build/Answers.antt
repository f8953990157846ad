-- The events are those of the history that the parts were filled with.
use Rattle.std.proofs.Common.{map, ap, ◌∙◌}
use Rattle.ec_axioms.specs.Changes.{has_event}
use Rattle.ec_axioms.specs.Events.{event_of}
use Rattle.ec_batch.proofs.Built.{has_event-history_from}
use Rattle.ec_engine.proofs.engine.Engine.build.Goals as goal

pub returns-clause-members : goal.returns-clause-members
returns-clause-members g c event =
    ap (λ es. has_event es event) c.in_ok-fill.ensures.filled.both.caches.events_of ∙ has_event-history_from (map (event_of g.T.Moment.rank) c.args.list.now) event
