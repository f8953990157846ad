use Rattle.std.proofs.Common.{◌≡◌, map, take}
use Rattle.ec_moment.specs.declared.tick.Tick.{Tick}
use Rattle.ec_axioms.specs.Events.{event_of}
use Rattle.ec_batch.specs.Build.{history_from}
use Rattle.ec_caches.proofs.built.assert_each.Given as goal

abbrev pub invariant-loop-event : goal.invariant-loop-event
invariant-loop-event g l = record {
  theory : l.engine.theory ≡ l.fn.engine.theory;
  taken : l.engine.events ≡ history_from (map (event_of (λ (t : Tick). t.0)) (take l.event-index l.list));
}
