-- The events before the position are copied.
use Rattle.std.proofs.Common.{◌≡◌, ◌≤◌, ◌+◌, ◌-◌, length, map, take}
use Rattle.ec_axioms.specs.Events.{event_of}
use Rattle.ec_store.specs.Store.{history_of}
use Rattle.ec_past.proofs.copying.copied_events.Given as goal

abbrev pub invariant-loop-found : goal.invariant-loop-found
invariant-loop-found g l = record {
  so_far : map (event_of g.T.Moment.rank) l.list.items ≡ history_of g.T.Moment.rank (take l.cursor l.store.events);
  inside : l.cursor ≤ length l.store.events;
  few_steps : l.steps ≤ l.initial.steps + l.cursor;
}

abbrev pub decreases-loop-found : goal.decreases-loop-found
decreases-loop-found g l = length l.store.events - l.cursor
