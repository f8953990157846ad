use Rattle.std.proofs.Common.{◌≡◌, ◌+◌, ◌≤◌, map, take}
use Rattle.indexmap.specs.IndexMap.{index_map_len}
use Rattle.ec_axioms.specs.Events.{event_of}
use Rattle.ec_parts.specs.StandFor.{view_of}
use Rattle.ec_batch.specs.Build.{history_from}
use Rattle.ec_batch.specs.Walk.{HasWalked, HasWalkedTo}
use Rattle.ec_batch.proofs.through.walk_in.Given as goal

abbrev pub invariant-loop-event : goal.invariant-loop-event
invariant-loop-event g l = record {
  so_far : HasWalkedTo g.T.Moment.rank l.fn.parts.checked l.fn.parts.store.events (history_from (map (event_of g.T.Moment.rank) (take l.event-index l.list))) (view_of l.parts) l.tally l.walk;
  walked : HasWalked g.T.Moment.rank l.parts.checked (view_of l.parts) l.tally l.walk;
  theory : l.parts.checked ≡ l.fn.parts.checked;
  store : l.parts.store ≡ l.fn.parts.store;
  len : index_map_len l.walk.nets ≤ index_map_len l.fn.walk.nets + l.event-index;
}
