use Rattle.std.proofs.Common.{◌≡◌, ◌+◌, ◌≤◌, List, map, take}
use Rattle.std.specs.Prelude.{Ok}
use Rattle.indexmap.specs.IndexMap.{index_map_len}
use Rattle.ec_axioms.specs.Calculus.{PlainEvent}
use Rattle.ec_axioms.specs.Events.{plain_update}
use Rattle.ec_parts.specs.StandFor.{view_of}
use Rattle.ec_replies.specs.Updates.{updated_from}
use Rattle.ec_batch.specs.Walk.{HasWalked, HasWalkedTo}
use Rattle.ec_batch.proofs.through.walk_through.Given as goal

abbrev pub invariant-loop-one : goal.invariant-loop-one
invariant-loop-one g l = record {
  so_far : (soon : List PlainEvent) → HasWalkedTo g.T.Moment.rank l.fn.parts.checked l.fn.parts.store.events soon (view_of l.fn.parts) l.fn.tally l.fn.walk
      → (mid : List PlainEvent) × (updated_from l.fn.parts.checked 1 soon (map (plain_update g.T.Moment.rank) (take l.one-index l.batch)) ≡ Ok mid)
      × HasWalkedTo g.T.Moment.rank l.fn.parts.checked l.fn.parts.store.events mid (view_of l.parts) l.tally l.walk;
  walked : HasWalked g.T.Moment.rank l.parts.checked (view_of l.parts) l.tally l.walk;
  counted : l.place ≡ l.one-index;
  theory : l.parts.checked ≡ l.fn.parts.checked;
  store : l.parts.store ≡ l.fn.parts.store;
  len : index_map_len l.walk.nets ≤ index_map_len l.fn.walk.nets + l.one-index;
  steps : l.steps ≤ l.fn.steps + l.one-index;
}
