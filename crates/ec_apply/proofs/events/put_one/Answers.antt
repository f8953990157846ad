-- The event is put in under the slot that the store gave it.
use Rattle.ec_apply.proofs.events.put_one.Goals as goal

pub returns-clause-put : goal.returns-clause-put
returns-clause-put g c = record {
  slot = c.insert-slot.result;
  free = c.insert-slot.ensures.free;
  events = c.insert-slot.ensures.events;
  kept = c.insert.ensures.kept;
  others = c.insert.ensures.others;
}
