-- Two lists in one order with the same members are the same.
use Rattle.ec_changes.proofs.KeptEvents.{SameEventsSameHistory-law}
use Rattle.ec_changes.proofs.laws_turns.same_events_same_history_law.Goals as goal

pub returns : goal.returns
returns c = SameEventsSameHistory-law
