-- Entries at an instant of a history are apart, and only those that see a change turn.
use Rattle.ec_changes.proofs.Hits.{SeenInAnyOrder-law}
use Rattle.ec_changes.proofs.laws_turns.seen_in_any_order_law.Goals as goal

pub returns : goal.returns
returns c = SeenInAnyOrder-law
