-- What was told, with the turns of the events that are left, is what is to be told; a step was taken for each event.
use Rattle.std.proofs.Common.{◌≡◌, ◌+◌, ◌++◌, drop}
use Rattle.ec_sweep.specs.Acting.{removed_turns}
use Rattle.ec_sweep.proofs.turned.turn_down_removed.Given as goal

abbrev pub invariant-loop-removal : goal.invariant-loop-removal
invariant-loop-removal g l = record {
  told : l.fn.turns.items ++ removed_turns l.entries.slots l.removals ≡ l.turns.items ++ removed_turns l.entries.slots (drop l.removal-index l.removals);
  counted : l.steps ≡ l.fn.steps + l.removal-index;
}
