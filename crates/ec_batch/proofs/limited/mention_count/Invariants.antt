use Rattle.std.proofs.Common.{◌≡◌, ◌≤◌, ◌*◌, length, take}
use Rattle.ec_parts.specs.Mentions.{list_props}
use Rattle.ec_batch.proofs.limited.mention_count.Given as goal

abbrev pub invariant-loop-entry : goal.invariant-loop-entry
invariant-loop-entry l = record {
  count : l.count ≡ length (list_props (take l.entry-index l.entry-items));
  few : l.count ≤ 17 * l.entry-index;
}
