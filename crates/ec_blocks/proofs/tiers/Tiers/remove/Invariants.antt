-- With what is carried in its place the list is as it was.
use Rattle.std.proofs.Common.{◌≡◌, ◌+◌, ◌%◌, ◌≤◌, length}
use Rattle.std.specs.List.{insert}
use Rattle.ec_blocks.proofs.tiers.Tiers.remove.Given as goal

abbrev pub invariant-loop-at : goal.invariant-loop-at
invariant-loop-at g l = record {
  items : insert l.self.items l.at l.carried ≡ l.fn.self.items;
  len : length l.self.items + 1 ≡ length l.fn.self.items;
  room : l.self.room ≡ l.fn.self.room;
  from : l.behind ≤ l.at;
  to : l.at ≤ length l.self.items;
  whole : l.at % 64 ≡ 0;
}

abbrev pub decreases-loop-at : goal.decreases-loop-at
decreases-loop-at g l = l.at
