-- With what is carried in its place the list is as it is to be.
use Rattle.std.proofs.Common.{◌≡◌, ◌-◌, ◌≤◌, length}
use Rattle.std.specs.List.{insert}
use Rattle.ec_blocks.proofs.tiers.Tiers.insert.Given as goal

abbrev pub invariant-loop-at : goal.invariant-loop-at
invariant-loop-at g l = record {
  items : insert l.self.items l.at l.carried ≡ insert l.fn.self.items l.k l.fn.x;
  len : length l.self.items ≡ length l.fn.self.items;
  room : l.self.room ≡ l.fn.self.room;
  within : l.at ≤ length l.fn.self.items;
}

abbrev pub decreases-loop-at : goal.decreases-loop-at
decreases-loop-at g l = l.full - l.at
