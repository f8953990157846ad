-- The members so far stand in front of what was behind the place.
use Rattle.std.proofs.Common.{◌≡◌, ◌+◌, ◌≤◌, length, take}
use Rattle.std.specs.List.{splice}
use Rattle.ec_blocks.proofs.blocks.Blocks.insert_all.Given as goal

abbrev pub invariant-loop-x : goal.invariant-loop-x
invariant-loop-x g l = record {
  items : l.self.items ≡ splice l.fn.self.items l.from l.from (take l.x-index l.with);
  len : length l.self.items ≡ length l.fn.self.items + l.x-index;
  behind : l.from + l.behind ≡ length l.fn.self.items;
  spare : l.fn.self.spare ≤ l.self.spare + l.x-index;
}
