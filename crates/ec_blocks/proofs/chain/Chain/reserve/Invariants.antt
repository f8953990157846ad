-- As many spare blocks as the round's number, and no more than are needed.
use Rattle.std.proofs.Common.{◌≡◌, ◌≤◌, ◌+◌, max}
use Rattle.ec_blocks.specs.Chain.{room_of}
use Rattle.ec_blocks.proofs.chain.Chain.reserve.Given as goal

abbrev pub invariant-loop-made : goal.invariant-loop-made
invariant-loop-made g l = record {
  same : l.self.blocks ≡ l.fn.self.blocks;
  count : l.self.spares ≡ l._made;
  more : l.fn.self.spares ≤ l.self.spares;
  most : room_of l.self.blocks l.self.spares ≤ max (room_of l.fn.self.blocks l.fn.self.spares) (l.fn.n + 63);
}
