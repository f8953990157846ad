-- The members up to the place are taken out.
use Rattle.std.proofs.Common.{◌≡◌, ◌+◌, ◌-◌, ◌≤◌, [], length}
use Rattle.std.specs.List.{splice}
use Rattle.ec_blocks.proofs.blocks.Blocks.remove_all.Given as goal

abbrev pub invariant-loop-place : goal.invariant-loop-place
invariant-loop-place g l = record {
  items : l.self.items ≡ splice l.fn.self.items l.from l._place [];
  len : length l.self.items + (l._place - l.from) ≡ length l.fn.self.items;
  spare : l.fn.self.spare ≤ l.self.spare;
}
