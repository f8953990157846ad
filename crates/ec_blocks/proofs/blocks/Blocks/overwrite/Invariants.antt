-- The members up to the place are written over.
use Rattle.std.proofs.Common.{◌≡◌, ◌-◌, ◌≤◌, length, take}
use Rattle.std.specs.List.{splice}
use Rattle.ec_blocks.proofs.blocks.Blocks.overwrite.Given as goal

abbrev pub invariant-loop-place : goal.invariant-loop-place
invariant-loop-place g l = record {
  items : l.self.items ≡ splice l.fn.self.items l.from l.place (take (l.place - l.from) l.with);
  len : length l.self.items ≡ length l.fn.self.items;
  spare : l.fn.self.spare ≤ l.self.spare;
}
