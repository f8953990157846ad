-- The members so far are copied.
use Rattle.std.proofs.Common.{◌≡◌, ◌+◌, ◌++◌, take, vec_len}
use Rattle.std.specs.Vec.{vec_capacity}
use Rattle.ec_blocks.proofs.chain.fill.Given as goal

abbrev pub invariant-loop-x : goal.invariant-loop-x
invariant-loop-x g l = record {
  items : l.block.items ≡ l.fn.block.items ++ take l.x-index l.members;
  len : vec_len l.block ≡ vec_len l.fn.block + l.x-index;
  capacity : vec_capacity l.block ≡ vec_capacity l.fn.block;
}
