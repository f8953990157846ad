-- Blocks go from the end, and are spare ones.
use Rattle.std.proofs.Common.{◌≡◌, ◌+◌, length, vec_len}
use Rattle.std.specs.Prelude.{IsTrue}
use Rattle.std.specs.List.{list_all}
use Rattle.std.specs.Vec.{vec_capacity}
use Rattle.ec_blocks.specs.ChainParts.{is_kept, is_spare}
use Rattle.ec_blocks.proofs.chain.empty.Given as goal

abbrev pub invariant-loop-blocks : goal.invariant-loop-blocks
invariant-loop-blocks g l = record {
  kept : IsTrue (list_all (is_kept (λ block. block.items) (λ block. vec_capacity block)) l.blocks.items);
  spare : IsTrue (list_all (is_spare (λ block. block.items) (λ block. vec_capacity block)) l.spares.items);
  len : vec_len l.spares + length l.blocks.items ≡ length l.fn.blocks.items + vec_len l.fn.spares;
  blocks_room : l.blocks.room ≡ l.fn.blocks.room;
  spares_capacity : vec_capacity l.spares ≡ vec_capacity l.fn.spares;
}

abbrev pub decreases-loop-blocks : goal.decreases-loop-blocks
decreases-loop-blocks g l = length l.blocks.items
