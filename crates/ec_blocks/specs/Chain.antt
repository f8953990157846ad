-- Lists in blocks: the members of all blocks, where the blocks begin, and how many insertions spare blocks are good for.
use Rattle.std.specs.Prelude.{ℕ, ◌+◌, ◌-◌, ◌*◌, ◌&&◌, Bool, nat_le, max, List, [], ◌∷◌, length, take, Option}
use Rattle.std.specs.List.{flat_map, slice_get, slice_index_or}

-- the blocks, and how many empty ones lie ready
pub record Chained (X : Type 0) : Type 0 where
  pub blocks : List (List X)
  pub spares : ℕ

-- the members of all blocks, one block behind another
abbrev pub joined : {X : Type 0} → List (List X) → List X
joined blocks = flat_map (λ block. block) blocks

-- the block at a place
abbrev pub block_at : {X : Type 0} → ℕ → List (List X) → List X
block_at k blocks = slice_index_or blocks k []

-- how many members are in front of a block
abbrev pub start_of : {X : Type 0} → ℕ → List (List X) → ℕ
start_of k blocks = length (joined (take k blocks))

-- the last member of a block, if it has one
abbrev pub last_of : {X : Type 0} → List X → Option X
last_of block = slice_get block (length block - 1)

-- where each block begins, from a number on
abbrev pub starts_from : {X : Type 0} → ℕ → List (List X) → List ℕ
starts_from n [] = []
starts_from n (block ∷ blocks) = n ∷ starts_from (n + length block) blocks

-- a block is not empty, and has 128 members at the most
abbrev pub is_block : {X : Type 0} → List X → Bool
is_block block = nat_le 1 (length block) && nat_le (length block) 128

-- How far the blocks are on the way to their next splits, which take a spare block each. A block is split in halves,
-- so what it has beyond one half counts. Behind a full last block a new one begins: it counts whole.
abbrev pub debt : {X : Type 0} → List (List X) → ℕ
debt [] = 64
debt (block ∷ []) = length block
debt (block ∷ next ∷ blocks) = (length block - 64) + debt (next ∷ blocks)

-- How many insertions the spare blocks are good for, wherever they come. An insertion splits one block at the most;
-- and all the splits take 64 insertions each, but for those that the blocks are on the way to.
abbrev pub room_of : {X : Type 0} → List (List X) → ℕ → ℕ
room_of blocks spares = max spares (64 * spares - debt blocks)
