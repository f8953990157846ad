-- How a chain of blocks is kept: with the places where its blocks begin, with their last members, and with counts of all members.
use Rattle.std.specs.Prelude.{◌≡◌, ℕ, ◌+◌, ◌-◌, ◌≤◌, ◌^◌, ◌&&◌, Bool, nat_le, List, map, length, Some, IsTrue}
use Rattle.std.specs.List.{list_all, sum_by}
use Rattle.ec_blocks.specs.Chain.{is_block, last_of, starts_from}

-- a block that is kept: not empty, with at most 128 members and room for 128
abbrev pub is_kept : {X B : Type 0} → (B → List X) → (B → ℕ) → B → Bool
is_kept items capacity block = is_block (items block) && nat_le 128 (capacity block)

-- a spare block: empty, with room for 128
abbrev pub is_spare : {X B : Type 0} → (B → List X) → (B → ℕ) → B → Bool
is_spare items capacity block = nat_le (length (items block)) 0 && nat_le 128 (capacity block)

-- the starts and the lasts are those of the blocks
pub record IsChain {X B : Type 0} (items : B → List X) (capacity : B → ℕ) (blocks : List B) (starts : List ℕ) (lasts : List X) (spares : List B) : Type 0 where
  pub kept : IsTrue (list_all (is_kept items capacity) blocks)
  pub spare : IsTrue (list_all (is_spare items capacity) spares)
  pub starts_are : starts ≡ starts_from 0 (map items blocks)
  pub lasts_are : map Some lasts ≡ map last_of (map items blocks)

-- each of the lists has room for all blocks and spare ones, which are not too many to count their members
pub record HasRooms (blocks spares : ℕ) (blocks_room starts_room lasts_room spares_room : ℕ) : Type 0 where
  pub few : blocks + spares ≤ 2 ^ 56
  pub blocks_fit : blocks + spares ≤ blocks_room
  pub starts_fit : blocks + spares ≤ starts_room
  pub lasts_fit : blocks + spares ≤ lasts_room
  pub spares_fit : blocks + spares ≤ spares_room

-- the counts are those of the blocks: all members, and what each block has beyond one half
pub record IsCounted {X : Type 0} (blocks : List (List X)) (total owed : ℕ) : Type 0 where
  pub total_is : total ≡ sum_by length blocks
  pub owed_is : owed ≡ sum_by (λ block. length block - 64) blocks
