-- What is seen of a list that is one `Vec` while it has few members, and a chain of blocks from then on.
use Rattle.std.specs.Prelude.{ℕ, ◌+◌, ◌-◌, ◌≤◌, min, vec_len}
use Rattle.std.specs.Vec.{vec_capacity}
use Rattle.ec_blocks.specs.declared.blocks.Body.{Body}
use Rattle.ec_blocks.specs.declared.blocks.Body.TheVariants.{Few, Many}
use Rattle.ec_blocks.specs.Chain.{joined, room_of}
use Rattle.ec_lists.specs.Reserved.{Reserved}

-- the members, and how many further ones there is room for, wherever they are put
abbrev pub seen_of : {X : Type 0} → Body X → Reserved X
seen_of (Few members) = record { items = members.items; spare = min (vec_capacity members) 128 - vec_len members }
seen_of (Many chain) = record { items = joined chain.value.blocks; spare = room_of chain.value.blocks chain.value.spares }

-- few members are no more than one block has
abbrev pub IsBody : {X : Type 0} → Body X → Type 0
IsBody (Few members) = vec_len members ≤ 128
IsBody (Many chain) = Unit {0}

-- few members, which with n more are no more than a block holds; or a chain
abbrev pub IsWide : {X : Type 0} → ℕ → Body X → Type 0
IsWide n (Few members) = vec_len members + n ≤ 128
IsWide n (Many chain) = Unit {0}
