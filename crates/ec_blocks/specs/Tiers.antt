-- A list in groups of 64, each turned so that its first member may lie anywhere in it.
use Rattle.std.specs.Prelude.{ℕ, ◌+◌, ◌*◌, ◌/◌, ◌%◌, ◌++◌, List, [], ◌∷◌, length, take, drop, nat_lt, if◌then◌else◌}
use Rattle.std.specs.List.{slice_index_or}

-- the members, and how many there is room for
pub record Tiered (X : Type 0) : Type 0 where
  pub items : List X
  pub room : ℕ

-- the members of a ring from its first one on
abbrev pub turned : {X : Type 0} → ℕ → List X → List X
turned head ring = drop head ring ++ take head ring

-- all members: those of each full group from its first one on, and the others as they lie
abbrev pub unrolled : {X : Type 0} → List ℕ → List X → List X
unrolled [] members = members
unrolled (head ∷ heads) members = turned head (take 64 members) ++ unrolled heads (drop 64 members)

-- where a member lies
abbrev pub place_of : List ℕ → ℕ → ℕ
place_of heads k = if nat_lt (k / 64) (length heads) then 64 * (k / 64) + (slice_index_or heads (k / 64) 0 + k % 64) % 64 else k
