-- Rows in which room is made, and for how many dependents of each property room is wanted.
use Rattle.std.specs.Prelude.{◌≡◌, ℕ, ◌+◌, ◌≤◌, nat_eq, unwrap_or}
use Rattle.std.specs.HashMap.{HashMap, get}
use Rattle.ec_entries.specs.Dependents.{Rows, dependents_of, room_of}

-- the rows have the same dependents, and no less room
pub record IsWider {T : Type 0} (old new : Rows T) : Type 0 where
  pub same : (q : ℕ) → dependents_of q new ≡ dependents_of q old
  pub room : (q : ℕ) → room_of q old ≤ room_of q new

-- how many are wanted of a property
abbrev pub wanted_at : {S : Type 0} → ℕ → HashMap ℕ ℕ S → ℕ
wanted_at q wanted = unwrap_or (get nat_eq wanted q) 0

-- so many more are wanted of each property, and there is room for all that are
pub record WantsMore {T S : Type 0} (more : ℕ → ℕ) (old new : HashMap ℕ ℕ S) (rows : Rows T) : Type 0 where
  pub wanted : (q : ℕ) → wanted_at q new ≡ wanted_at q old + more q
  pub room : (q : ℕ) → wanted_at q new ≤ room_of q rows
