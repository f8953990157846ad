-- What a list in groups ends as, where a `&mut` to one of its members is returned.
use Rattle.std.specs.Prelude.{ℕ, slice_set}
use Rattle.std.specs.Borrow.{Lends, Fml, RattleType, MutBor}
use Rattle.ec_blocks.specs.Tiers.{Tiered}
use Rattle.ec_blocks.specs.contracts.tiers.Tiers.{the_row}

-- once the borrow r ends, the place has the last value written through r
abbrev pub lends_member : (T : RattleType) → MutBor (Tiered T.Denot) → ℕ → MutBor T.Denot → Fml
lends_member T s k r = Lends (the_row T) T s r (λ w. record { items = slice_set s.now.items k w; room = s.now.room })
