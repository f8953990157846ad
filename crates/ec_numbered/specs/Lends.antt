-- What rows kept by number become where one of them was lent.
use Rattle.std.specs.Prelude.{ℕ, List, Option, Some, slice_set}
use Rattle.std.specs.Borrow.{Fml, LendsIf, MutBor, RattleType}
use Rattle.ec_numbered.specs.contracts.by_number.ByNumber.{the_row}

-- once the borrow ends, the number has what was last written through it; where nothing is kept under it, all stays as it was
abbrev pub lends_row : (X : RattleType) → MutBor (List (Option X.Denot)) → ℕ → Option (MutBor X.Denot) → Fml
lends_row X rows n lent = LendsIf (the_row X) X rows lent (λ row. slice_set rows.now n (Some row)) rows.now
