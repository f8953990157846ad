-- The answer that one time is less than another.
use Rattle.std.proofs.Common.{◌≡◌, ℤ, arith}
use Rattle.std.specs.Prelude.{int_lt}
use Rattle.std.specs.Ordering.{int_cmp, is_lt}
use Rattle.std.proofs.lemmas.Int.{ints}

pub is_lt-int_cmp : (a b : ℤ) → is_lt (int_cmp a b) ≡ int_lt a b
is_lt-int_cmp a b = grind (arith, ints)
