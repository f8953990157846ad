-- What an order and a test of equality are to keep, as the laws of terms and of arguments state it.
use Rattle.std.specs.Prelude.{◌≡◌, ◌↔◌, Bool, IsTrue}
use Rattle.std.specs.declared.cmp.Ordering.{Ordering}
use Rattle.std.specs.declared.cmp.Ordering.TheVariants.{Equal}

-- the order says "equal" of two exactly where they are the same
abbrev pub IsEqualOnlyIfSame : {K : Type 0} → (K → K → Ordering) → Type 0
IsEqualOnlyIfSame {K} cmp = (x y : K) → (cmp x y ≡ Equal) ↔ (x ≡ y)

-- the test passes two exactly where they are the same
abbrev pub IsEquality : {K : Type 0} → (K → K → Bool) → Type 0
IsEquality {K} eq = (x y : K) → IsTrue (eq x y) ↔ (x ≡ y)
