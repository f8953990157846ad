-- The first of a list in order comes before all others by its key.
use Rattle.std.proofs.Common.{◌≡◌, ℤ, Bool, true, List, ◌∷◌, ap₂}
use Rattle.std.specs.Prelude.{◌&&◌, int_le}
use Rattle.std.specs.List.{list_all}
use Rattle.ec_lists.proofs.Integers.{int_le-same}
use Rattle.ec_lists.proofs.Tests.{list_all-weaker}
use Rattle.ec_rows.specs.Ordered.{is_ascending}
use Rattle.ec_rows.proofs.OrderedLemmas.{ascending-first}

-- each member of a list in order has a key no less than the first
pub list_all-from_first : {X : Type 0} (before : X → X → Bool) (key : X → ℤ) → ((x y : X) → before x y ≡ true → int_le (key x) (key y) ≡ true)
    → (x : X) (xs : List X) → is_ascending before (x ∷ xs) ≡ true → list_all (λ y. int_le (key x) (key y)) (x ∷ xs) ≡ true
list_all-from_first before key grows x xs ascending =
    ap₂ (λ a b. a && b) (int_le-same (key x)) (list_all-weaker (before x) (λ y. int_le (key x) (key y)) (grows x) xs (ascending-first before x xs ascending))
