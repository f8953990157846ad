-- How two times stand to one another, as their order tells it.
use Rattle.std.proofs.Common.{◌≡◌, ◌<ℤ◌, ℤ, arith}
use Rattle.std.specs.Prelude.{int_le}
use Rattle.std.specs.declared.cmp.Ordering.{Ordering}
use Rattle.std.specs.declared.cmp.Ordering.TheVariants.{Less, Equal, Greater}
use Rattle.std.specs.Ordering.{MatchOrdering, is_le}
use Rattle.std.proofs.lemmas.Int.{ints}

-- one is at most the other where their order is not that it comes after
pub is_le-by_order : (o : Ordering) (s t : ℤ) → MatchOrdering o (s <ℤ t) (s ≡ t) (t <ℤ s) → is_le o ≡ int_le s t
is_le-by_order Less s t before = grind (arith, ints)
is_le-by_order Equal s t same = grind (arith, ints)
is_le-by_order Greater s t after = grind (arith, ints)
