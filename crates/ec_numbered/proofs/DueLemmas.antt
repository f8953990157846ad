-- Due properties in order: the place of one, and a list with one more.
use Rattle.std.proofs.Common.{◌≡◌, ℕ, ℤ, ◌<◌, ◌≤◌, Bool, true, false, not, ◌&&◌, ◌||◌, List, [], ◌∷◌, length, drop, get_or, Some, sym, ap, ◌∙◌, arith}
use Rattle.std.specs.Prelude.{◌==◌, int_lt, nat_lt, slice_get}
use Rattle.std.specs.List.{insert, list_any}
use Rattle.std.specs.List.Sorted.{IsPartitionedBy, IsPartitionPoint}
use Rattle.std.specs.Ordering.{int_eq}
use Rattle.std.proofs.lemmas.Int.{ints}
use Rattle.std.proofs.lemmas.Option.{get_or_from_slice_get}
use Rattle.ec_lists.proofs.Partitions.{take-partition}
use Rattle.ec_lists.proofs.Tests.{list_any-same}
use Rattle.ec_rows.proofs.OrderedLemmas.{IsOrder, IsPlace, is_at, ascending-rest, IsPartitionedBy-ascending, free-from_none, filter-behind_free, is_ascending-with_member, list_any-free, with_member-free}
use Rattle.ec_numbered.specs.Due.{Due, comes_before, is_due, are_in_order, has_due, with_due}

-- ---- the order of pairs of whole numbers

-- the first pair comes before the second
abbrev is_less : ℤ → ℕ → ℤ → ℕ → Bool
is_less a m b n = int_lt a b || (int_eq a b && nat_lt m n)

less-trans : (a b c : ℤ) (k m n : ℕ) → is_less a k b m ≡ true → is_less b m c n ≡ true → is_less a k c n ≡ true
less-trans a b c k m n = grind (arith, ints)

less-one_way : (a b : ℤ) (m n : ℕ) → is_less a m b n ≡ true → is_less b n a m ≡ false
less-one_way a b m n = grind (arith, ints)

less-behind : (a b c : ℤ) (k m n : ℕ) → is_less a k b m ≡ true → is_less a k c n ≡ false → is_less c n b m ≡ true
less-behind a b c k m n = grind (arith, ints)

same-neither : (a b : ℤ) (m n : ℕ) → (int_eq a b && (m == n)) ≡ (not (is_less a m b n) && not (is_less b n a m))
same-neither a b m n = grind (arith, ints)

module _ {T : Type 0} (rank : T → ℤ) where
  pub IsOrder-due : IsOrder (comes_before rank)
  IsOrder-due = record {
    transitive = λ x y z. less-trans (rank x.0) (rank y.0) (rank z.0) x.1.0 y.1.0 z.1.0;
    one_way = λ x y. less-one_way (rank x.0) (rank y.0) x.1.0 y.1.0;
  }

  module _ (x : Due T) where
    -- those before a due property, and those behind it
    abbrev before : Due T → Bool
    before y = comes_before rank y x

    abbrev behind : Due T → Bool
    behind y = comes_before rank x y

    IsPlace-due : IsPlace (comes_before rank) before behind
    IsPlace-due = record {
      keeps = λ y z. less-trans (rank y.0) (rank z.0) (rank x.0) y.1.0 z.1.0 x.1.0;
      rises = λ y z. less-behind (rank y.0) (rank z.0) (rank x.0) y.1.0 z.1.0 x.1.0;
      apart = λ y. less-one_way (rank y.0) (rank x.0) y.1.0 x.1.0;
    }

    pub IsPartitionedBy-due : (dues : List (Due T)) → are_in_order rank dues ≡ true → IsPartitionedBy before dues
    IsPartitionedBy-due dues order = IsPartitionedBy-ascending (comes_before rank) before IsPlace-due.keeps dues order

    any-is_at : (dues : List (Due T)) → has_due rank (rank x.0) x.1.0 dues ≡ list_any (is_at before behind) dues
    any-is_at dues = list_any-same (is_due rank (rank x.0) x.1.0) (is_at before behind) (λ y. same-neither (rank y.0) (rank x.0) y.1.0 x.1.0) dues

    module _ (dues : List (Due T)) (i : ℕ) (order : are_in_order rank dues ≡ true)
        (cut : IsPartitionPoint (λ y. before y ≡ true) (λ y. before y ≡ false) dues i) where
      -- where it is new, it goes in at the cut
      pub insert-with_due : has_due rank (rank x.0) x.1.0 dues ≡ false → insert dues i x ≡ with_due rank x dues
      insert-with_due absent =
          let free : (d : Due T) → i < length dues → behind (get_or dues i d) ≡ true = free-from_none before behind dues i cut (sym (any-is_at dues) ∙ absent) in
          with_member-free (comes_before rank) x dues i (take-partition before dues i cut)
          (sym (filter-behind_free (comes_before rank) before behind IsPlace-due dues i order cut free))

      -- it is not there where another stands at the cut
      pub has_due-other : (y : Due T) → slice_get dues i ≡ Some y → is_due rank (rank x.0) x.1.0 y ≡ false → has_due rank (rank x.0) x.1.0 dues ≡ false
      has_due-other y read other =
          any-is_at dues ∙ list_any-free (comes_before rank) before behind IsPlace-due dues i order cut
          (λ d within. ap behind (get_or_from_slice_get dues i y d read)
          ∙ is_behind (rank x.0) (rank y.0) x.1.0 y.1.0 other (ap before (sym (get_or_from_slice_get dues i y d read)) ∙ cut.1 i d (omega arith) within))
        where
          is_behind : (a b : ℤ) (m n : ℕ) → (int_eq b a && (n == m)) ≡ false → is_less b n a m ≡ false → is_less a m b n ≡ true
          is_behind a b m n = grind (arith, ints)

      -- nor where the list ends at the cut
      pub has_due-end : length dues ≤ i → has_due rank (rank x.0) x.1.0 dues ≡ false
      has_due-end end =
          any-is_at dues ∙ list_any-free (comes_before rank) before behind IsPlace-due dues i order cut (λ d within. absurd (omega arith))

    pub are_in_order-with_due : (dues : List (Due T)) → are_in_order rank dues ≡ true → are_in_order rank (with_due rank x dues) ≡ true
    are_in_order-with_due dues order = is_ascending-with_member (comes_before rank) IsOrder-due x dues order

-- what follows the first is in order
pub are_in_order-rest : {T : Type 0} (rank : T → ℤ) (dues : List (Due T)) → are_in_order rank dues ≡ true → are_in_order rank (drop 1 dues) ≡ true
are_in_order-rest rank [] order = order
are_in_order-rest rank (due ∷ dues) order = ascending-rest (comes_before rank) due dues order
