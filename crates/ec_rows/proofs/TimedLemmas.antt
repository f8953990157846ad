-- The order of members by their times, and what the place of a time cuts out of a row.
use Rattle.std.proofs.Common.{◌≡◌, ℕ, ◌+◌, ◌<◌, ℤ, true, false, List, length, take, drop, get_or, sym, ap, ◌∙◌, add-one, arith}
use Rattle.std.specs.Prelude.{int_lt, int_le}
use Rattle.std.specs.List.Sorted.{IsPartitionedBy, IsPartitionPoint}
use Rattle.std.specs.Ordering.{int_eq}
use Rattle.std.proofs.lemmas.Int.{ints}
use Rattle.std.proofs.lemmas.List.{get_or_read}
use Rattle.ec_rows.specs.Ordered.{is_ascending, by_time, members_before, members_from, members_up_to, members_after, has_member}
use Rattle.ec_rows.proofs.OrderedLemmas.{IsPartitionedBy-ascending, IsPlace, IsOrder, is_at, take-partition, drop-partition, filter-behind_at, filter-behind_free, list_any-free}
use Rattle.ec_lists.proofs.Integers.{int_lt-trans, int_lt-not_after, int_eq-not_lt, int_eq-neither, int_lt-from_neither, int_lt-behind, int_le-not_lt, int_lt-not_le}
use Rattle.ec_lists.proofs.Tests.{list_any-same}

-- ---- facts on whole numbers

up_to_too : (a b t : ℤ) → int_lt a b ≡ true → int_le b t ≡ true → int_le a t ≡ true
up_to_too a b t = grind (arith, ints)

-- ---- the order of members by their times

-- members are ordered by their times
pub IsOrder-by_time : {T X : Type 0} (rank : T → ℤ) (time : X → T) → IsOrder (by_time rank time)
IsOrder-by_time rank time = record {
  transitive = λ x y z. int_lt-trans (rank (time x)) (rank (time y)) (rank (time z));
  one_way = λ x y. int_lt-not_after (rank (time x)) (rank (time y));
}

-- a time has a place in this order
pub IsPlace-by_time : {T X : Type 0} (rank : T → ℤ) (time : X → T) (t : ℤ) →
    IsPlace (by_time rank time) (λ x. int_lt (rank (time x)) t) (λ x. int_lt t (rank (time x)))
IsPlace-by_time rank time t = record {
  keeps = λ x y. int_lt-trans (rank (time x)) (rank (time y)) t;
  rises = λ x y. int_lt-behind (rank (time x)) (rank (time y)) t;
  apart = λ x. int_lt-not_after (rank (time x)) t;
}

-- ---- what a search needs, and what its cut gives

module _ {T X : Type 0} (rank : T → ℤ) (time : X → T) (t : ℤ) where
  -- the row is cut where its members stop to be before t
  abbrev pub IsCutBefore : List X → ℕ → Type 0
  IsCutBefore xs i = IsPartitionPoint (λ x. int_lt (rank (time x)) t ≡ true) (λ x. int_lt (rank (time x)) t ≡ false) xs i

  -- the row is cut where its members stop to be at t or before it
  abbrev pub IsCutUpTo : List X → ℕ → Type 0
  IsCutUpTo xs i = IsPartitionPoint (λ x. int_le (rank (time x)) t ≡ true) (λ x. int_le (rank (time x)) t ≡ false) xs i

  pub IsPartitionedBy-before : (xs : List X) → is_ascending (by_time rank time) xs ≡ true → IsPartitionedBy (λ x. int_lt (rank (time x)) t) xs
  IsPartitionedBy-before xs ascending =
      IsPartitionedBy-ascending (by_time rank time) (λ x. int_lt (rank (time x)) t) (λ x y. int_lt-trans (rank (time x)) (rank (time y)) t) xs ascending

  pub IsPartitionedBy-up_to : (xs : List X) → is_ascending (by_time rank time) xs ≡ true → IsPartitionedBy (λ x. int_le (rank (time x)) t) xs
  IsPartitionedBy-up_to xs ascending =
      IsPartitionedBy-ascending (by_time rank time) (λ x. int_le (rank (time x)) t) (λ x y. up_to_too (rank (time x)) (rank (time y)) t) xs ascending

  pub take-before : (xs : List X) (i : ℕ) → IsCutBefore xs i → take i xs ≡ members_before rank time t xs
  take-before xs i cut = take-partition (λ x. int_lt (rank (time x)) t) xs i cut

  pub drop-from : (xs : List X) (i : ℕ) → IsCutBefore xs i → drop i xs ≡ members_from rank time t xs
  drop-from xs i cut =
      drop-partition (λ x. int_lt (rank (time x)) t) (λ x. int_le t (rank (time x))) (λ x. int_le-not_lt t (rank (time x))) xs i cut

  pub take-up_to : (xs : List X) (i : ℕ) → IsCutUpTo xs i → take i xs ≡ members_up_to rank time t xs
  take-up_to xs i cut = take-partition (λ x. int_le (rank (time x)) t) xs i cut

  pub drop-after : (xs : List X) (i : ℕ) → IsCutUpTo xs i → drop i xs ≡ members_after rank time t xs
  drop-after xs i cut =
      drop-partition (λ x. int_le (rank (time x)) t) (λ x. int_lt t (rank (time x))) (λ x. int_lt-not_le t (rank (time x))) xs i cut

  -- a member at t stands at the cut
  pub drop-after_at : (xs : List X) (i : ℕ) (x : X) → is_ascending (by_time rank time) xs ≡ true → IsCutBefore xs i → i < length xs →
      x ≡ get_or xs i x → int_eq (rank (time x)) t ≡ true → drop (i + 1) xs ≡ members_after rank time t xs
  drop-after_at xs i x ascending cut within is here =
      let there : int_lt t (rank (time (get_or xs i x))) ≡ false = int_eq-not_lt (rank (time (get_or xs i x))) t (rw (← is) here) in
      rw add-one (sym (filter-behind_at (by_time rank time) (λ y. int_lt (rank (time y)) t) (λ y. int_lt t (rank (time y))) (IsPlace-by_time rank time t)
      xs i x ascending cut within there))

  -- none does
  abbrev pub IsFreeAt : List X → ℕ → Type 0
  IsFreeAt xs i = (d : X) → i < length xs → int_eq (rank (time (get_or xs i d))) t ≡ false

  -- since the row ends there
  pub IsFreeAt-end : (xs : List X) (i : ℕ) → i ≡ length xs → IsFreeAt xs i
  IsFreeAt-end xs i end d within = absurd (omega arith)

  -- since the member there is at another time
  pub IsFreeAt-other : (xs : List X) (i : ℕ) (x : X) → x ≡ get_or xs i x → int_eq (rank (time x)) t ≡ false → IsFreeAt xs i
  IsFreeAt-other xs i x is other d within = ap (λ y. int_eq (rank (time y)) t) (sym (get_or_read xs i x within is d)) ∙ other

  free-behind : (xs : List X) (i : ℕ) → IsCutBefore xs i → IsFreeAt xs i → (d : X) → i < length xs → int_lt t (rank (time (get_or xs i d))) ≡ true
  free-behind xs i cut free d within = int_lt-from_neither (rank (time (get_or xs i d))) t (cut.1 i d (omega arith) within) (free d within)

  pub drop-after_free : (xs : List X) (i : ℕ) → is_ascending (by_time rank time) xs ≡ true → IsCutBefore xs i → IsFreeAt xs i →
      drop i xs ≡ members_after rank time t xs
  drop-after_free xs i ascending cut free =
      sym (filter-behind_free (by_time rank time) (λ x. int_lt (rank (time x)) t) (λ x. int_lt t (rank (time x))) (IsPlace-by_time rank time t)
      xs i ascending cut (free-behind xs i cut free))

  pub has_member-free : (xs : List X) (i : ℕ) → is_ascending (by_time rank time) xs ≡ true → IsCutBefore xs i → IsFreeAt xs i →
      has_member rank time t xs ≡ false
  has_member-free xs i ascending cut free =
      list_any-same (λ x. int_eq (rank (time x)) t) (is_at (λ x. int_lt (rank (time x)) t) (λ x. int_lt t (rank (time x)))) (λ x. int_eq-neither (rank (time x)) t) xs
      ∙ list_any-free (by_time rank time) (λ x. int_lt (rank (time x)) t) (λ x. int_lt t (rank (time x))) (IsPlace-by_time rank time t)
      xs i ascending cut (free-behind xs i cut free)
