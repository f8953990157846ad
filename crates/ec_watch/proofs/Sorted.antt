-- Tails of different rows, once they are sorted, go by the places of their rows.
use Rattle.std.proofs.Common.{◌≡◌, ℕ, ℤ, suc, ◌+◌, ◌==◌, Bool, true, false, not, List, [], ◌∷◌, length, get_or, Some, IsTrue, IsFalse, refl, sym, subst, ◌∙◌, arith}
use Rattle.std.specs.Prelude.{nat_lt, slice_get}
use Rattle.std.specs.Ordering.{is_lt, nat_cmp}
use Rattle.std.specs.List.Sorted.{IsPermutation, IsSortedBy}
use Rattle.std.proofs.lemmas.Bool.{false≢true, false_from_ne_true}
use Rattle.std.proofs.lemmas.Cmp.{nat_cmp_total}
use Rattle.std.proofs.lemmas.List.Elements.{All-nil}
use Rattle.std.proofs.lemmas.List.Sorted.{All-permutation, Contains-permutation, ranks_by, sorted_far}
use Rattle.std.proofs.lemmas.Option.{slice_get_within}
use Rattle.std.proofs.lemmas.Map.Keys.{IsDistinct-IsPermutation}
use Rattle.ec_axioms.proofs.Members.{Contains-from_member, IsMember-from_contains, IsPairwise, IsPairwise-weaker, list_any-member, member-list_any}
use Rattle.ec_changes.proofs.DistinctLists.{IsDistinct-from_pairwise, IsPairwise-from_distinct}
use Rattle.ec_rows.proofs.OrderedPairs.{IsPairwise-ascending, ascending-from_pairwise}
use Rattle.ec_rows.specs.Ordered.{is_ascending}
use Rattle.ec_store.specs.Table.{KeptProp}
use Rattle.ec_intervals.specs.Table.{IntervalTable}
use Rattle.ec_delta.specs.Touched.{Row as TouchedRow}
use Rattle.ec_watch.specs.declared.row.Row.{Row}
use Rattle.ec_watch.specs.declared.tails.Tail.{Tail}
use Rattle.ec_watch.specs.Tails.{AreGathered, AreKeptTails, IsKeptTail, are_apart, are_placed, has_tail}

module _ {T : Type 0} where
  -- two tails are of one row
  abbrev same_row : Tail T → Tail T → Bool
  same_row a b = a.place == b.place

  -- it is all one in which order two tails are named
  flips : (a b : Tail T) → same_row a b ≡ same_row b a
  flips a b = grind arith

  -- tails of different rows stay so where they change places
  apart-moved : (xs ys : List (Tail T)) → IsPermutation xs ys → are_apart xs ≡ true → IsPairwise (λ a b. IsFalse (same_row a b)) ys
  apart-moved xs ys moved apart =
      IsPairwise-from_distinct same_row ys
      (IsDistinct-IsPermutation same_row flips xs ys moved
      (IsDistinct-from_pairwise same_row xs
      (IsPairwise-weaker (λ a b. IsTrue (not (same_row a b))) (λ a b. IsFalse (same_row a b)) xs (IsPairwise-ascending (λ (a b : Tail T). not (a.place == b.place)) xs apart) (λ a b left right other. not-true (same_row a b) other))))
    where
      not-true : (b : Bool) → not b ≡ true → b ≡ false
      not-true b is = grind arith

  -- a tail stands before another where its row does
  abbrev comes_first : Tail T → Tail T → Bool
  comes_first a b = is_lt (nat_cmp a.place b.place)

  -- in a sorted list none comes before one that stands in front of it
  sorted-pairs : (xs : List (Tail T)) → IsSortedBy comes_first xs → IsPairwise (λ a b. comes_first b a ≡ false) xs
  sorted-pairs [] up = tt
  sorted-pairs (x ∷ xs) up = (
    λ y later. let at = Contains-from_member xs y later in let within = at.1 in
        subst (λ z. comes_first z x ≡ false) at.2 (sorted_far comes_first (ranks_by nat_cmp_total (λ (tail : Tail T). tail.place)) (x ∷ xs) up 0 (suc at.0) y (omega arith) (omega arith)),
    sorted-pairs xs (λ k d low high. subst (λ m. comes_first (get_or (x ∷ xs) m d) (get_or xs k d) ≡ false) (next k) (up (suc k) d (omega arith) (omega arith))),
  )
    where
      next : (k : ℕ) → suc k + 1 ≡ suc (k + 1)
      next k = omega arith

  -- so tails of different rows that are sorted go by their rows
  both : (ys : List (Tail T)) → IsPairwise (λ a b. comes_first b a ≡ false) ys → IsPairwise (λ a b. IsFalse (same_row a b)) ys → IsPairwise (λ a b. IsTrue (nat_lt a.place b.place)) ys
  both [] up apart = tt
  both (y ∷ ys) up apart = (λ z later. before y.place z.place (up.0 z later) (apart.0 z later), both ys up.1 apart.1)
    where
      before : (m n : ℕ) → is_lt (nat_cmp n m) ≡ false → (m == n) ≡ false → nat_lt m n ≡ true
      before m n not_less unlike = grind arith

  pub are_placed-sorted : (xs ys : List (Tail T)) → IsPermutation xs ys → are_apart xs ≡ true → IsSortedBy (λ (a b : Tail T). is_lt (nat_cmp a.place b.place)) ys → are_placed ys ≡ true
  are_placed-sorted xs ys moved apart up = ascending-from_pairwise (λ (a b : Tail T). nat_lt a.place b.place) ys (both ys (sorted-pairs ys up) (apart-moved xs ys moved apart))

  -- a row has a tail among them exactly where it had one
  pub has_tail-moved : (i : ℕ) (xs ys : List (Tail T)) → IsPermutation xs ys → has_tail i ys ≡ false → has_tail i xs ≡ false
  has_tail-moved i xs ys moved none = false_from_ne_true (has_tail i xs) (λ there.
      let found = list_any-member (λ (t : Tail T). t.place == i) xs there in
      let member = IsMember-from_contains ys found.0 (Contains-permutation xs ys found.0 moved (Contains-from_member xs found.0 found.1)) in
      false≢true (sym none ∙ member-list_any (λ (t : Tail T). t.place == i) ys found.0 member found.2))

module _ {T : Type 0} (rank : T → ℤ) (rows : List Row) (table : List KeptProp) (intervals : IntervalTable T) (touched : List (TouchedRow T)) where
  no_tails-placed : are_placed {T = T} [] ≡ true
  unfolding is_ascending
  no_tails-placed = refl

  -- where nothing is watched no tail is kept
  pub AreKeptTails-none : (tails : List (Tail T)) → length rows ≡ 0 → tails ≡ [] → AreKeptTails rank rows table intervals touched tails
  AreKeptTails-none tails none empty =
      subst (AreKeptTails rank rows table intervals touched) (sym empty)
      (record { placed = no_tails-placed; each = All-nil (IsKeptTail rank rows table intervals touched); others = λ i id row at kept other. absurd (no_row i row at) })
    where
      no_row : (i : ℕ) (row : Row) → slice_get rows i ≡ Some row → ⊥
      no_row i row at = let within = slice_get_within rows i row at in omega (arith, within, none)

  -- tails that were gathered are kept once they are sorted
  pub AreKeptTails-sorted : (xs ys : List (Tail T)) → IsPermutation xs ys → IsSortedBy (λ (a b : Tail T). is_lt (nat_cmp a.place b.place)) ys
      → AreGathered rank rows table intervals touched xs → AreKeptTails rank rows table intervals touched ys
  AreKeptTails-sorted xs ys moved up gathered = record {
    placed = are_placed-sorted xs ys moved gathered.apart up;
    each = All-permutation (IsKeptTail rank rows table intervals touched) xs ys moved gathered.each;
    others = λ i id row at kept none. gathered.others i id row at kept (has_tail-moved i xs ys moved none);
  }
