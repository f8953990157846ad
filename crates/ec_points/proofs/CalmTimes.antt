-- Times at which nothing clashes: the first clash that is not earlier is later, or there is none.
use Rattle.std.proofs.Common.{◌≡◌, ℕ, ℤ, ◌<◌, ◌≤◌, true, false, not, ◌&&◌, List, length, get_or, Some, sym, ap, ◌∙◌, ⊎_elim, arith}
use Rattle.std.specs.Prelude.{◌==◌, int_le, int_lt, slice_get}
use Rattle.std.specs.Ordering.{nat_cmp, int_eq, is_lt}
use Rattle.std.specs.List.Sorted.{IsPartitionedBy}
use Rattle.std.proofs.lemmas.Bool.{cases_Bool, cases_lt, false≢true}
use Rattle.std.proofs.lemmas.Int.{ints}
use Rattle.std.proofs.lemmas.List.Sums.{list_all-from_AllPass}
use Rattle.std.proofs.lemmas.Option.{get_or_from_slice_get}
use Rattle.ec_lists.proofs.Partitions.{IsCut}
use Rattle.ec_lists.proofs.Tests.{list_any-none}
use Rattle.ec_rows.proofs.OrderedLemmas.{IsPartitionedBy-ascending}
use Rattle.ec_points.specs.declared.clashes.Clash.{Clash}
use Rattle.ec_rows.proofs.TimeLemmas.{before_too-then}
use Rattle.ec_points.specs.Clashes.{are_clashes, clash_cmp, has_clash, is_clash_of}
use Rattle.ec_points.proofs.ClashLemmas.{IsPartitionedBy-up_to}

-- a clash at another time
not-earlier : (a t : ℤ) (m n : ℕ) → int_lt a t ≡ true → not ((m == n) && int_eq a t) ≡ true
not-earlier a t m n = grind (arith, ints)

not-later : (a t : ℤ) (m n : ℕ) → int_le a t ≡ false → not ((m == n) && int_eq a t) ≡ true
not-later a t m n = grind (arith, ints)

-- no time is both
not-both : (a t : ℤ) → int_lt t a ≡ true → int_le a t ≡ false
not-both a t = grind (arith, ints)

module _ {T : Type 0} (rank : T → ℤ) (t : ℤ) (cs : List (Clash T)) (order : are_clashes rank cs ≡ true) where
  -- the earlier clashes come first
  pub IsPartitionedBy-earlier : IsPartitionedBy (λ c. int_lt (rank c.at) t) cs
  IsPartitionedBy-earlier =
      IsPartitionedBy-ascending (λ c d. is_lt (clash_cmp rank c d)) (λ c. int_lt (rank c.at) t) (λ x y. before_too-then (rank x.at) (rank y.at) t (nat_cmp x.p.0 y.p.0)) cs order

  module _ (i : ℕ) (cut : IsCut (λ c. int_lt (rank c.at) t) cs i) where
    -- all are earlier
    pub calm-end : length cs ≤ i → (n : ℕ) → has_clash rank n t cs ≡ false
    calm-end end n =
        list_any-none (is_clash_of rank n t) cs
        (list_all-from_AllPass (λ c. not (is_clash_of rank n t c)) cs
        (λ k d within. not-earlier (rank (get_or cs k d).at) t (get_or cs k d).p.0 n (cut.0 k d (omega arith) (omega (arith, end, within)))))

    -- the first that is not earlier is later
    pub calm-later : (c : Clash T) → slice_get cs i ≡ Some c → int_lt t (rank c.at) ≡ true → (n : ℕ) → has_clash rank n t cs ≡ false
    calm-later c read later n =
        list_any-none (is_clash_of rank n t) cs (list_all-from_AllPass (λ c. not (is_clash_of rank n t c)) cs (λ k d within. each k d within))
      where
        late : (k : ℕ) (d : Clash T) → i ≤ k → k < length cs → int_le (rank (get_or cs k d).at) t ≡ false
        late k d behind within =
            ⊎_elim
            (λ e. absurd (false≢true (sym (not-both (rank c.at) t later)
            ∙ ap (λ (x : Clash T). int_le (rank x.at) t) (sym (get_or_from_slice_get cs i c d read)) ∙ IsPartitionedBy-up_to rank t cs order i k d behind within e)))
            (λ e. e) (cases_Bool (int_le (rank (get_or cs k d).at) t))

        each : (k : ℕ) (d : Clash T) → k < length cs → not (is_clash_of rank n t (get_or cs k d)) ≡ true
        each k d within =
            ⊎_elim (λ before. not-earlier (rank (get_or cs k d).at) t (get_or cs k d).p.0 n (cut.0 k d (omega arith) before))
            (λ behind. not-later (rank (get_or cs k d).at) t (get_or cs k d).p.0 n (late k d behind within)) (cases_lt k i)
