-- Some members of a list from a place on: where a test ends among them, it ends in the list; so those at a time and those after
-- it are found among them.
use Rattle.std.proofs.Common.{◌≡◌, ◌+◌, ◌-◌, ◌<◌, ◌≤◌, ℕ, ℤ, Bool, true, false, List, length, take, drop, get_or, sym, ap, ◌∙◌, ⊎_elim, length-drop, length-take, arith}
use Rattle.std.specs.Prelude.{int_lt, int_le}
use Rattle.std.specs.List.Sorted.{IsPartitionedBy}
use Rattle.std.proofs.lemmas.Bool.{cases_lt}
use Rattle.std.proofs.lemmas.List.{drop-take, get_or_default, get_or-drop, get_or-take}
use Rattle.std.proofs.Common.{drop-drop}
use Rattle.ec_lists.proofs.Partitions.{IsCut}
use Rattle.ec_lists.proofs.Integers.{int_le-from_lt}
use Rattle.ec_blocks.proofs.SearchLemmas.{IsPartitionPoint-from_edges}
use Rattle.ec_entries.specs.declared.event_entries.Dependent.{Dependent}
use Rattle.ec_entries.specs.Dependents.{AreInOrder, dependents_after, dependents_at}
use Rattle.ec_entries.proofs.Orders.{IsPartitionedBy-earlier, IsPartitionedBy-up_to}
use Rattle.ec_entries.proofs.Readings.{dependents_at-run, drop-after, earlier, up_to}

-- where the members from a place on pass, and the next one does, those up to it pass
pub passes-next : {X : Type 0} (test : X → Bool) (xs : List X) (from k : ℕ) (x : X) → k < length xs → x ≡ get_or xs k x → test x ≡ true →
    ((j : ℕ) (d : X) → from ≤ j → j < k → test (get_or xs j d) ≡ true) → (j : ℕ) (d : X) → from ≤ j → j < k + 1 → test (get_or xs j d) ≡ true
passes-next test xs from k x within here passed so_far j d low high =
    ⊎_elim (λ early. so_far j d low early)
    (λ late. let same : j ≡ k = omega (arith, late, high) in ap (λ n. test (get_or xs n d)) same ∙ ap test (get_or_default xs k d x within ∙ sym here) ∙ passed) (cases_lt j k)

module _ {X : Type 0} (xs few : List X) (from : ℕ) (start : from < length xs) (is : few ≡ take (length few) (drop from xs)) where
  few-length : from + length few ≤ length xs
  few-length = omega (arith, start, ap length is, length-take (length few) (drop from xs), length-drop from xs)

  stands : (j : ℕ) (d : X) → j < length few → get_or few j d ≡ get_or xs (from + j) d
  stands j d inside = ap (λ ys. get_or ys j d) is ∙ get_or-take (length few) (drop from xs) j d inside ∙ get_or-drop from xs j d

  -- a test that ends among some members ends at the same one in the list
  pub IsCut-few : (p : X → Bool) (c : ℕ) → IsPartitionedBy p xs → 1 ≤ c → c < length few → ((k : ℕ) (d : X) → k < c → p (get_or few k d) ≡ true) →
      ((d : X) → p (get_or few c d) ≡ false) → IsCut p xs (from + c)
  IsCut-few p c parted some less passed next =
      IsPartitionPoint-from_edges p xs (from + c) parted
      (λ d _. ap (λ n. p (get_or xs n d)) (let e : from + c - 1 ≡ from + (c - 1) = omega (arith, some) in e) ∙ ap p (sym (stands (c - 1) d (omega (arith, less)))) ∙ passed (c - 1) d (omega (arith, some)))
      (λ d _. ap p (sym (stands c d less)) ∙ next d)
      (omega (arith, few-length, less))

  -- what is behind a place among some members is what is behind it in the list, as far as they go
  pub drop-few : (i : ℕ) → i ≤ length few → drop i few ≡ take (length (drop i few)) (drop (from + i) xs)
  drop-few i within =
      let whole : length few ≡ i + (length few - i) = omega (arith, within) in
      ap (drop i) (is ∙ ap (λ n. take n (drop from xs)) whole)
      ∙ drop-take i (length few - i) (drop from xs)
      ∙ ap (take (length few - i)) (drop-drop i from xs)
      ∙ ap (λ n. take n (drop (from + i) xs)) (sym (length-drop i few))

module _ {T : Type 0} (rank : T → ℤ) (t : ℤ) (ds few : List (Dependent T)) (from : ℕ) (start : from < length ds) (is : few ≡ take (length few) (drop from ds))
    (order : AreInOrder rank ds) where
  -- those at a time, where they and the one behind them are among some members, and one before the time in front of them
  pub dependents_at-few : (before end : ℕ) → 1 ≤ before → before ≤ end → end < length few →
      ((k : ℕ) (d : Dependent T) → k < before → int_lt (rank (get_or few k d).at) t ≡ true) → ((d : Dependent T) → int_lt (rank (get_or few before d).at) t ≡ false) →
      ((k : ℕ) (d : Dependent T) → before ≤ k → k < end → int_le (rank (get_or few k d).at) t ≡ true) → ((d : Dependent T) → int_le (rank (get_or few end d).at) t ≡ false) →
      take (end - before) (drop before few) ≡ dependents_at rank t ds
  dependents_at-few before end some ordered less passed next after_passed after_next =
      ap (λ n. take n (drop before few)) (let e : end - before ≡ from + end - (from + before) = omega arith in e)
      ∙ dependents_at-run rank t ds (from + before) (from + end) (omega (arith, ordered))
      (IsCut-few ds few from start is (earlier rank t) before (IsPartitionedBy-earlier rank t ds order) some (omega (arith, ordered, less)) passed next)
      (IsCut-few ds few from start is (up_to rank t) end (IsPartitionedBy-up_to rank t ds order) (omega (arith, some, ordered)) less
      (λ k d below. ⊎_elim (λ early. int_le-from_lt (rank (get_or few k d).at) t (passed k d early)) (λ late. after_passed k d late below) (cases_lt k before))
      after_next)
      (drop before few) (drop-few ds few from start is before (omega (arith, ordered, less))) (omega (arith, length-drop before few, less))

  -- those after a time, as far as some members go, where one of them is after it, and one up to it in front
  pub dependents_after-few : (end : ℕ) → 1 ≤ end → end < length few → ((k : ℕ) (d : Dependent T) → 0 ≤ k → k < end → int_le (rank (get_or few k d).at) t ≡ true) →
      ((d : Dependent T) → int_le (rank (get_or few end d).at) t ≡ false) → drop end few ≡ take (length (drop end few)) (dependents_after rank t ds)
  dependents_after-few end some less passed next =
      drop-few ds few from start is end (omega (arith, less))
      ∙ ap (take (length (drop end few)))
      (drop-after rank t ds (from + end)
      (IsCut-few ds few from start is (up_to rank t) end (IsPartitionedBy-up_to rank t ds order) some less (λ k d below. passed k d (omega arith) below) next))
