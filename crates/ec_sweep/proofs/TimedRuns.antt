-- Lists that ascend by time, and the run of those at one instant.
use Rattle.std.proofs.Common.{◌≡◌, ℤ, pos, ◌+ℤ◌, Bool, true, false, not, List, [], ◌∷◌, length, filter, take, drop, IsTrue, refl, sym, ap, ap₂, ◌∙◌, ⊎_elim, arith}
use Rattle.std.specs.Prelude.{int_le}
use Rattle.std.specs.List.{list_all}
use Rattle.std.specs.List.Sorted.{IsPartitionedBy}
use Rattle.std.specs.Ordering.{int_eq}
use Rattle.std.proofs.lemmas.Bool.{and_parts, cases_Bool, cond-true, cond-false}
use Rattle.std.proofs.lemmas.Int.{ints}
use Rattle.ec_lists.proofs.Filters.{filter-none}
use Rattle.ec_lists.proofs.Tests.{list_all-weaker, list_any-none}
use Rattle.ec_lists.proofs.Integers.{int_le-trans}
use Rattle.ec_rows.specs.Ordered.{is_ascending}
use Rattle.ec_rows.proofs.OrderedLemmas.{IsPartitionedBy-ascending}
use Rattle.ec_sweep.specs.Runs.{not_after}

module _ {T X : Type 0} (rank : T → ℤ) (time : X → T) where
  -- a time cuts such a list in two
  pub IsPartitionedBy-up_to : (t : ℤ) (xs : List X) → IsTrue (is_ascending (not_after rank time) xs) → IsPartitionedBy (λ x. int_le (rank (time x)) t) xs
  IsPartitionedBy-up_to t xs order =
      IsPartitionedBy-ascending (not_after rank time) (λ x. int_le (rank (time x)) t) (λ x y before passes. int_le-trans (rank (time x)) (rank (time y)) t before passes) xs order

  abbrev low : ℤ → X → Bool
  low r y = int_le (rank (time y)) r

  abbrev there : ℤ → X → Bool
  there r y = int_eq (rank (time y)) (r +ℤ pos 1)

  abbrev cut : List X → List X → List X → List X
  cut all before up_to = drop (length before) (take (length up_to) all)

  -- what no later member passes keeps none of them
  none_behind : (x : X) (xs : List X) (test : X → Bool) → ((y : X) → not_after rank time x y ≡ true → not (test y) ≡ true) → list_all (not_after rank time x) xs ≡ true → filter test xs ≡ []
  none_behind x xs test fails all = filter-none test xs (list_any-none test xs (list_all-weaker (not_after rank time x) (λ y. not (test y)) fails xs all))

  -- what comes no earlier than what is late is late
  stays : (r s u : ℤ) → int_le s r ≡ false → int_le s u ≡ true → not (int_le u r) ≡ true
  stays r s u late after = grind (arith, ints)

  -- the first of such a list are those up to a time
  pub run-first : (r : ℤ) (xs : List X) → IsTrue (is_ascending (not_after rank time) xs) → take (length (filter (λ x. int_le (rank (time x)) r) xs)) xs ≡ filter (λ x. int_le (rank (time x)) r) xs
  unfolding is_ascending
  run-first r [] order = refl
  run-first r (x ∷ xs) order =
      let parts = and_parts (list_all (not_after rank time x) xs) (is_ascending (not_after rank time) xs) order in
      ⊎_elim
      (λ early.
      let all = cond-true (low r x) (x ∷ filter (low r) xs) (filter (low r) xs) early in
      ap (λ ys. take (length ys) (x ∷ xs)) all ∙ ap (λ ys. x ∷ ys) (run-first r xs parts.1) ∙ sym all)
      (λ late.
      let none = cond-false (low r x) (x ∷ filter (low r) xs) (filter (low r) xs) late ∙ none_behind x xs (low r) (λ y after. stays r (rank (time x)) (rank (time y)) late after) parts.0 in
      ap (λ ys. take (length ys) (x ∷ xs)) none ∙ sym none)
      (cases_Bool (int_le (rank (time x)) r))

  -- behind those up to r, the next up to r + 1 are those at r + 1
  pub run-next : (r : ℤ) (xs : List X) → IsTrue (is_ascending (not_after rank time) xs)
      → drop (length (filter (λ x. int_le (rank (time x)) r) xs)) (take (length (filter (λ x. int_le (rank (time x)) (r +ℤ pos 1)) xs)) xs)
      ≡ filter (λ x. int_eq (rank (time x)) (r +ℤ pos 1)) xs
  unfolding is_ascending
  run-next r [] order = refl
  run-next r (x ∷ xs) order =
      let parts = and_parts (list_all (not_after rank time x) xs) (is_ascending (not_after rank time) xs) order in
      let rest = run-next r xs parts.1 in
      ⊎_elim
      (λ early.
      ap₂ (cut (x ∷ xs)) (cond-true (low r x) (x ∷ filter (low r) xs) (filter (low r) xs) early) (cond-true (low (r +ℤ pos 1) x) (x ∷ filter (low (r +ℤ pos 1)) xs) (filter (low (r +ℤ pos 1)) xs) (wider (rank (time x)) early))
      ∙ rest
      ∙ sym (cond-false (there r x) (x ∷ filter (there r) xs) (filter (there r) xs) (not_at (rank (time x)) early)))
      (λ late.
      let none : filter (low r) xs ≡ [] = none_behind x xs (low r) (λ y after. stays r (rank (time x)) (rank (time y)) late after) parts.0 in
      let first = cond-false (low r x) (x ∷ filter (low r) xs) (filter (low r) xs) late ∙ none in
      ⊎_elim
      (λ here.
      ap₂ (cut (x ∷ xs)) first (cond-true (low (r +ℤ pos 1) x) (x ∷ filter (low (r +ℤ pos 1)) xs) (filter (low (r +ℤ pos 1)) xs) here)
      ∙ ap (λ ys. x ∷ ys) (ap (λ ys. drop (length ys) (take (length (filter (low (r +ℤ pos 1)) xs)) xs)) (sym none) ∙ rest)
      ∙ sym (cond-true (there r x) (x ∷ filter (there r) xs) (filter (there r) xs) (same (rank (time x)) here late)))
      (λ later.
      ap₂ (cut (x ∷ xs)) first (cond-false (low (r +ℤ pos 1) x) (x ∷ filter (low (r +ℤ pos 1)) xs) (filter (low (r +ℤ pos 1)) xs) later ∙ none_behind x xs (low (r +ℤ pos 1)) (λ y after. stays (r +ℤ pos 1) (rank (time x)) (rank (time y)) later after) parts.0)
      ∙ sym
      (cond-false (there r x) (x ∷ filter (there r) xs) (filter (there r) xs) (apart (rank (time x)) later)
      ∙ none_behind x xs (there r) (λ y after. not_there (rank (time x)) (rank (time y)) later after) parts.0))
      (cases_Bool (int_le (rank (time x)) (r +ℤ pos 1))))
      (cases_Bool (int_le (rank (time x)) r))
    where
      wider : (s : ℤ) → int_le s r ≡ true → int_le s (r +ℤ pos 1) ≡ true
      wider s early = grind (arith, ints)

      not_at : (s : ℤ) → int_le s r ≡ true → int_eq s (r +ℤ pos 1) ≡ false
      not_at s early = grind (arith, ints)

      same : (s : ℤ) → int_le s (r +ℤ pos 1) ≡ true → int_le s r ≡ false → int_eq s (r +ℤ pos 1) ≡ true
      same s here late = grind (arith, ints)

      apart : (s : ℤ) → int_le s (r +ℤ pos 1) ≡ false → int_eq s (r +ℤ pos 1) ≡ false
      apart s later = grind (arith, ints)

      not_there : (s u : ℤ) → int_le s (r +ℤ pos 1) ≡ false → int_le s u ≡ true → not (int_eq u (r +ℤ pos 1)) ≡ true
      not_there s u late after = grind (arith, ints)
