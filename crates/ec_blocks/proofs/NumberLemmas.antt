-- Numbers in two parts, after an edit of the parts or of the bases.
use Rattle.std.proofs.Common.{◌≡◌, ℕ, ◌+◌, ◌-◌, ◌*◌, ◌/◌, ◌%◌, ◌^◌, ◌<◌, ◌≤◌, ◌⊎◌, inl, inr, true, ◌&&◌, List, [], ◌∷◌, ◌++◌, length, map, get_or, take, drop, refl, sym, ap, ap₂, subst, ⊎_elim, ◌∙◌, length-append, length-drop, arith}
use Rattle.std.specs.Prelude.{nat_lt, nat_le}
use Rattle.std.specs.List.{insert, remove, list_all, range_with_len}
use Rattle.std.proofs.lemmas.Bool.{cases_lt}
use Rattle.std.proofs.lemmas.Bool.Decides.{nat_tests}
use Rattle.std.proofs.lemmas.List.{length-map, length-take-le, take_at, get_or-take, get_or-drop, get_or-map, get_or_append_left, get_or-append_right}
use Rattle.std.proofs.lemmas.List.Edits.{length-insert, length-remove, get_or-insert_below, get_or-insert_at, get_or-insert_above, get_or-remove_below, get_or-remove_above}
use Rattle.std.proofs.lemmas.List.FromFn.{length-map-range_with_len, get_or-map-range_with_len, fill_by_all}
use Rattle.ec_lists.proofs.Booleans.{and-left, and-right}
use Rattle.ec_blocks.specs.Starts.{number_at, numbers_of, lifted}

-- ---- sums modulo 2 ^ 64

-- more in the part, or in the base, is more in the sum
pub sum-part : (p b n : ℕ) → ((p + n) % 2 ^ 64 + b) % 2 ^ 64 ≡ ((p + b) % 2 ^ 64 + n) % 2 ^ 64
sum-part p b n = omega arith

pub sum-base : (p b n : ℕ) → (p + (b + n) % 2 ^ 64) % 2 ^ 64 ≡ ((p + b) % 2 ^ 64 + n) % 2 ^ 64
sum-base p b n = omega arith

-- numbers that are not the greatest are raised by one
pub raised : (xs : List ℕ) → list_all (λ start. nat_lt start (2 ^ 64 - 1)) xs ≡ true → map (λ start. (start + 1) % 2 ^ 64) xs ≡ map (λ start. start + 1) xs
raised [] fits = refl
raised (x ∷ xs) fits = ap₂ (λ y ys. y ∷ ys) (one x (and-left _ _ fits)) (raised xs (and-right _ _ fits))
  where
    one : (x : ℕ) → nat_lt x (2 ^ 64 - 1) ≡ true → (x + 1) % 2 ^ 64 ≡ x + 1
    one x fits = let less : x < 2 ^ 64 - 1 = grind (arith, nat_tests) in omega arith

-- and numbers that are not 0 are lowered by one
pub lowered : (xs : List ℕ) → list_all (λ start. nat_lt start (2 ^ 64)) xs ≡ true → list_all (λ start. nat_le 1 start) xs ≡ true →
    map (λ start. (start + (2 ^ 64 - 1)) % 2 ^ 64) xs ≡ map (λ start. start - 1) xs
lowered [] small some = refl
lowered (x ∷ xs) small some = ap₂ (λ y ys. y ∷ ys) (one x (and-left _ _ small) (and-left _ _ some)) (lowered xs (and-right _ _ small) (and-right _ _ some))
  where
    one : (x : ℕ) → nat_lt x (2 ^ 64) ≡ true → nat_le 1 x ≡ true → (x + (2 ^ 64 - 1)) % 2 ^ 64 ≡ x - 1
    one x small some = let less : x < 2 ^ 64 = grind (arith, nat_tests) in let more : 1 ≤ x = grind (arith, nat_tests) in omega arith

-- what a vector holds after its slice was written
pub whole-slice : (n : ℕ) (xs ys : List ℕ) → length xs ≡ n → take n (xs ++ drop (length xs) ys) ≡ xs
whole-slice n xs ys same = take_at xs (drop (length xs) ys) n same

-- all from a place on are changed, and none is lost
pub behind-length : (f : ℕ → ℕ) (xs : List ℕ) (n : ℕ) → n ≤ length xs → length (take n xs ++ map f (drop n xs)) ≡ length xs
behind-length f xs n within =
    omega (arith, length-append (take n xs) (map f (drop n xs)), length-take-le n xs within, length-map (drop n xs) f, length-drop n xs)

-- a lift that is more for all, and less in front
pub sum-lift : (p l n m : ℕ) → (m + n) % 2 ^ 64 ≡ 0 → ((p + m) % 2 ^ 64 + (l + n) % 2 ^ 64) % 2 ^ 64 ≡ (p + l) % 2 ^ 64
sum-lift p l n m none = omega (arith, none)

pub lifted-length : (lift : ℕ) (kept : List ℕ) → length (lifted lift kept) ≡ length kept
lifted-length lift kept = length-map kept (λ n. (n + lift) % 2 ^ 64)

pub lifted-at : (lift : ℕ) (kept : List ℕ) (k : ℕ) → k < length kept → get_or (lifted lift kept) k 0 ≡ (get_or kept k 0 + lift) % 2 ^ 64
lifted-at lift kept k within = get_or-map (λ n. (n + lift) % 2 ^ 64) kept k 0 0 within

-- ---- all numbers

module _ (parts bases : List ℕ) where
  pub numbers-length : length (numbers_of parts bases) ≡ length parts
  numbers-length = length-map-range_with_len (number_at parts bases) 0 (length parts)

  -- behind free places there are so many fewer
  pub numbers-behind : (f : ℕ) → length (numbers_of (drop f parts) bases) ≡ length parts - f
  numbers-behind f = length-map-range_with_len (number_at (drop f parts) bases) 0 (length (drop f parts)) ∙ length-drop f parts

  pub number-is : (k d : ℕ) → k < length parts → get_or (numbers_of parts bases) k d ≡ number_at parts bases k
  number-is k d within = get_or-map-range_with_len (number_at parts bases) 0 (length parts) k k d within (omega arith)

  pub numbers-from : (items : List ℕ) → length items ≡ length parts → ((k : ℕ) → k < length parts → get_or items k 0 ≡ number_at parts bases k) → numbers_of parts bases ≡ items
  numbers-from items same each = sym (fill_by_all (number_at parts bases) items (length parts) 0 same each)

  pub numbers-small : list_all (λ start. nat_lt start (2 ^ 64)) (numbers_of parts bases) ≡ true
  numbers-small = small (range_with_len 0 (length parts))
    where
      below : (n : ℕ) → nat_lt (n % 2 ^ 64) (2 ^ 64) ≡ true
      below n = let less : n % 2 ^ 64 < 2 ^ 64 = omega arith in grind (arith, nat_tests)

      small : (ks : List ℕ) → list_all (λ start. nat_lt start (2 ^ 64)) (map (number_at parts bases) ks) ≡ true
      small [] = refl
      small (k ∷ ks) = ap₂ (λ a b. a && b) (below (get_or parts k 0 + get_or bases (k / 64) 0)) (small ks)

  -- further bases change no number
  pub numbers-rebased : (bases' : List ℕ) → length parts ≤ 64 * length bases → ((g : ℕ) → g < length bases → get_or bases' g 0 ≡ get_or bases g 0) → numbers_of parts bases' ≡ numbers_of parts bases
  numbers-rebased bases' based same =
      sym (fill_by_all (number_at parts bases') (numbers_of parts bases) (length parts) 0 numbers-length
      (λ k within. number-is k 0 within ∙ ap (λ b. (get_or parts k 0 + b) % 2 ^ 64) (sym (same (k / 64) (omega arith)))))

  -- those behind a place are more
  pub numbers-added : (k n : ℕ) (parts' bases' : List ℕ) → k < length parts → length parts ≤ 64 * length bases → length parts' ≡ length parts →
      ((j : ℕ) → k + 1 ≤ j → j < 64 * (k / 64 + 1) → j < length parts → get_or parts' j 0 ≡ (get_or parts j 0 + n) % 2 ^ 64) →
      ((j : ℕ) → (j < k + 1) ⊎ (64 * (k / 64 + 1) ≤ j) → get_or parts' j 0 ≡ get_or parts j 0) →
      ((g : ℕ) → k / 64 + 1 ≤ g → g < length bases → get_or bases' g 0 ≡ (get_or bases g 0 + n) % 2 ^ 64) →
      ((g : ℕ) → g < k / 64 + 1 → get_or bases' g 0 ≡ get_or bases g 0) →
      numbers_of parts' bases' ≡ take (k + 1) (numbers_of parts bases) ++ map (λ start. (start + n) % 2 ^ 64) (drop (k + 1) (numbers_of parts bases))
  numbers-added k n parts' bases' within based same parts_within parts_others bases_within bases_others =
      sym (fill_by_all (number_at parts' bases') target (length parts') 0 target-length each)
    where
      more : ℕ → ℕ
      more start = (start + n) % 2 ^ 64

      front : List ℕ
      front = take (k + 1) (numbers_of parts bases)

      target : List ℕ
      target = front ++ map more (drop (k + 1) (numbers_of parts bases))

      front-length : length front ≡ k + 1
      front-length = length-take-le (k + 1) (numbers_of parts bases) (omega (arith, numbers-length))

      target-length : length target ≡ length parts'
      target-length = behind-length more (numbers_of parts bases) (k + 1) (omega (arith, numbers-length)) ∙ numbers-length ∙ sym same

      before : (j : ℕ) → j < k + 1 → get_or target j 0 ≡ number_at parts' bases' j
      before j le =
          get_or_append_left front (map more (drop (k + 1) (numbers_of parts bases))) 0 j (omega (arith, front-length))
          ∙ get_or-take (k + 1) (numbers_of parts bases) j 0 le ∙ number-is j 0 (omega arith)
          ∙ ap₂ (λ p b. (p + b) % 2 ^ 64) (sym (parts_others j (inl le))) (sym (bases_others (j / 64) (omega arith)))

      behind : (j : ℕ) → k + 1 ≤ j → j < length parts → get_or target j 0 ≡ more (number_at parts bases j)
      behind j ge inside =
          get_or-append_right front (map more (drop (k + 1) (numbers_of parts bases))) (k + 1) j 0 front-length ge
          ∙ get_or-map more (drop (k + 1) (numbers_of parts bases)) (j - (k + 1)) 0 0 (omega (arith, length-drop (k + 1) (numbers_of parts bases), numbers-length))
          ∙ ap more (get_or-drop (k + 1) (numbers_of parts bases) (j - (k + 1)) 0 ∙ ap (λ i. get_or (numbers_of parts bases) i 0) (omega arith) ∙ number-is j 0 inside)

      each : (j : ℕ) → j < length parts' → get_or target j 0 ≡ number_at parts' bases' j
      each j inside =
          ⊎_elim (λ le. before j le)
          (λ ge. behind j ge (omega arith)
          ∙ ⊎_elim
          (λ here. sym (sum-part (get_or parts j 0) (get_or bases (j / 64) 0) n)
          ∙ ap₂ (λ p b. (p + b) % 2 ^ 64) (sym (parts_within j ge here (omega arith))) (sym (bases_others (j / 64) (omega arith))))
          (λ later. sym (sum-base (get_or parts j 0) (get_or bases (j / 64) 0) n)
          ∙ ap₂ (λ p b. (p + b) % 2 ^ 64) (sym (parts_others j (inr later))) (sym (bases_within (j / 64) (omega arith) (omega arith))))
          (cases_lt j (64 * (k / 64 + 1))))
          (cases_lt j (k + 1))

  -- one more: the first of each later group comes from the group in front
  pub numbers-inserted : (k start part : ℕ) (parts' : List ℕ) → k ≤ length parts → (part + get_or bases (k / 64) 0) % 2 ^ 64 ≡ start →
      length parts' ≡ length (insert parts k part) →
      ((j : ℕ) → j < length (insert parts k part) → k / 64 + 1 ≤ j / 64 → j % 64 ≡ 0 →
      number_at parts' bases j ≡ (get_or (insert parts k part) j 0 + get_or bases (j / 64 - 1) 0) % 2 ^ 64) →
      ((j : ℕ) → (j / 64 < k / 64 + 1) ⊎ (1 ≤ j % 64) → get_or parts' j 0 ≡ get_or (insert parts k part) j 0) →
      numbers_of parts' bases ≡ insert (numbers_of parts bases) k start
  numbers-inserted k start part parts' within here same moved others =
      sym (fill_by_all (number_at parts' bases) (insert (numbers_of parts bases) k start) (length parts') 0 (omega (arith, count, counts)) each)
    where
      count : length (insert parts k part) ≡ length parts + 1
      count = length-insert parts k part within

      counts : length (insert (numbers_of parts bases) k start) ≡ length parts + 1
      counts = length-insert (numbers_of parts bases) k start (omega (arith, numbers-length)) ∙ ap (λ n. n + 1) numbers-length

      upto : k ≤ length (numbers_of parts bases)
      upto = omega (arith, numbers-length)

      kept : (j : ℕ) → (j / 64 < k / 64 + 1) ⊎ (1 ≤ j % 64) → number_at parts' bases j ≡ (get_or (insert parts k part) j 0 + get_or bases (j / 64) 0) % 2 ^ 64
      kept j apart = ap (λ p. (p + get_or bases (j / 64) 0) % 2 ^ 64) (others j apart)

      -- the numbers from the place on stand one later
      later : (j : ℕ) → k ≤ j → j < length parts → number_at parts bases j ≡ number_at parts' bases (j + 1)
      later j ge inside =
          ap (λ p. (p + get_or bases (j / 64) 0) % 2 ^ 64) (sym (get_or-insert_above parts k part 0 j ge within))
          ∙ ⊎_elim
          (λ first. ap (λ g. (get_or (insert parts k part) (j + 1) 0 + get_or bases g 0) % 2 ^ 64) (omega arith) ∙ sym (moved (j + 1) (omega (arith, count)) (omega arith) (omega arith)))
          (λ apart. ap (λ g. (get_or (insert parts k part) (j + 1) 0 + get_or bases g 0) % 2 ^ 64) (omega arith) ∙ sym (kept (j + 1) (inr apart)))
          (first_or_not (j + 1))
        where
          first_or_not : (i : ℕ) → (i % 64 ≡ 0) ⊎ (1 ≤ i % 64)
          first_or_not i = ⊎_elim (λ none. inl (omega arith)) (λ some. inr some) (cases_lt (i % 64) 1)

      each : (j : ℕ) → j < length parts' → get_or (insert (numbers_of parts bases) k start) j 0 ≡ number_at parts' bases j
      each j inside =
          ⊎_elim
          (λ front. get_or-insert_below (numbers_of parts bases) k start 0 j front upto ∙ number-is j 0 (omega arith)
          ∙ ap (λ p. (p + get_or bases (j / 64) 0) % 2 ^ 64) (sym (get_or-insert_below parts k part 0 j front within)) ∙ sym (kept j (inl (omega arith))))
          (λ ge. ⊎_elim
          (λ le. at_place j (omega arith))
          (λ behind. ap (λ i. get_or (insert (numbers_of parts bases) k start) i 0) (one_more j behind) ∙ get_or-insert_above (numbers_of parts bases) k start 0 (j - 1) (omega arith) upto
          ∙ number-is (j - 1) 0 (omega (arith, count)) ∙ later (j - 1) (omega arith) (omega (arith, count)) ∙ ap (number_at parts' bases) (sym (one_more j behind)))
          (cases_lt j (k + 1)))
          (cases_lt j k)
        where
          one_more : (j : ℕ) → k + 1 ≤ j → j ≡ j - 1 + 1
          one_more j behind = omega arith

          at_place : (j : ℕ) → j ≡ k → get_or (insert (numbers_of parts bases) k start) j 0 ≡ number_at parts' bases j
          at_place j at =
              ap (λ i. get_or (insert (numbers_of parts bases) k start) i 0) at ∙ get_or-insert_at (numbers_of parts bases) k start 0 upto ∙ sym here
              ∙ ap (λ p. (p + get_or bases (k / 64) 0) % 2 ^ 64) (sym (get_or-insert_at parts k part 0 within)) ∙ sym (kept k (inl (omega arith))) ∙ ap (number_at parts' bases) (sym at)

  -- one less: the last of each later group comes from the group behind
  pub numbers-removed : (k : ℕ) (parts' : List ℕ) → k < length parts → length parts' ≡ length (remove parts k) →
      ((j : ℕ) → j < length (remove parts k) → k / 64 ≤ j / 64 → j % 64 ≡ 63 →
      number_at parts' bases j ≡ (get_or (remove parts k) j 0 + get_or bases (j / 64 + 1) 0) % 2 ^ 64) →
      ((j : ℕ) → (j / 64 < k / 64) ⊎ (j % 64 < 63) → get_or parts' j 0 ≡ get_or (remove parts k) j 0) →
      numbers_of parts' bases ≡ remove (numbers_of parts bases) k
  numbers-removed k parts' within same moved others =
      sym (fill_by_all (number_at parts' bases) (remove (numbers_of parts bases) k) (length parts') 0 (omega (arith, count, counts, numbers-length)) each)
    where
      count : length (remove parts k) + 1 ≡ length parts
      count = length-remove parts k within

      inside : k < length (numbers_of parts bases)
      inside = omega (arith, numbers-length)

      counts : length (remove (numbers_of parts bases) k) + 1 ≡ length (numbers_of parts bases)
      counts = length-remove (numbers_of parts bases) k inside

      kept : (j : ℕ) → (j / 64 < k / 64) ⊎ (j % 64 < 63) → number_at parts' bases j ≡ (get_or (remove parts k) j 0 + get_or bases (j / 64) 0) % 2 ^ 64
      kept j apart = ap (λ p. (p + get_or bases (j / 64) 0) % 2 ^ 64) (others j apart)

      apart_in_front : (j : ℕ) → j < k → (j / 64 < k / 64) ⊎ (j % 64 < 63)
      apart_in_front j less = ⊎_elim (λ front. inl front) (λ ge. inr (omega arith)) (cases_lt (j / 64) (k / 64))

      -- the numbers behind the place stand one earlier
      earlier : (j : ℕ) → k ≤ j → j < length (remove parts k) → number_at parts bases (j + 1) ≡ number_at parts' bases j
      earlier j ge upto =
          ap (λ p. (p + get_or bases ((j + 1) / 64) 0) % 2 ^ 64) (sym (get_or-remove_above parts k 0 j ge within))
          ∙ ⊎_elim
          (λ apart. ap (λ g. (get_or (remove parts k) j 0 + get_or bases g 0) % 2 ^ 64) (omega arith) ∙ sym (kept j (inr apart)))
          (λ last. ap (λ g. (get_or (remove parts k) j 0 + get_or bases g 0) % 2 ^ 64) (omega arith) ∙ sym (moved j upto (omega arith) (omega arith)))
          (cases_lt (j % 64) 63)

      each : (j : ℕ) → j < length parts' → get_or (remove (numbers_of parts bases) k) j 0 ≡ number_at parts' bases j
      each j upto =
          ⊎_elim
          (λ front. get_or-remove_below (numbers_of parts bases) k 0 j front inside ∙ number-is j 0 (omega arith)
          ∙ ap (λ p. (p + get_or bases (j / 64) 0) % 2 ^ 64) (sym (get_or-remove_below parts k 0 j front within)) ∙ sym (kept j (apart_in_front j front)))
          (λ ge. get_or-remove_above (numbers_of parts bases) k 0 j ge inside ∙ number-is (j + 1) 0 (omega (arith, count)) ∙ earlier j ge (omega arith))
          (cases_lt j k)

  -- the same, where the edit of the parts was named
  pub numbers-inserted-by : (k start part : ℕ) (mid parts' : List ℕ) → mid ≡ insert parts k part → k ≤ length parts → (part + get_or bases (k / 64) 0) % 2 ^ 64 ≡ start →
      length parts' ≡ length mid →
      ((j : ℕ) → j < length mid → k / 64 + 1 ≤ j / 64 → j % 64 ≡ 0 → number_at parts' bases j ≡ (get_or mid j 0 + get_or bases (j / 64 - 1) 0) % 2 ^ 64) →
      ((j : ℕ) → (j / 64 < k / 64 + 1) ⊎ (1 ≤ j % 64) → get_or parts' j 0 ≡ get_or mid j 0) → numbers_of parts' bases ≡ insert (numbers_of parts bases) k start
  numbers-inserted-by k start part mid parts' is within here same moved others =
      numbers-inserted k start part parts' within here (same ∙ ap length is)
      (λ j inside later first. moved j (subst (λ (n : ℕ). j < n) (sym (ap length is)) inside) later first ∙ ap (λ ms. (get_or ms j 0 + get_or bases (j / 64 - 1) 0) % 2 ^ 64) is)
      (λ j apart. others j apart ∙ ap (λ ms. get_or ms j 0) is)

  pub numbers-removed-by : (k : ℕ) (mid parts' : List ℕ) → mid ≡ remove parts k → k < length parts → length parts' ≡ length mid →
      ((j : ℕ) → j < length mid → k / 64 ≤ j / 64 → j % 64 ≡ 63 → number_at parts' bases j ≡ (get_or mid j 0 + get_or bases (j / 64 + 1) 0) % 2 ^ 64) →
      ((j : ℕ) → (j / 64 < k / 64) ⊎ (j % 64 < 63) → get_or parts' j 0 ≡ get_or mid j 0) → numbers_of parts' bases ≡ remove (numbers_of parts bases) k
  numbers-removed-by k mid parts' is within same moved others =
      numbers-removed k parts' within (same ∙ ap length is)
      (λ j inside later last. moved j (subst (λ (n : ℕ). j < n) (sym (ap length is)) inside) later last ∙ ap (λ ms. (get_or ms j 0 + get_or bases (j / 64 + 1) 0) % 2 ^ 64) is)
      (λ j apart. others j apart ∙ ap (λ ms. get_or ms j 0) is)
