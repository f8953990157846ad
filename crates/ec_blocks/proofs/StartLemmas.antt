-- Where blocks begin, and their last members, after an edit of one block.
use Rattle.std.proofs.Common.{◌≡◌, ℕ, ◌+◌, ◌-◌, ◌<◌, ◌≤◌, zero, suc, List, [], ◌∷◌, ◌++◌, length, map, get_or, take, drop, set, refl, ap, ap₂, subst, ◌∙◌, ⊎_elim, length-append, arith}
use Rattle.std.specs.Prelude.{nat_le, true, false}
use Rattle.std.specs.List.Sorted.{IsNonDecreasingBy, IsPartitionPoint}
use Rattle.std.proofs.lemmas.Bool.{cases_lt}
use Rattle.std.proofs.lemmas.Bool.Decides.{nat_tests}
use Rattle.std.specs.List.{insert, remove}
use Rattle.std.proofs.lemmas.List.{take_all}
use Rattle.ec_blocks.specs.Chain.{joined, block_at, start_of, last_of, starts_from}

module _ {X : Type 0} where
  pub starts-length : (n : ℕ) (blocks : List (List X)) → length (starts_from n blocks) ≡ length blocks
  starts-length n [] = refl
  starts-length n (b ∷ blocks) = ap suc (starts-length (n + length b) blocks)

  -- where a block begins
  pub starts-at : (n : ℕ) (blocks : List (List X)) (k d : ℕ) → k < length blocks → get_or (starts_from n blocks) k d ≡ n + start_of k blocks
  starts-at n [] k d within = absurd (omega arith)
  starts-at n (b ∷ blocks) zero d within = omega arith
  starts-at n (b ∷ blocks) (suc k) d within =
      starts-at (n + length b) blocks k d (omega arith) ∙ (omega (arith, length-append b (joined (take k blocks))))

  -- all begin one later
  starts-raise : (n m : ℕ) (blocks : List (List X)) → m ≡ n + 1 → starts_from m blocks ≡ map (λ place. place + 1) (starts_from n blocks)
  starts-raise n m [] more = refl
  starts-raise n m (b ∷ blocks) more = ap₂ (λ p ps. p ∷ ps) more (starts-raise (n + length b) (m + length b) blocks (omega arith))

  -- or one earlier
  starts-lower : (n m : ℕ) (blocks : List (List X)) → m ≡ n + 1 → starts_from n blocks ≡ map (λ place. place - 1) (starts_from m blocks)
  starts-lower n m [] more = refl
  starts-lower n m (b ∷ blocks) more = ap₂ (λ p ps. p ∷ ps) (omega arith) (starts-lower (n + length b) (m + length b) blocks (omega arith))

  -- a block changes, and keeps its length
  pub starts-same : (n : ℕ) (blocks : List (List X)) (k : ℕ) (b : List X) → length b ≡ length (block_at k blocks) →
      starts_from n (set blocks k b) ≡ starts_from n blocks
  starts-same n [] k b same = refl
  starts-same n (a ∷ blocks) zero b same = ap (λ m. n ∷ starts_from (n + m) blocks) same
  starts-same n (a ∷ blocks) (suc k) b same = ap (λ ps. n ∷ ps) (starts-same (n + length a) blocks k b same)

  -- a block gets one more
  pub starts-more : (n : ℕ) (blocks : List (List X)) (k : ℕ) (b : List X) → k < length blocks → length b ≡ length (block_at k blocks) + 1 →
      starts_from n (set blocks k b) ≡ take (suc k) (starts_from n blocks) ++ map (λ place. place + 1) (drop (suc k) (starts_from n blocks))
  starts-more n [] k b within more = absurd (omega arith)
  starts-more n (a ∷ blocks) zero b within more = ap (λ ps. n ∷ ps) (starts-raise (n + length a) (n + length b) blocks (omega arith))
  starts-more n (a ∷ blocks) (suc k) b within more = ap (λ ps. n ∷ ps) (starts-more (n + length a) blocks k b (omega arith) more)

  -- a block gets one less
  pub starts-less : (n : ℕ) (blocks : List (List X)) (k : ℕ) (b : List X) → k < length blocks → length b + 1 ≡ length (block_at k blocks) →
      starts_from n (set blocks k b) ≡ take (suc k) (starts_from n blocks) ++ map (λ place. place - 1) (drop (suc k) (starts_from n blocks))
  starts-less n [] k b within less = absurd (omega arith)
  starts-less n (a ∷ blocks) zero b within less = ap (λ ps. n ∷ ps) (starts-lower (n + length b) (n + length a) blocks (omega arith))
  starts-less n (a ∷ blocks) (suc k) b within less = ap (λ ps. n ∷ ps) (starts-less (n + length a) blocks k b (omega arith) less)

  -- a block of one member goes
  pub starts-gone : (n : ℕ) (blocks : List (List X)) (k : ℕ) → k < length blocks → length (block_at k blocks) ≡ 1 →
      starts_from n (remove blocks k) ≡ remove (take (suc k) (starts_from n blocks) ++ map (λ place. place - 1) (drop (suc k) (starts_from n blocks))) k
  starts-gone n [] k within one = absurd (omega arith)
  starts-gone n (a ∷ blocks) zero within one = starts-lower n (n + length a) blocks (omega arith)
  starts-gone n (a ∷ blocks) (suc k) within one = ap (λ ps. n ∷ ps) (starts-gone (n + length a) blocks k (omega arith) one)

  -- a block becomes two
  pub starts-split : (n : ℕ) (blocks : List (List X)) (k : ℕ) (u v : List X) → k < length blocks → length u + length v ≡ length (block_at k blocks) →
      starts_from n (insert (set blocks k u) (suc k) v) ≡ insert (starts_from n blocks) (suc k) (n + start_of k blocks + length u)
  starts-split n [] k u v within both = absurd (omega arith)
  starts-split n (a ∷ blocks) zero u v within both =
      ap₂ (λ p ps. n ∷ p ∷ ps) (omega arith) (ap (λ m. starts_from m blocks) (omega arith))
  starts-split n (a ∷ blocks) (suc k) u v within both =
      ap (λ ps. n ∷ ps) (starts-split (n + length a) blocks k u v (omega arith) both
      ∙ ap (λ p. insert (starts_from (n + length a) blocks) (suc k) p) (omega (arith, length-append a (joined (take k blocks)))))

  -- a block more at the end
  pub starts-append : (n : ℕ) (blocks : List (List X)) (b : List X) → starts_from n (blocks ++ b ∷ []) ≡ starts_from n blocks ++ (n + length (joined blocks)) ∷ []
  starts-append n [] b = ap (λ p. p ∷ []) (omega arith)
  starts-append n (a ∷ blocks) b =
      ap (λ ps. n ∷ ps) (starts-append (n + length a) blocks b
      ∙ ap (λ p. starts_from (n + length a) blocks ++ p ∷ []) (omega (arith, length-append a (joined blocks))))

  -- the last members where a block becomes two
  pub lasts-split : (blocks : List (List X)) (k : ℕ) (u v : List X) → k < length blocks → last_of v ≡ last_of (block_at k blocks) →
      map last_of (insert (set blocks k u) (suc k) v) ≡ insert (map last_of blocks) k (last_of u)
  lasts-split [] k u v within same = absurd (omega arith)
  lasts-split (a ∷ blocks) zero u v within same = ap (λ o. last_of u ∷ o ∷ map last_of blocks) same
  lasts-split (a ∷ blocks) (suc k) u v within same = ap (λ os. last_of a ∷ os) (lasts-split blocks k u v (omega arith) same)

  -- behind a block begins the next
  pub start_of-suc : (blocks : List (List X)) (k : ℕ) → k < length blocks → start_of (suc k) blocks ≡ start_of k blocks + length (block_at k blocks)
  start_of-suc [] k within = absurd (omega arith)
  start_of-suc (b ∷ blocks) zero within = omega (arith, length-append b (joined (take zero blocks)))
  start_of-suc (b ∷ blocks) (suc k) within =
      omega (arith, length-append b (joined (take (suc k) blocks)), length-append b (joined (take k blocks)), start_of-suc blocks k (omega arith))

  -- behind the last is the end
  pub start_of-all : (blocks : List (List X)) → start_of (length blocks) blocks ≡ length (joined blocks)
  start_of-all blocks = ap (λ bs. length (joined bs)) (take_all (length blocks) blocks (omega arith))

  -- later blocks begin later
  pub start_of-le : (blocks : List (List X)) (i j : ℕ) → i ≤ j → start_of i blocks ≤ start_of j blocks
  start_of-le blocks zero j le = omega arith
  start_of-le blocks (suc i) zero le = absurd (omega arith)
  start_of-le [] (suc i) (suc j) le = omega arith
  start_of-le (b ∷ blocks) (suc i) (suc j) le =
      omega (arith, length-append b (joined (take i blocks)), length-append b (joined (take j blocks)), start_of-le blocks i j (omega arith))

  -- the starts ascend
  pub starts-rise : (n : ℕ) (blocks : List (List X)) → IsNonDecreasingBy (λ place. place) (starts_from n blocks)
  starts-rise n blocks i j d le within =
      let inside : j < length blocks = omega (arith, starts-length n blocks) in
      omega (arith, starts-at n blocks i d (omega arith), starts-at n blocks j d inside, start_of-le blocks i j le)

  -- the block that a place is in is the last that begins up to it
  pub record IsIn (blocks : List (List X)) (i k : ℕ) : Type 0 where
    pub within : k < length blocks
    pub from : start_of k blocks ≤ i
    pub to : i < start_of k blocks + length (block_at k blocks)

  pub some-start : (blocks : List (List X)) (i cut : ℕ) → i < length (joined blocks) →
      IsPartitionPoint (λ place. nat_le place i ≡ true) (λ place. nat_le place i ≡ false) (starts_from 0 blocks) cut → 1 ≤ cut
  some-start [] i cut within point = absurd (omega arith)
  some-start (b ∷ blocks) i zero within point =
      let above : nat_le 0 i ≡ false = point.1 0 0 (omega arith) (omega arith) in absurd (grind (arith, nat_tests))
  some-start (b ∷ blocks) i (suc cut) within point = omega arith

  pub IsIn-from_cut : (blocks : List (List X)) (i k : ℕ) → i < length (joined blocks) → suc k ≤ length blocks →
      IsPartitionPoint (λ place. nat_le place i ≡ true) (λ place. nat_le place i ≡ false) (starts_from 0 blocks) (suc k) → IsIn blocks i k
  IsIn-from_cut blocks i k inside within point =
      let here : k < length (starts_from 0 blocks) = omega (arith, starts-length 0 blocks) in
      let upto : nat_le (get_or (starts_from 0 blocks) k 0) i ≡ true = point.0 k 0 (omega arith) (omega arith) in
      record {
        within = omega arith;
        from = let at = starts-at 0 blocks k 0 (omega arith) in at_most _ _ _ at upto;
        to = ⊎_elim (λ more. omega (
          arith,
          start_of-suc blocks k (omega arith),
          above _ _ _ (starts-at 0 blocks (suc k) 0 more) (point.1 (suc k) 0 (omega arith) (omega (arith, starts-length 0 blocks))),
        ))
            (λ last. omega (arith, start_of-suc blocks k (omega arith), start_of-all blocks, ap (λ n. start_of n blocks) (same _ _ last within)))
            (cases_lt (suc k) (length blocks));
      }
    where
      at_most : (p s i : ℕ) → p ≡ 0 + s → nat_le p i ≡ true → s ≤ i
      at_most p s i is le = grind (arith, nat_tests)

      above : (p s i : ℕ) → p ≡ 0 + s → nat_le p i ≡ false → i < s
      above p s i is not_le = grind (arith, nat_tests)

      same : (a b : ℕ) → b ≤ a → a ≤ b → a ≡ b
      same a b le ge = omega arith

  -- the block that a place is in comes before the end of the starts up to the place
  pub IsIn-found : (blocks : List (List X)) (starts : List ℕ) (i cut : ℕ) → i < length (joined blocks) → starts ≡ starts_from 0 blocks →
      IsPartitionPoint (λ place. nat_le place i ≡ true) (λ place. nat_le place i ≡ false) starts cut → cut ≤ length starts → IsIn blocks i (cut - 1)
  IsIn-found blocks starts i cut inside are point most =
      let there = subst (λ (ps : List ℕ). IsPartitionPoint (λ place. nat_le place i ≡ true) (λ place. nat_le place i ≡ false) ps cut) are point in
      let some : 1 ≤ cut = some-start blocks i cut inside there in
      let more : cut ≡ suc (cut - 1) = omega arith in
      IsIn-from_cut blocks i (cut - 1) inside (omega (arith, ap length are, starts-length 0 blocks))
      (subst (λ (n : ℕ). IsPartitionPoint (λ place. nat_le place i ≡ true) (λ place. nat_le place i ≡ false) (starts_from 0 blocks) n) more there)
