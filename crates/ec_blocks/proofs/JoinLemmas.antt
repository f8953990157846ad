-- The members of all blocks, after an edit of one.
use Rattle.std.proofs.Common.{◌≡◌, ℕ, ◌+◌, ◌-◌, ◌<◌, ◌≤◌, zero, suc, List, [], ◌∷◌, ◌++◌, length, take, drop, set, refl, sym, ap, ap₂, ◌∙◌, append_assoc, length-append, length-drop, length-set, arith}
use Rattle.std.specs.Prelude.{slice_get}
use Rattle.std.specs.List.{insert, remove}
use Rattle.std.proofs.lemmas.List.{append-nil, set-append_left, set-append_right, take-append-drop, take_at, take_all, drop_all, drop-append-le}
use Rattle.std.proofs.Math.Seq.{drop-append-add}
use Rattle.std.proofs.lemmas.List.Edits.{length-insert, insert-append_left, insert-append_right, remove-append_left, remove-append_right}
use Rattle.std.proofs.lemmas.List.Concat.{flat_map-append}
use Rattle.ec_blocks.proofs.ChainLemmas.{slice_get-drop}
use Rattle.ec_blocks.specs.Chain.{joined, block_at, start_of}

module _ {X : Type 0} where
  -- ---- edits within a block

  pub joined-set : (blocks : List (List X)) (k j i : ℕ) (x : X) → k < length blocks → j < length (block_at k blocks) → i ≡ start_of k blocks + j →
      joined (set blocks k (set (block_at k blocks) j x)) ≡ set (joined blocks) i x
  joined-set [] k j i x within inside at = absurd (omega arith)
  joined-set (a ∷ blocks) zero j i x within inside at = sym (ap (λ n. set (a ++ joined blocks) n x) (omega arith) ∙ set-append_left a (joined blocks) j x inside)
  joined-set (a ∷ blocks) (suc k) j i x within inside at =
      let start = length-append a (joined (take k blocks)) in
      ap (λ zs. a ++ zs) (joined-set blocks k j (i - length a) x (omega arith) inside (omega arith)) ∙ sym (set-append_right a (joined blocks) (length a) i x refl (omega arith))

  pub joined-insert : (blocks : List (List X)) (k j i : ℕ) (x : X) → k < length blocks → j ≤ length (block_at k blocks) → i ≡ start_of k blocks + j →
      joined (set blocks k (insert (block_at k blocks) j x)) ≡ insert (joined blocks) i x
  joined-insert [] k j i x within inside at = absurd (omega arith)
  joined-insert (a ∷ blocks) zero j i x within inside at = sym (ap (λ n. insert (a ++ joined blocks) n x) (omega arith) ∙ insert-append_left a (joined blocks) j x inside)
  joined-insert (a ∷ blocks) (suc k) j i x within inside at =
      let start = length-append a (joined (take k blocks)) in
      ap (λ zs. a ++ zs) (joined-insert blocks k j (i - length a) x (omega arith) inside (omega arith)) ∙ sym (insert-append_right a (joined blocks) (length a) i x refl (omega arith))

  pub joined-remove : (blocks : List (List X)) (k j i : ℕ) → k < length blocks → j < length (block_at k blocks) → i ≡ start_of k blocks + j →
      joined (set blocks k (remove (block_at k blocks) j)) ≡ remove (joined blocks) i
  joined-remove [] k j i within inside at = absurd (omega arith)
  joined-remove (a ∷ blocks) zero j i within inside at = sym (ap (λ n. remove (a ++ joined blocks) n) (omega arith) ∙ remove-append_left a (joined blocks) j inside)
  joined-remove (a ∷ blocks) (suc k) j i within inside at =
      let start = length-append a (joined (take k blocks)) in
      ap (λ zs. a ++ zs) (joined-remove blocks k j (i - length a) (omega arith) inside (omega arith)) ∙ sym (remove-append_right a (joined blocks) (length a) i refl (omega arith))

  -- ---- edits of blocks

  -- a block becomes two
  pub joined-split : (blocks : List (List X)) (k n : ℕ) → k < length blocks →
      joined (insert (set blocks k (take n (block_at k blocks))) (suc k) (drop n (block_at k blocks))) ≡ joined blocks
  joined-split [] k n within = absurd (omega arith)
  joined-split (a ∷ blocks) zero n within = sym (append_assoc (take n a) (drop n a) (joined blocks)) ∙ ap (λ us. us ++ joined blocks) (take-append-drop n a)
  joined-split (a ∷ blocks) (suc k) n within = ap (λ zs. a ++ zs) (joined-split blocks k n (omega arith))

  -- one more at the end
  pub joined-append : (blocks : List (List X)) (b : List X) → joined (blocks ++ b ∷ []) ≡ joined blocks ++ b
  joined-append blocks b = flat_map-append (λ b. b) blocks (b ∷ []) ∙ ap (λ zs. joined blocks ++ zs) (append-nil b)

  -- a block of one member goes
  pub joined-gone : (blocks : List (List X)) (k i : ℕ) → k < length blocks → length (block_at k blocks) ≡ 1 → i ≡ start_of k blocks →
      joined (remove blocks k) ≡ remove (joined blocks) i
  joined-gone [] k i within one at = absurd (omega arith)
  joined-gone ([] ∷ blocks) zero i within one at = absurd (omega arith)
  joined-gone ((x ∷ []) ∷ blocks) zero i within one at = ap (remove (x ∷ joined blocks)) (sym at)
  joined-gone ((x ∷ y ∷ a) ∷ blocks) zero i within one at = absurd (omega arith)
  joined-gone (a ∷ blocks) (suc k) i within one at =
      let start = length-append a (joined (take k blocks)) in
      ap (λ zs. a ++ zs) (joined-gone blocks k (i - length a) (omega arith) one (omega arith)) ∙ sym (remove-append_right a (joined blocks) (length a) i refl (omega arith))

  -- ---- reads

  -- what follows a place begins with the rest of its block
  pub drop-joined : (blocks : List (List X)) (k j i : ℕ) → k < length blocks → j ≤ length (block_at k blocks) → i ≡ start_of k blocks + j →
      drop i (joined blocks) ≡ drop j (block_at k blocks) ++ joined (drop (suc k) blocks)
  drop-joined [] k j i within inside at = absurd (omega arith)
  drop-joined (a ∷ blocks) zero j i within inside at = ap (λ n. drop n (a ++ joined blocks)) (omega arith) ∙ drop-append-le j a (joined blocks) inside
  drop-joined (a ∷ blocks) (suc k) j i within inside at =
      let start = length-append a (joined (take k blocks)) in
      let rest : i ≡ length a + (i - length a) = omega arith in
      ap (λ n. drop n (a ++ joined blocks)) rest ∙ drop-append-add a (joined blocks) (i - length a) ∙ drop-joined blocks k j (i - length a) (omega arith) inside (omega arith)

  pub run-joined : (blocks : List (List X)) (k j i : ℕ) (run : List X) → k < length blocks → j ≤ length (block_at k blocks) → i ≡ start_of k blocks + j →
      run ≡ drop j (block_at k blocks) → run ≡ take (length run) (drop i (joined blocks))
  run-joined blocks k j i run within inside at is =
      sym (ap (take (length run)) (drop-joined blocks k j i within inside at ∙ ap (λ zs. zs ++ joined (drop (suc k) blocks)) (sym is)) ∙ take_at run (joined (drop (suc k) blocks)) (length run) refl)

  -- a member, read in its block
  pub slice_get-joined : (blocks : List (List X)) (k j i : ℕ) → k < length blocks → j < length (block_at k blocks) → i ≡ start_of k blocks + j →
      slice_get (joined blocks) i ≡ slice_get (block_at k blocks) j
  slice_get-joined blocks k j i within inside at =
      sym (slice_get-drop i 0 i (joined blocks) (omega arith)) ∙ ap (λ zs. slice_get zs 0) (drop-joined blocks k j i within (omega arith) at)
      ∙ front (drop j (block_at k blocks)) (joined (drop (suc k) blocks)) (omega (arith, length-drop j (block_at k blocks))) ∙ slice_get-drop j 0 j (block_at k blocks) (omega arith)
    where
      front : (xs ys : List X) → 1 ≤ length xs → slice_get (xs ++ ys) 0 ≡ slice_get xs 0
      front [] ys some = absurd (omega arith)
      front (x ∷ xs) ys some = refl

  -- at the end an insertion is a push
  pub insert-end : (xs : List X) (i : ℕ) (x : X) → i ≡ length xs → insert xs i x ≡ xs ++ x ∷ []
  insert-end xs i x end = ap₂ (λ us vs. us ++ x ∷ vs) (take_all i xs (omega arith)) (drop_all i xs (omega arith))

  -- ---- a block that became two

  pub split-count : (blocks : List (List X)) (k : ℕ) (u v : List X) → k < length blocks → length (insert (set blocks k u) (suc k) v) ≡ length blocks + 1
  split-count blocks k u v within = length-insert (set blocks k u) (suc k) v (omega (arith, length-set blocks k u)) ∙ ap (λ n. n + 1) (length-set blocks k u)

  pub split-first : (blocks : List (List X)) (k : ℕ) (u v : List X) → k < length blocks → block_at k (insert (set blocks k u) (suc k) v) ≡ u
  split-first [] k u v within = absurd (omega arith)
  split-first (a ∷ blocks) zero u v within = refl
  split-first (a ∷ blocks) (suc k) u v within = split-first blocks k u v (omega arith)

  pub split-second : (blocks : List (List X)) (k : ℕ) (u v : List X) → k < length blocks → block_at (suc k) (insert (set blocks k u) (suc k) v) ≡ v
  split-second [] k u v within = absurd (omega arith)
  split-second (a ∷ blocks) zero u v within = refl
  split-second (a ∷ blocks) (suc k) u v within = split-second blocks k u v (omega arith)

  pub split-start : (blocks : List (List X)) (k : ℕ) (u v : List X) → k < length blocks → start_of k (insert (set blocks k u) (suc k) v) ≡ start_of k blocks
  split-start [] k u v within = absurd (omega arith)
  split-start (a ∷ blocks) zero u v within = refl
  split-start (a ∷ blocks) (suc k) u v within =
      length-append a (joined (take k (insert (set blocks k u) (suc k) v))) ∙ ap (λ n. length a + n) (split-start blocks k u v (omega arith)) ∙ sym (length-append a (joined (take k blocks)))
