-- A full block that became two halves, and one member more in one of them.
use Rattle.std.proofs.Common.{◌≡◌, ℕ, ◌+◌, ◌-◌, ◌*◌, ◌<◌, ◌≤◌, suc, true, List, length, take, drop, set, sym, ap, ap₂, subst, ◌∙◌, add-one, length-drop, arith}
use Rattle.std.specs.List.{insert}
use Rattle.std.proofs.lemmas.List.{length-take-le}
use Rattle.std.proofs.lemmas.List.Edits.{length-insert}
use Rattle.ec_blocks.specs.Chain.{joined, block_at, start_of, is_block, debt}
use Rattle.ec_blocks.proofs.ChainLemmas.{is_block-most}
use Rattle.ec_blocks.proofs.StartLemmas.{start_of-suc}
use Rattle.ec_blocks.proofs.JoinLemmas.{joined-insert, joined-split, split-count, split-first, split-second, split-start}
use Rattle.ec_blocks.proofs.DebtLemmas.{debt-set, debt-split}

module _ {X : Type 0} where
  -- a block with no place left is full
  pub full-from : (members block : List X) → members ≡ block → is_block members ≡ true → 128 ≤ length members → length block ≡ 128
  full-from members block is kept least = sym (ap length is) ∙ (let most = is_block-most members kept in omega arith)

  -- the halves of a full block
  pub half-front : (block : List X) → length block ≡ 128 → length (take 64 block) ≡ 64
  half-front block full = length-take-le 64 block (omega arith)

  pub half-back : (block : List X) → length block ≡ 128 → length (drop 64 block) ≡ 64
  half-back block full = length-drop 64 block ∙ ap (λ n. n - 64) full

  module _ (blocks after : List (List X)) (k : ℕ) (within : k < length blocks) (full : length (block_at k blocks) ≡ 128)
      (are : after ≡ insert (set blocks k (take 64 (block_at k blocks))) (k + 1) (drop 64 (block_at k blocks))) where
    halves-are : after ≡ insert (set blocks k (take 64 (block_at k blocks))) (suc k) (drop 64 (block_at k blocks))
    halves-are = are ∙ ap (λ n. insert (set blocks k (take 64 (block_at k blocks))) n (drop 64 (block_at k blocks))) (add-one k)

    halves-count : length after ≡ length blocks + 1
    halves-count = ap length halves-are ∙ split-count blocks k (take 64 (block_at k blocks)) (drop 64 (block_at k blocks)) within

    halves-front : length (block_at k after) ≡ 64
    halves-front =
        ap (λ bs. length (block_at k bs)) halves-are ∙ ap length (split-first blocks k (take 64 (block_at k blocks)) (drop 64 (block_at k blocks)) within) ∙ half-front (block_at k blocks) full

    halves-back : length (block_at (k + 1) after) ≡ 64
    halves-back =
        ap₂ (λ n bs. length (block_at n bs)) (add-one k) halves-are ∙ ap length (split-second blocks k (take 64 (block_at k blocks)) (drop 64 (block_at k blocks)) within) ∙ half-back (block_at k blocks) full

    halves-start : start_of k after ≡ start_of k blocks
    halves-start = ap (start_of k) halves-are ∙ split-start blocks k (take 64 (block_at k blocks)) (drop 64 (block_at k blocks)) within

    halves-back_start : start_of (k + 1) after ≡ start_of k blocks + 64
    halves-back_start =
        ap (λ n. start_of n after) (add-one k) ∙ start_of-suc after k (omega (arith, halves-count)) ∙ ap₂ (λ m n. m + n) halves-start halves-front

    halves-joined : joined after ≡ joined blocks
    halves-joined = ap joined halves-are ∙ joined-split blocks k 64 within

    halves-debt : debt after + 64 ≤ debt blocks
    halves-debt =
        subst (λ bs. debt bs + 64 ≤ debt blocks) (sym halves-are)
        (debt-split blocks k (take 64 (block_at k blocks)) (drop 64 (block_at k blocks)) within full (half-front (block_at k blocks) full) (half-back (block_at k blocks) full))

    -- both halves stand in the list, and have places left
    pub front-within : k < length after
    front-within = omega (arith, halves-count)

    pub back-within : k + 1 < length after
    back-within = omega (arith, halves-count)

    pub front-free : length (block_at k after) < 128
    front-free = omega (arith, halves-front)

    pub back-free : length (block_at (k + 1) after) < 128
    back-free = omega (arith, halves-back)

    -- a place in the block is one in a half
    pub front-place : (j : ℕ) → j ≤ 64 → j ≤ length (block_at k after)
    front-place j early = omega (arith, halves-front)

    pub back-place : (j : ℕ) → j < length (block_at k blocks) → j - 64 ≤ length (block_at (k + 1) after)
    back-place j inside = omega (arith, halves-back)

    -- an insertion in a half is one in the block
    pub front-insert : (j i : ℕ) (x : X) → j ≤ 64 → start_of k blocks + j ≡ i → joined (set after k (insert (block_at k after) j x)) ≡ insert (joined blocks) i x
    front-insert j i x early at =
        joined-insert after k j i x front-within (front-place j early) (sym (ap (λ n. n + j) halves-start ∙ at)) ∙ ap (λ xs. insert xs i x) halves-joined

    pub back-insert : (j i : ℕ) (x : X) → 64 < j → j < length (block_at k blocks) → start_of k blocks + j ≡ i →
        joined (set after (k + 1) (insert (block_at (k + 1) after) (j - 64) x)) ≡ insert (joined blocks) i x
    back-insert j i x late inside at =
        joined-insert after (k + 1) (j - 64) i x back-within (back-place j inside) (omega (arith, halves-back_start)) ∙ ap (λ xs. insert xs i x) halves-joined

    -- it brings the next splits nearer by one; the split took a spare block, and brought them 64 back
    pub half-debt : (m j : ℕ) (x : X) → m < length after → j ≤ length (block_at m after) → (last : List (List X)) → last ≡ set after m (insert (block_at m after) j x) →
        (spares left : ℕ) → left + 1 ≡ spares → debt last + 64 * spares ≤ debt blocks + 64 * left + 1
    half-debt m j x there inside last is spares left taken =
        omega (
          arith,
          ap debt is,
          halves-debt,
          debt-set after m 1 (insert (block_at m after) j x) there (omega (arith, length-insert (block_at m after) j x inside)),
        )
