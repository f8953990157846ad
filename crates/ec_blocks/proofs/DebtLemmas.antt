-- How far the blocks are on the way to their next splits, after an edit.
use Rattle.std.proofs.Common.{◌≡◌, ℕ, ◌+◌, ◌-◌, ◌<◌, ◌≤◌, zero, suc, true, List, [], ◌∷◌, ◌++◌, length, set, length-set, length-append, refl, arith}
use Rattle.std.specs.List.{insert, remove, list_all}
use Rattle.std.proofs.lemmas.List.Edits.{length-insert, length-remove}
use Rattle.ec_lists.proofs.Booleans.{and-left, and-right}
use Rattle.ec_blocks.specs.Chain.{block_at, is_block, debt}
use Rattle.ec_blocks.proofs.ChainLemmas.{is_block-most}

module _ {X : Type 0} where
  debt-cons : (a : List X) (blocks : List (List X)) → 1 ≤ length blocks → debt (a ∷ blocks) ≡ (length a - 64) + debt blocks
  debt-cons a [] some = absurd (omega arith)
  debt-cons a (b ∷ blocks) some = refl

  -- a block gets up to n more
  pub debt-set : (blocks : List (List X)) (k n : ℕ) (b : List X) → k < length blocks → length b ≤ length (block_at k blocks) + n → debt (set blocks k b) ≤ debt blocks + n
  debt-set [] k n b within more = absurd (omega arith)
  debt-set (a ∷ []) zero n b within more = more
  debt-set (a ∷ []) (suc k) n b within more = absurd (omega arith)
  debt-set (a ∷ a' ∷ blocks) zero n b within more = omega arith
  debt-set (a ∷ a' ∷ blocks) (suc k) n b within more =
      omega (arith, debt-cons a (set (a' ∷ blocks) k b) (omega (arith, length-set (a' ∷ blocks) k b)), debt-set (a' ∷ blocks) k n b (omega arith) more)

  -- a full block becomes two halves
  pub debt-split : (blocks : List (List X)) (k : ℕ) (u v : List X) → k < length blocks → length (block_at k blocks) ≡ 128 → length u ≡ 64 → length v ≡ 64 →
      debt (insert (set blocks k u) (suc k) v) + 64 ≤ debt blocks
  debt-split [] k u v within full u_half v_half = absurd (omega arith)
  debt-split (a ∷ []) zero u v within full u_half v_half = omega arith
  debt-split (a ∷ []) (suc k) u v within full u_half v_half = absurd (omega arith)
  debt-split (a ∷ a' ∷ blocks) zero u v within full u_half v_half = omega arith
  debt-split (a ∷ a' ∷ blocks) (suc k) u v within full u_half v_half =
      let more = length-insert (set (a' ∷ blocks) k u) (suc k) v (omega (arith, length-set (a' ∷ blocks) k u)) in
      omega (arith, debt-cons a (insert (set (a' ∷ blocks) k u) (suc k) v) (omega arith), debt-split (a' ∷ blocks) k u v (omega arith) full u_half v_half)

  -- a block of one member begins behind a full last one, or as the first
  pub debt-append : (blocks : List (List X)) (v : List X) → length v ≡ 1 → ((k : ℕ) → suc k ≡ length blocks → length (block_at k blocks) ≡ 128) →
      debt (blocks ++ v ∷ []) + 63 ≤ debt blocks
  debt-append [] v one full = omega arith
  debt-append (a ∷ []) v one full = let here : length a ≡ 128 = full zero refl in omega arith
  debt-append (a ∷ a' ∷ blocks) v one full =
      omega (
        arith,
        debt-cons a ((a' ∷ blocks) ++ v ∷ []) (omega (arith, length-append (a' ∷ blocks) (v ∷ []))),
        debt-append (a' ∷ blocks) v one (λ k last. full (suc k) (omega arith)),
      )

  -- a block of one member goes
  pub debt-remove : (blocks : List (List X)) (k : ℕ) → k < length blocks → length (block_at k blocks) ≡ 1 → list_all is_block blocks ≡ true →
      debt (remove blocks k) ≤ debt blocks + 63
  debt-remove [] k within one all = absurd (omega arith)
  debt-remove (a ∷ []) zero within one all = omega arith
  debt-remove (a ∷ []) (suc k) within one all = absurd (omega arith)
  debt-remove (a ∷ a' ∷ blocks) zero within one all = omega arith
  debt-remove (a ∷ a' ∷ []) (suc zero) within one all = let most : length a ≤ 128 = is_block-most a (and-left _ _ all) in omega arith
  debt-remove (a ∷ a' ∷ []) (suc (suc k)) within one all = absurd (omega arith)
  debt-remove (a ∷ a' ∷ a'' ∷ blocks) (suc k) within one all =
      let less = length-remove (a' ∷ a'' ∷ blocks) k (omega arith) in
      omega (arith, debt-cons a (remove (a' ∷ a'' ∷ blocks) k) (omega arith), debt-remove (a' ∷ a'' ∷ blocks) k (omega arith) one (and-right _ _ all))
