-- The counts of all blocks together, after an edit of one.
use Rattle.std.proofs.Common.{◌≡◌, ℕ, ◌+◌, ◌-◌, ◌*◌, ◌^◌, ◌<◌, ◌≤◌, zero, suc, true, List, [], ◌∷◌, ◌++◌, length, map, set, sym, ap, subst, ◌∙◌, arith}
use Rattle.std.specs.Prelude.{min}
use Rattle.std.specs.List.{insert, remove, list_all, sum_by}
use Rattle.std.proofs.lemmas.List.Concat.{length-flat_map}
use Rattle.std.proofs.lemmas.List.Sums.{sum_by-set, sum_by-insert, sum_by-remove, sum_by-append, sum_by-cons}
use Rattle.std.proofs.lemmas.List.{length-map, map_push}
use Rattle.ec_blocks.specs.Chain.{joined, block_at, debt, is_block}
use Rattle.ec_blocks.specs.ChainParts.{IsCounted, is_kept}
use Rattle.ec_blocks.proofs.ChainLemmas.{joined-most, kept-blocks}

-- one member less
pub one-less : (from before after : ℕ) → from ≡ before → after + 1 ≡ before → from - 1 ≡ after
one-less from before after same less = omega arith

module _ {X : Type 0} where
  -- the same blocks
  pub counted-same : (inner lists : List (List X)) (total owed : ℕ) → inner ≡ lists → IsCounted inner total owed → IsCounted lists total owed
  counted-same inner lists total owed are counted = subst (λ bs. IsCounted bs total owed) are counted

  -- the members are as many as counted
  pub counted-total : (blocks : List (List X)) (total owed : ℕ) → IsCounted blocks total owed → total ≡ length (joined blocks)
  counted-total blocks total owed counted = omega (arith, counted.total_is, length-flat_map (λ block. block) blocks)

  owed-below : (blocks : List (List X)) → sum_by (λ block. length block - 64) blocks ≤ sum_by length blocks
  owed-below [] = omega arith
  owed-below (b ∷ blocks) = omega (arith, owed-below blocks, sum_by-cons length b blocks, sum_by-cons (λ block. length block - 64) b blocks)

  -- the counts are small
  pub counted-few : (blocks : List (List X)) (total owed : ℕ) → IsCounted blocks total owed → list_all is_block blocks ≡ true → total ≤ 128 * length blocks
  counted-few blocks total owed counted all = omega (arith, counted-total blocks total owed counted, joined-most blocks all)

  pub owed-few : (blocks : List (List X)) (total owed : ℕ) → IsCounted blocks total owed → list_all is_block blocks ≡ true → owed ≤ 128 * length blocks
  owed-few blocks total owed counted all =
      omega (arith, counted.total_is, counted.owed_is, owed-below blocks, counted-few blocks total owed counted all)

  module _ {B : Type 0} (items : B → List X) (capacity : B → ℕ) (blocks : List B) (total owed : ℕ) (kept : list_all (is_kept items capacity) blocks ≡ true)
      (few : length blocks ≤ 2 ^ 56) (counted : IsCounted (map items blocks) total owed) where
    pub counted-small : total ≤ 2 ^ 63
    counted-small =
        omega (arith, counted-few (map items blocks) total owed counted (kept-blocks items capacity blocks kept), length-map blocks items)

    pub owed-small : owed ≤ 2 ^ 63
    owed-small = omega (arith, owed-few (map items blocks) total owed counted (kept-blocks items capacity blocks kept), length-map blocks items)

  -- a block more at the end
  pub counted-push : {B : Type 0} (items : B → List X) (blocks after : List B) (new : B) (members : List X) (total owed total' owed' : ℕ) → IsCounted (map items blocks) total owed →
      after ≡ blocks ++ new ∷ [] → items new ≡ members → total' + 0 ≡ total + length members → owed' + 0 ≡ owed + (length members - 64) →
      IsCounted (map items after) total' owed'
  counted-push items blocks after new members total owed total' owed' counted is made more owing =
      let there = ap (map items) is ∙ map_push items blocks new ∙ ap (λ m. map items blocks ++ m ∷ []) made in
      counted-same (map items blocks ++ members ∷ []) (map items after) total' owed' (sym there) (record {
        total_is = omega (arith, counted.total_is, sum_by-append length (map items blocks) (members ∷ []));
        owed_is = omega (arith, counted.owed_is, sum_by-append (λ block. length block - 64) (map items blocks) (members ∷ []));
      })

  -- a block is counted
  pub counted-part : (blocks : List (List X)) (k total owed : ℕ) → IsCounted blocks total owed → k < length blocks → length (block_at k blocks) ≤ total
  counted-part blocks k total owed counted within = omega (arith, counted.total_is, sum_by-set length blocks k [] [] within)

  pub owed-part : (blocks : List (List X)) (k total owed : ℕ) → IsCounted blocks total owed → k < length blocks → length (block_at k blocks) - 64 ≤ owed
  owed-part blocks k total owed counted within =
      omega (arith, counted.owed_is, sum_by-set (λ block. length block - 64) blocks k [] [] within)

  -- a block changes
  pub counted-set : (blocks after : List (List X)) (k : ℕ) (b : List X) (total owed total' owed' : ℕ) → IsCounted blocks total owed → k < length blocks →
      after ≡ set blocks k b → total' + length (block_at k blocks) ≡ total + length b →
      owed' + (length (block_at k blocks) - 64) ≡ owed + (length b - 64) → IsCounted after total' owed'
  counted-set blocks after k b total owed total' owed' counted within is more owing =
      counted-same (set blocks k b) after total' owed' (sym is) (record {
        total_is = omega (arith, counted.total_is, sum_by-set length blocks k b [] within);
        owed_is = omega (arith, counted.owed_is, sum_by-set (λ block. length block - 64) blocks k b [] within);
      })

  -- as the numbers of its members are passed on
  pub counted-edit : (blocks after : List (List X)) (k : ℕ) (b : List X) (from to total owed total' owed' : ℕ) → IsCounted blocks total owed → k < length blocks →
      after ≡ set blocks k b → from ≡ length (block_at k blocks) → to ≡ length b → total' + from ≡ total + to → owed' + (from - 64) ≡ owed + (to - 64) →
      IsCounted after total' owed'
  counted-edit blocks after k b from to total owed total' owed' counted within is before behind more owing =
      counted-set blocks after k b total owed total' owed' counted within is (omega arith) (omega arith)

  -- a block more
  pub counted-insert : (blocks after : List (List X)) (k : ℕ) (b : List X) (to total owed total' owed' : ℕ) → IsCounted blocks total owed →
      after ≡ insert blocks k b → to ≡ length b → total' + 0 ≡ total + to → owed' + 0 ≡ owed + (to - 64) → IsCounted after total' owed'
  counted-insert blocks after k b to total owed total' owed' counted is behind more owing =
      counted-same (insert blocks k b) after total' owed' (sym is) (record {
        total_is = omega (arith, counted.total_is, sum_by-insert length blocks k b);
        owed_is = omega (arith, counted.owed_is, sum_by-insert (λ block. length block - 64) blocks k b);
      })

  -- a block less
  pub counted-remove : (blocks after : List (List X)) (k from total owed total' owed' : ℕ) → IsCounted blocks total owed → k < length blocks →
      after ≡ remove blocks k → from ≡ length (block_at k blocks) → total' + from ≡ total + 0 → owed' + (from - 64) ≡ owed + 0 → IsCounted after total' owed'
  counted-remove blocks after k from total owed total' owed' counted within is before less owing =
      counted-same (remove blocks k) after total' owed' (sym is) (record {
        total_is = omega (arith, counted.total_is, sum_by-remove length blocks k [] within);
        owed_is = omega (arith, counted.owed_is, sum_by-remove (λ block. length block - 64) blocks k [] within);
      })

  -- the last block counts whole on the way to a split
  pub debt-counted : (blocks : List (List X)) (n : ℕ) → suc n ≡ length blocks →
      debt blocks ≡ sum_by (λ block. length block - 64) blocks + min (length (block_at n blocks)) 64
  debt-counted [] n last = absurd (omega arith)
  debt-counted (a ∷ []) zero last = omega arith
  debt-counted (a ∷ []) (suc n) last = absurd (omega arith)
  debt-counted (a ∷ b ∷ blocks) zero last = absurd (omega arith)
  debt-counted (a ∷ b ∷ blocks) (suc n) last = omega (arith, debt-counted (b ∷ blocks) n (omega arith), sum_by-cons (λ block. length block - 64) a (b ∷ blocks))
