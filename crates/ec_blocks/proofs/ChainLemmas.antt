-- Chains of blocks: what holds of each block, and what an edit leaves.
use Rattle.std.proofs.Common.{◌≡◌, ℕ, ◌+◌, ◌-◌, ◌*◌, ◌^◌, ◌<◌, ◌≤◌, zero, suc, Bool, true, false, ◌&&◌, List, [], ◌∷◌, ◌++◌, length, map, get_or, take, drop, set, Option, Some, None, refl, sym, ap, ap₂, subst, ◌∙◌, length-append, length-drop, length-set, add-one, zero-add, arith}
use Rattle.std.specs.Prelude.{nat_lt, nat_le, nat_eq, slice_get}
use Rattle.std.specs.List.{insert, remove, list_all}
use Rattle.std.proofs.lemmas.Bool.{le-leb, lt-ltb}
use Rattle.std.proofs.lemmas.List.{length-map, get_or-map, get_or-drop, map-set}
use Rattle.std.proofs.lemmas.Bool.Decides.{nat_tests}
use Rattle.std.proofs.lemmas.List.Edits.{length-insert, length-remove}
use Rattle.std.proofs.lemmas.List.Folds.{list_all-append}
use Rattle.ec_lists.proofs.Booleans.{and-left, and-right}
use Rattle.ec_blocks.specs.Chain.{joined, block_at, start_of, last_of, starts_from, is_block}
use Rattle.ec_blocks.specs.ChainParts.{IsChain, is_kept}
use Rattle.ec_blocks.proofs.StartLemmas.{starts-length, starts-at, starts-same, starts-more, starts-less}

-- ---- tests of all members

pub list_all-set : {X : Type 0} (p : X → Bool) (xs : List X) (i : ℕ) (x : X) → p x ≡ true → list_all p xs ≡ true → list_all p (set xs i x) ≡ true
list_all-set p [] i x here all = refl
list_all-set p (y ∷ xs) zero x here all = ap₂ (λ a b. a && b) here (and-right _ _ all)
list_all-set p (y ∷ xs) (suc i) x here all = ap₂ (λ a b. a && b) (and-left _ _ all) (list_all-set p xs i x here (and-right _ _ all))

pub list_all-insert : {X : Type 0} (p : X → Bool) (xs : List X) (i : ℕ) (x : X) → p x ≡ true → list_all p xs ≡ true → list_all p (insert xs i x) ≡ true
list_all-insert p [] zero x here all = ap (λ b. b && true) here
list_all-insert p [] (suc i) x here all = ap (λ b. b && true) here
list_all-insert p (y ∷ xs) zero x here all = ap₂ (λ a b. a && b) here all
list_all-insert p (y ∷ xs) (suc i) x here all = ap₂ (λ a b. a && b) (and-left _ _ all) (list_all-insert p xs i x here (and-right _ _ all))

pub list_all-push : {X : Type 0} (p : X → Bool) (xs : List X) (x : X) → p x ≡ true → list_all p xs ≡ true → list_all p (xs ++ x ∷ []) ≡ true
list_all-push p xs x here all = list_all-append p xs (x ∷ []) ∙ rw (all, here)

pub list_all-take : {X : Type 0} (p : X → Bool) (xs : List X) (i : ℕ) → list_all p xs ≡ true → list_all p (take i xs) ≡ true
list_all-take p xs zero all = refl
list_all-take p [] (suc i) all = refl
list_all-take p (x ∷ xs) (suc i) all = ap₂ (λ a b. a && b) (and-left _ _ all) (list_all-take p xs i (and-right _ _ all))

pub list_all-drop : {X : Type 0} (p : X → Bool) (xs : List X) (i : ℕ) → list_all p xs ≡ true → list_all p (drop i xs) ≡ true
list_all-drop p xs zero all = all
list_all-drop p [] (suc i) all = refl
list_all-drop p (x ∷ xs) (suc i) all = list_all-drop p xs i (and-right _ _ all)

-- what holds of all holds of the one at a place
pub list_all-at : {X : Type 0} (p : X → Bool) (xs : List X) (i : ℕ) (x : X) → list_all p xs ≡ true → i < length xs → x ≡ get_or xs i x → p x ≡ true
list_all-at p [] i x all within is = absurd (omega arith)
list_all-at p (y ∷ xs) zero x all within is = ap p is ∙ and-left _ _ all
list_all-at p (y ∷ xs) (suc i) x all within is = list_all-at p xs i x (and-right _ _ all) (omega arith) is

-- what holds of all from a place on holds of the one at a later place
pub list_all-later : {X : Type 0} (p : X → Bool) (xs : List X) (from i : ℕ) (x : X) → list_all p (drop from xs) ≡ true → from ≤ i → i < length xs → x ≡ get_or xs i x →
    p x ≡ true
list_all-later p xs from i x all ordered within is =
    list_all-at p (drop from xs) (i - from) x all (omega (arith, length-drop from xs))
    (is ∙ sym (get_or-drop from xs (i - from) x ∙ ap (λ j. get_or xs j x) (omega arith)))

pub list_all-map : {X Y : Type 0} (p : Y → Bool) (f : X → Y) (xs : List X) → list_all p (map f xs) ≡ list_all (λ x. p (f x)) xs
list_all-map p f [] = refl
list_all-map p f (x ∷ xs) = ap (λ b. p (f x) && b) (list_all-map p f xs)

-- ---- a function of all members, after an edit

pub map-insert : {X Y : Type 0} (f : X → Y) (xs : List X) (i : ℕ) (x : X) → map f (insert xs i x) ≡ insert (map f xs) i (f x)
map-insert f [] zero x = refl
map-insert f [] (suc i) x = refl
map-insert f (y ∷ xs) zero x = refl
map-insert f (y ∷ xs) (suc i) x = ap (λ ys. f y ∷ ys) (map-insert f xs i x)

pub map-remove : {X Y : Type 0} (f : X → Y) (xs : List X) (i : ℕ) → map f (remove xs i) ≡ remove (map f xs) i
map-remove f [] zero = refl
map-remove f [] (suc i) = refl
map-remove f (y ∷ xs) zero = refl
map-remove f (y ∷ xs) (suc i) = ap (λ ys. f y ∷ ys) (map-remove f xs i)

-- ---- what is left of a block

pub slice_get-drop : {X : Type 0} (n i j : ℕ) (xs : List X) → j ≡ n + i → slice_get (drop n xs) i ≡ slice_get xs j
slice_get-drop zero i j xs is = ap (slice_get xs) (omega arith)
slice_get-drop (suc n) i zero xs is = absurd (omega arith)
slice_get-drop (suc n) i (suc j) [] is = refl
slice_get-drop (suc n) i (suc j) (x ∷ xs) is = slice_get-drop n i j xs (omega arith)

-- the last member stays where some go in front of it
pub last_of-drop : {X : Type 0} (n : ℕ) (block : List X) → n < length block → last_of (drop n block) ≡ last_of block
last_of-drop n block within =
    slice_get-drop n (length (drop n block) - 1) (length block - 1) block (omega (arith, length-drop n block))

-- it stays where one that is not it goes, comes or changes
slice_get-set : {X : Type 0} (xs : List X) (i j : ℕ) (y : X) → i < j → slice_get (set xs i y) j ≡ slice_get xs j
slice_get-set [] i j y less = refl
slice_get-set (x ∷ xs) i zero y less = absurd (omega arith)
slice_get-set (x ∷ xs) zero (suc j) y less = refl
slice_get-set (x ∷ xs) (suc i) (suc j) y less = slice_get-set xs i j y (omega arith)

slice_get-insert : {X : Type 0} (xs : List X) (i j : ℕ) (y : X) → i ≤ j → slice_get (insert xs i y) (suc j) ≡ slice_get xs j
slice_get-insert xs zero j y le = refl
slice_get-insert [] (suc i) j y le = refl
slice_get-insert (x ∷ xs) (suc i) zero y le = absurd (omega arith)
slice_get-insert (x ∷ xs) (suc i) (suc j) y le = slice_get-insert xs i j y (omega arith)

slice_get-remove : {X : Type 0} (xs : List X) (i j : ℕ) → i ≤ j → slice_get (remove xs i) j ≡ slice_get xs (suc j)
slice_get-remove [] zero j le = refl
slice_get-remove [] (suc i) j le = refl
slice_get-remove (x ∷ xs) zero j le = refl
slice_get-remove (x ∷ xs) (suc i) zero le = absurd (omega arith)
slice_get-remove (x ∷ xs) (suc i) (suc j) le = slice_get-remove xs i j (omega arith)

unequal : (m n : ℕ) → nat_eq m n ≡ false → m ≤ n → m < n
unequal m n test le = grind (arith, nat_tests)

pub last_of-set : {X : Type 0} (xs : List X) (i : ℕ) (y : X) → i < length xs → nat_eq (i + 1) (length xs) ≡ false → last_of (set xs i y) ≡ last_of xs
last_of-set xs i y within other =
    ap (λ n. slice_get (set xs i y) (n - 1)) (length-set xs i y)
    ∙ slice_get-set xs i (length xs - 1) y (omega (arith, unequal (i + 1) (length xs) other (omega arith)))

pub last_of-insert : {X : Type 0} (xs : List X) (i : ℕ) (y : X) → i ≤ length xs → nat_eq i (length xs) ≡ false → last_of (insert xs i y) ≡ last_of xs
last_of-insert xs i y within other =
    let less = unequal i (length xs) other within in
    ap (slice_get (insert xs i y)) (omega (arith, length-insert xs i y within, less)) ∙ slice_get-insert xs i (length xs - 1) y (omega (arith, less))

pub last_of-remove : {X : Type 0} (xs : List X) (i : ℕ) → i < length xs → nat_eq (i + 1) (length xs) ≡ false → last_of (remove xs i) ≡ last_of xs
last_of-remove xs i within other =
    let less = unequal (i + 1) (length xs) other (omega arith) in
    slice_get-remove xs i (length (remove xs i) - 1) (omega (arith, length-remove xs i within, less))
    ∙ ap (slice_get xs) (omega (arith, length-remove xs i within, less))

-- a member read with `Some` round it
pub some-at : {X : Type 0} (xs : List X) (k : ℕ) → get_or (map Some xs) k None ≡ slice_get xs k
some-at [] k = refl
some-at (x ∷ xs) zero = refl
some-at (x ∷ xs) (suc k) = some-at xs k

pub set-some : {X : Type 0} (xs : List X) (k : ℕ) (o : Option X) → slice_get xs k ≡ o → k < length xs → map Some xs ≡ set (map Some xs) k o
set-some [] k o is within = refl
set-some (x ∷ xs) zero o is within = ap (λ o. o ∷ map Some xs) is
set-some (x ∷ xs) (suc k) o is within = ap (λ os. Some x ∷ os) (set-some xs k o is (omega arith))

-- ---- blocks

module _ {X : Type 0} where
  pub is_block-from : (block : List X) → 1 ≤ length block → length block ≤ 128 → is_block block ≡ true
  is_block-from block some most = grind (arith, nat_tests)

  pub is_block-some : (block : List X) → is_block block ≡ true → 1 ≤ length block
  is_block-some block is = let some : nat_le 1 (length block) ≡ true = and-left _ _ is in grind (arith, nat_tests)

  pub is_block-most : (block : List X) → is_block block ≡ true → length block ≤ 128
  is_block-most block is = let most : nat_le (length block) 128 ≡ true = and-right (nat_le 1 (length block)) _ is in grind (arith, nat_tests)

  -- the members are not too many
  pub joined-most : (blocks : List (List X)) → list_all is_block blocks ≡ true → length (joined blocks) ≤ 128 * length blocks
  joined-most [] all = omega arith
  joined-most (b ∷ blocks) all =
      omega (arith, length-append b (joined blocks), is_block-most b (and-left _ _ all), joined-most blocks (and-right _ _ all))

  -- the starts are below a number that no count of members reaches
  pub starts-below : (bound n : ℕ) (blocks : List (List X)) → list_all is_block blocks ≡ true → n + 128 * length blocks < bound →
      list_all (λ place. nat_lt place bound) (starts_from n blocks) ≡ true
  starts-below bound n [] all few = refl
  starts-below bound n (b ∷ blocks) all few =
      let most : length b ≤ 128 = is_block-most b (and-left _ _ all) in
      ap₂ (λ a c. a && c) (lt-ltb n bound (omega arith)) (starts-below bound (n + length b) blocks (and-right _ _ all) (omega arith))

  -- and no start is before the first
  starts-from-first : (least n : ℕ) (blocks : List (List X)) → least ≤ n → list_all (λ place. nat_le least place) (starts_from n blocks) ≡ true
  starts-from-first least n [] le = refl
  starts-from-first least n (b ∷ blocks) le = ap₂ (λ a c. a && c) (le-leb least n le) (starts-from-first least (n + length b) blocks (omega arith))

  -- behind a block they are not 0
  pub starts-above : (blocks : List (List X)) (k : ℕ) → list_all is_block blocks ≡ true → list_all (λ place. nat_le 1 place) (drop (suc k) (starts_from 0 blocks)) ≡ true
  starts-above [] k all = refl
  starts-above (b ∷ blocks) k all =
      list_all-drop (λ place. nat_le 1 place) (starts_from (0 + length b) blocks) k
      (starts-from-first 1 (0 + length b) blocks (let some : 1 ≤ length b = is_block-some b (and-left _ _ all) in omega arith))

-- ---- chains

module _ {X B : Type 0} (items : B → List X) (capacity : B → ℕ) where
  -- the members of a block, read at its place
  pub block-is : (blocks : List B) (lists : List (List X)) (k : ℕ) (b : B) → map items blocks ≡ lists → k < length lists → b ≡ get_or blocks k b → items b ≡ block_at k lists
  block-is blocks lists k b are within is =
      ap items is ∙ sym (get_or-map items blocks k b [] (subst (λ n. k < n) (sym (ap length are) ∙ length-map blocks items) within)) ∙ ap (block_at k) are

  -- it is one of the blocks
  pub place-within : (blocks : List B) (lists : List (List X)) (k : ℕ) → map items blocks ≡ lists → k < length lists → k < length blocks
  place-within blocks lists k are within = subst (λ n. k < n) (sym (ap length are) ∙ length-map blocks items) within

  pub is_kept-from : (b : B) → 1 ≤ length (items b) → length (items b) ≤ 128 → 128 ≤ capacity b → is_kept items capacity b ≡ true
  is_kept-from b some most room = grind (arith, nat_tests)

  pub is_kept-block : (b : B) → is_kept items capacity b ≡ true → is_block (items b) ≡ true
  is_kept-block b is = and-left (is_block (items b)) (nat_le 128 (capacity b)) is

  pub is_kept-room : (b : B) → is_kept items capacity b ≡ true → 128 ≤ capacity b
  is_kept-room b is = let room : nat_le 128 (capacity b) ≡ true = and-right (is_block (items b)) _ is in grind (arith, nat_tests)

  -- each list of members is a block
  pub kept-blocks : (blocks : List B) → list_all (is_kept items capacity) blocks ≡ true → list_all is_block (map items blocks) ≡ true
  kept-blocks [] all = refl
  kept-blocks (b ∷ blocks) all = ap₂ (λ a c. a && c) (and-left _ _ (and-left _ _ all)) (kept-blocks blocks (and-right _ _ all))

  module _ (blocks : List B) (starts : List ℕ) (lasts : List X) (spares : List B) (chain : IsChain items capacity blocks starts lasts spares) where
    -- as many starts as blocks
    pub starts-count : length starts ≡ length blocks
    starts-count = ap length chain.starts_are ∙ starts-length 0 (map items blocks) ∙ length-map blocks items

    -- and as many lasts
    pub lasts-count : length lasts ≡ length blocks
    lasts-count = sym (length-map lasts Some) ∙ ap length chain.lasts_are ∙ length-map (map items blocks) last_of ∙ length-map blocks items

    -- where a block begins
    pub start-is : (lists : List (List X)) (k start : ℕ) → map items blocks ≡ lists → k < length lists → start ≡ get_or starts k 0 → start ≡ start_of k lists
    start-is lists k start are within is =
        is ∙ ap (λ ps. get_or ps k 0) (chain.starts_are ∙ ap (starts_from 0) are) ∙ starts-at 0 lists k 0 within ∙ zero-add (start_of k lists)

    lists-are-blocks : list_all is_block (map items blocks) ≡ true
    lists-are-blocks = kept-blocks blocks chain.kept

    -- the starts can be raised
    pub starts-fit : (k : ℕ) → length blocks ≤ 2 ^ 56 → list_all (λ place. nat_lt place (2 ^ 64 - 1)) (drop k starts) ≡ true
    starts-fit k few =
        list_all-drop (λ place. nat_lt place (2 ^ 64 - 1)) starts k
        (ap (list_all (λ place. nat_lt place (2 ^ 64 - 1))) chain.starts_are
        ∙ starts-below (2 ^ 64 - 1) 0 (map items blocks) lists-are-blocks (let count : length (map items blocks) ≡ length blocks = length-map blocks items in omega arith))

    -- and those behind a block can be lowered
    pub starts-some : (k : ℕ) → list_all (λ place. nat_le 1 place) (drop (k + 1) starts) ≡ true
    starts-some k =
        ap₂ (λ n ps. list_all (λ place. nat_le 1 place) (drop n ps)) (add-one k) chain.starts_are ∙ starts-above (map items blocks) k lists-are-blocks

    module _ (k : ℕ) (old new : B) (within : k < length blocks) (is : old ≡ get_or blocks k old) (kept : is_kept items capacity new ≡ true)
        (lasts' : List X) (last : map Some lasts' ≡ set (map Some lasts) k (last_of (items new))) where
      old-is : items old ≡ block_at k (map items blocks)
      old-is = block-is blocks (map items blocks) k old refl (subst (λ n. k < n) (sym (length-map blocks items)) within) is

      set-is : map items (set blocks k new) ≡ set (map items blocks) k (items new)
      set-is = map-set items blocks k new

      set-lasts : map Some lasts' ≡ map last_of (map items (set blocks k new))
      set-lasts = last ∙ ap (λ os. set os k (last_of (items new))) chain.lasts_are ∙ sym (map-set last_of (map items blocks) k (items new)) ∙ ap (map last_of) (sym set-is)

      -- a block changes, and keeps its length
      pub IsChain-same : length (items new) ≡ length (items old) → IsChain items capacity (set blocks k new) starts lasts' spares
      IsChain-same same = record {
        kept = list_all-set (is_kept items capacity) blocks k new kept chain.kept;
        spare = chain.spare;
        starts_are = chain.starts_are ∙ sym (ap (starts_from 0) set-is ∙ starts-same 0 (map items blocks) k (items new) (same ∙ ap length old-is));
        lasts_are = set-lasts;
      }

      -- a block gets one more
      pub IsChain-more : (starts' : List ℕ) → length (items new) ≡ length (items old) + 1 →
          starts' ≡ take (k + 1) starts ++ map (λ place. place + 1) (drop (k + 1) starts) → IsChain items capacity (set blocks k new) starts' lasts' spares
      IsChain-more starts' more are = record {
        kept = list_all-set (is_kept items capacity) blocks k new kept chain.kept;
        spare = chain.spare;
        starts_are = are ∙ ap₂ (λ n ps. take n ps ++ map (λ place. place + 1) (drop n ps)) (add-one k) chain.starts_are
            ∙ sym (ap (starts_from 0) set-is ∙ starts-more 0 (map items blocks) k (items new) (subst (λ n. k < n) (sym (length-map blocks items)) within)
            (more ∙ ap (λ b. length b + 1) old-is));
        lasts_are = set-lasts;
      }

      -- a block gets one less
      pub IsChain-less : (starts' : List ℕ) → length (items new) + 1 ≡ length (items old) →
          starts' ≡ take (k + 1) starts ++ map (λ place. place - 1) (drop (k + 1) starts) → IsChain items capacity (set blocks k new) starts' lasts' spares
      IsChain-less starts' less are = record {
        kept = list_all-set (is_kept items capacity) blocks k new kept chain.kept;
        spare = chain.spare;
        starts_are = are ∙ ap₂ (λ n ps. take n ps ++ map (λ place. place - 1) (drop n ps)) (add-one k) chain.starts_are
            ∙ sym (ap (starts_from 0) set-is ∙ starts-less 0 (map items blocks) k (items new) (subst (λ n. k < n) (sym (length-map blocks items)) within)
            (less ∙ ap length old-is));
        lasts_are = set-lasts;
      }
