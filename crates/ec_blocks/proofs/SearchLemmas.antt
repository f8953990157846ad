-- A search over blocks: first among their last members, then within one of them.
use Rattle.std.proofs.Common.{◌≡◌, ℕ, ◌+◌, ◌-◌, ◌/◌, ◌<◌, ◌≤◌, zero, suc, Bool, true, false, List, [], ◌∷◌, length, map, get_or, take, drop, Some, None, refl, sym, ap, ◌∙◌, ◌⊎◌, inl, inr, ⊎_elim, true≢false, if◌then◌else◌, add-one, length-drop, arith}
use Rattle.std.specs.List.{list_all, slice_get}
use Rattle.std.specs.List.Sorted.{IsPartitionedBy, IsPartitionPoint}
use Rattle.std.proofs.lemmas.Bool.{cases_Bool, cases_lt}
use Rattle.std.proofs.lemmas.List.{get_or-map, get_or-drop, get_or-take, length-map, length-take-le}
use Rattle.std.proofs.lemmas.List.Concat.{get_or-flat_map}
use Rattle.std.proofs.lemmas.Option.{get_or_from_slice_get}
use Rattle.ec_blocks.specs.Chain.{joined, block_at, start_of, last_of, is_block}
use Rattle.ec_blocks.proofs.StartLemmas.{start_of-suc, start_of-le, start_of-all}
use Rattle.ec_blocks.proofs.ChainLemmas.{is_block-some, list_all-at}

-- the members of a list end to pass where the one in front passes and the one there does not
pub IsPartitionPoint-from_edges : {X : Type 0} (p : X → Bool) (xs : List X) (r : ℕ) → IsPartitionedBy p xs → ((d : X) → 1 ≤ r → p (get_or xs (r - 1) d) ≡ true) →
    ((d : X) → r < length xs → p (get_or xs r d) ≡ false) → r ≤ length xs → IsPartitionPoint (λ x. p x ≡ true) (λ x. p x ≡ false) xs r
IsPartitionPoint-from_edges p xs r parted front behind within = (
  λ k d low high. parted k (r - 1) d (omega arith) (omega arith) (front d (omega arith)),
  λ k d low high. ⊎_elim (λ passes. absurd (true≢false (sym (parted r k d low high passes) ∙ behind d (omega arith)))) (λ fails. fails) (cases_Bool (p (get_or xs k d))),
)

-- What is left of a search that halves it: the member in front of what is left passes, or there is none, and the one behind fails.
pub record Halving {X : Type 0} (p : X → Bool) (xs : List X) (low size : ℕ) : Type 0 where
  pub front : (d : X) → (low ≡ 0) ⊎ (p (get_or xs low d) ≡ true)
  pub behind : (d : X) → low + size < length xs → p (get_or xs (low + size) d) ≡ false

module _ {X : Type 0} (p : X → Bool) (xs : List X) (parted : IsPartitionedBy p xs) where
  -- the one in the middle was looked at
  pub halving-step : (low size half middle chosen : ℕ) (x : X) (test : Bool) → Halving p xs low size → low + size ≤ length xs → half ≡ size / 2 → middle ≡ low + half →
      slice_get xs middle ≡ Some x → test ≡ p x → chosen ≡ (if test then middle else low) → Halving p xs chosen (size - half)
  halving-step low size half middle chosen x true halving within is at found passes same = record {
    front = λ d. inr (ap (λ n. p (get_or xs n d)) same ∙ ap p (get_or_from_slice_get xs middle x d found) ∙ sym passes);
    behind = λ d inside. ap (λ n. p (get_or xs n d)) (omega (arith, same, at, is)) ∙ halving.behind d (omega (arith, same, at, is, inside));
  }
  halving-step low size half middle chosen x false halving within is at found fails same = record {
    front = λ d. ⊎_elim (λ none. inl (omega (arith, same, none))) (λ passed. inr (ap (λ n. p (get_or xs n d)) same ∙ passed)) (halving.front d);
    behind = λ d inside. ⊎_elim
        (λ yes. absurd (true≢false (sym (parted middle (chosen + (size - half)) d (omega (arith, same, at, is)) inside yes) ∙ ap p (get_or_from_slice_get xs middle x d found) ∙ sym fails)))
        (λ no. no) (cases_Bool (p (get_or xs (chosen + (size - half)) d)));
  }

  -- and one that was not
  pub halving-cut : (low size chosen : ℕ) (x : X) (test : Bool) → Halving p xs low size → size ≡ 1 → low < length xs → slice_get xs low ≡ Some x → test ≡ p x →
      chosen ≡ (if test then low + 1 else low) → IsPartitionPoint (λ x. p x ≡ true) (λ x. p x ≡ false) xs chosen
  halving-cut low size chosen x true halving one within found passes same =
      IsPartitionPoint-from_edges p xs chosen parted
      (λ d some. ap (λ n. p (get_or xs n d)) (omega (arith, same)) ∙ ap p (get_or_from_slice_get xs low x d found) ∙ sym passes)
      (λ d inside. ap (λ n. p (get_or xs n d)) (omega (arith, same, one)) ∙ halving.behind d (omega (arith, same, one, inside))) (omega (arith, same))
  halving-cut low size chosen x false halving one within found fails same =
      IsPartitionPoint-from_edges p xs chosen parted
      (λ d some. ⊎_elim (λ none. absurd (omega (arith, same, none, some)))
      (λ passed. absurd (true≢false (sym passed ∙ ap p (get_or_from_slice_get xs low x d found) ∙ sym fails))) (halving.front d))
      (λ d inside. ap (λ n. p (get_or xs n d)) same ∙ ap p (get_or_from_slice_get xs low x d found) ∙ sym fails) (omega (arith, same))

-- the end of what passes, found among some members that have others of them on both sides of it, or else an end of the list
pub found-between : {X : Type 0} (p : X → Bool) (xs some : List X) (from to c : ℕ) → from ≤ to → to ≤ length xs → some ≡ take (to - from) (drop from xs) → IsPartitionedBy p xs →
    c ≤ length some → (IsPartitionedBy p some → IsPartitionPoint (λ x. p x ≡ true) (λ x. p x ≡ false) some c) →
    (from ≡ 0) ⊎ (from < from + c) → (to ≡ length xs) ⊎ (from + c < to) → IsPartitionPoint (λ x. p x ≡ true) (λ x. p x ≡ false) xs (from + c)
found-between p xs some from to c ordered within is parted bound cut front behind =
    IsPartitionPoint-from_edges p xs (from + c) parted front_passes behind_fails (omega (arith, some-length))
  where
    some-length : length some ≡ to - from
    some-length = ap length is ∙ length-take-le (to - from) (drop from xs) (omega (arith, length-drop from xs)) ∙ (omega arith)

    stands-in : (j : ℕ) (d : _) → j < to - from → get_or some j d ≡ get_or xs (from + j) d
    stands-in j d inside = ap (λ ys. get_or ys j d) is ∙ get_or-take (to - from) (drop from xs) j d inside ∙ get_or-drop from xs j d

    point : IsPartitionPoint (λ x. p x ≡ true) (λ x. p x ≡ false) some c
    point = cut (λ i j d le inside passes.
        ap p (stands-in i d (omega (arith, some-length)))
        ∙ parted (from + i) (from + j) d (omega arith) (omega (arith, some-length)) (ap p (sym (stands-in j d (omega (arith, some-length)))) ∙ passes))

    front_passes : (d : _) → 1 ≤ from + c → p (get_or xs (from + c - 1) d) ≡ true
    front_passes d some_in =
        let more : 1 ≤ c = ⊎_elim (λ first. omega arith) (λ less. omega arith) front in
        ap (λ n. p (get_or xs n d)) (omega arith) ∙ ap p (sym (stands-in (c - 1) d (omega (arith, some-length)))) ∙ point.0 (c - 1) d (omega arith) (omega (arith, some-length))

    behind_fails : (d : _) → from + c < length xs → p (get_or xs (from + c) d) ≡ false
    behind_fails d inside =
        let before : c < to - from = ⊎_elim (λ last. omega arith) (λ less. omega arith) behind in
        ap p (sym (stands-in c d before)) ∙ point.1 c d (omega arith) (omega (arith, some-length))

module _ {X : Type 0} (p : X → Bool) (blocks : List (List X)) (all : list_all is_block blocks ≡ true) (parted : IsPartitionedBy p (joined blocks)) where
  -- a member of a block, among all members
  stands : (k j : ℕ) (d : X) → k < length blocks → j < length (block_at k blocks) → get_or (joined blocks) (start_of k blocks + j) d ≡ get_or (block_at k blocks) j d
  stands k j d within inside = get_or-flat_map (λ b. b) blocks k j [] d within inside

  some-in : (k : ℕ) → k < length blocks → 1 ≤ length (block_at k blocks)
  some-in k within = is_block-some (block_at k blocks) (list_all-at is_block blocks k (block_at k blocks) all within (get_or_same blocks k))
    where
      get_or_same : (bs : List (List X)) (i : ℕ) → get_or bs i [] ≡ get_or bs i (get_or bs i [])
      get_or_same [] i = refl
      get_or_same (b ∷ bs) zero = refl
      get_or_same (b ∷ bs) (suc i) = get_or_same bs i

  end-le : (k : ℕ) → k < length blocks → start_of k blocks + length (block_at k blocks) ≤ length (joined blocks)
  end-le k within = omega (arith, start_of-suc blocks k within, start_of-le blocks (suc k) (length blocks) (omega arith), start_of-all blocks)

  -- the test cuts each block
  pub block-parted : (k : ℕ) → k < length blocks → IsPartitionedBy p (block_at k blocks)
  block-parted k within i j d le inside passes =
      ap p (sym (stands k i d within (omega arith)))
      ∙ parted (start_of k blocks + i) (start_of k blocks + j) d (omega arith) (omega (arith, end-le k within)) (ap p (stands k j d within inside) ∙ passes)

  -- the end of what passes, found within a block that has members on both sides of it, or else an end of the list
  pub found-enclosed : (k c : ℕ) → k < length blocks → (k ≡ 0) ⊎ (1 ≤ c) → (k + 1 ≡ length blocks) ⊎ (c < length (block_at k blocks)) →
      c ≤ length (block_at k blocks) → IsPartitionPoint (λ x. p x ≡ true) (λ x. p x ≡ false) (block_at k blocks) c →
      IsPartitionPoint (λ x. p x ≡ true) (λ x. p x ≡ false) (joined blocks) (start_of k blocks + c)
  found-enclosed k c within front behind upto point =
      IsPartitionPoint-from_edges p (joined blocks) (start_of k blocks + c) parted front_passes behind_fails (omega (arith, end-le k within))
    where
      at_first : k ≡ 0 → 1 ≤ start_of k blocks + c → 1 ≤ c
      at_first first some = omega (arith, ap (λ n. start_of n blocks) first)

      at_last : k + 1 ≡ length blocks → start_of k blocks + c < length (joined blocks) → c < length (block_at k blocks)
      at_last last inside =
          omega (arith, start_of-suc blocks k within, ap (λ n. start_of n blocks) (sym (add-one k) ∙ last), start_of-all blocks)

      front_passes : (d : X) → 1 ≤ start_of k blocks + c → p (get_or (joined blocks) (start_of k blocks + c - 1) d) ≡ true
      front_passes d some =
          let more : 1 ≤ c = ⊎_elim (λ first. at_first first some) (λ more. more) front in
          ap (λ n. p (get_or (joined blocks) n d)) (omega arith) ∙ ap p (stands k (c - 1) d within (omega arith)) ∙ point.0 (c - 1) d (omega arith) (omega arith)

      behind_fails : (d : X) → start_of k blocks + c < length (joined blocks) → p (get_or (joined blocks) (start_of k blocks + c) d) ≡ false
      behind_fails d inside =
          let before : c < length (block_at k blocks) = ⊎_elim (λ last. at_last last inside) (λ more. more) behind in
          ap p (stands k c d within before) ∙ point.1 c d (omega arith) before

  module _ (lasts : List X) (are : map Some lasts ≡ map last_of blocks) where
    lasts-length : length lasts ≡ length blocks
    lasts-length = sym (length-map lasts Some) ∙ ap length are ∙ length-map blocks last_of

    -- the last member of a block
    last-is : (k : ℕ) (d : X) → k < length blocks → get_or (block_at k blocks) (length (block_at k blocks) - 1) d ≡ get_or lasts k d
    last-is k d within =
        get_or_from_slice_get (block_at k blocks) (length (block_at k blocks) - 1) (get_or lasts k d) d
        (sym (get_or-map last_of blocks k [] None within) ∙ ap (λ os. get_or os k None) (sym are) ∙ get_or-map Some lasts k d None (omega (arith, lasts-length)))

    -- and where it stands
    last-stands : (k : ℕ) (d : X) → k < length blocks → get_or (joined blocks) (start_of (suc k) blocks - 1) d ≡ get_or lasts k d
    last-stands k d within =
        ap (λ n. get_or (joined blocks) n d) (omega (arith, start_of-suc blocks k within, some-in k within))
        ∙ stands k (length (block_at k blocks) - 1) d within (omega (arith, some-in k within)) ∙ last-is k d within

    -- the test cuts the last members
    pub lasts-parted : IsPartitionedBy p lasts
    lasts-parted i j d le inside passes =
        let at : j < length blocks = omega (arith, lasts-length) in
        ap p (sym (last-stands i d (omega arith)))
        ∙ parted (start_of (suc i) blocks - 1) (start_of (suc j) blocks - 1) d (omega (arith, start_of-le blocks (suc i) (suc j) (omega arith)))
        (omega (arith, end-le j at, start_of-suc blocks j at, some-in j at)) (ap p (last-stands j d at) ∙ passes)

    -- the end of what passes, found within a block
    pub found-within : (k c : ℕ) → k < length blocks → ((m : ℕ) (d : X) → k ≡ suc m → p (get_or lasts m d) ≡ true) → ((d : X) → p (get_or lasts k d) ≡ false) →
        c ≤ length (block_at k blocks) → IsPartitionPoint (λ x. p x ≡ true) (λ x. p x ≡ false) (block_at k blocks) c →
        IsPartitionPoint (λ x. p x ≡ true) (λ x. p x ≡ false) (joined blocks) (start_of k blocks + c)
    found-within k c within front here upto point =
        IsPartitionPoint-from_edges p (joined blocks) (start_of k blocks + c) parted front_passes behind_fails (omega (arith, end-le k within))
      where
        front_passes : (d : X) → 1 ≤ start_of k blocks + c → p (get_or (joined blocks) (start_of k blocks + c - 1) d) ≡ true
        front_passes d some = in_front d k c refl refl some
          where
            in_front : (d : X) (k' c' : ℕ) → k ≡ k' → c ≡ c' → 1 ≤ start_of k' blocks + c' → p (get_or (joined blocks) (start_of k blocks + c - 1) d) ≡ true
            in_front d k' (suc c') same count some =
                ap (λ n. p (get_or (joined blocks) n d)) (omega arith) ∙ ap p (stands k c' d within (omega arith)) ∙ point.0 c' d (omega arith) (omega arith)
            in_front d (suc m) zero same count some =
                ap (λ n. p (get_or (joined blocks) n d)) (omega (arith, ap (λ n. start_of n blocks) same)) ∙ ap p (last-stands m d (omega arith)) ∙ front m d same
            in_front d zero zero same count some = absurd (omega arith)

        behind_fails : (d : X) → start_of k blocks + c < length (joined blocks) → p (get_or (joined blocks) (start_of k blocks + c) d) ≡ false
        behind_fails d inside =
            ⊎_elim (λ before. ap p (stands k c d within before) ∙ point.1 c d (omega arith) before)
            (λ all_pass. absurd (true≢false (sym (point.0 (length (block_at k blocks) - 1) d (omega arith) (omega (arith, some-in k within))) ∙ ap p (last-is k d within) ∙ here d)))
            (cases_lt c (length (block_at k blocks)))

    -- and where all pass
    pub found-behind : (k : ℕ) → k ≡ length blocks → ((m : ℕ) (d : X) → k ≡ suc m → p (get_or lasts m d) ≡ true) →
        IsPartitionPoint (λ x. p x ≡ true) (λ x. p x ≡ false) (joined blocks) (length (joined blocks))
    found-behind zero end front =
        IsPartitionPoint-from_edges p (joined blocks) (length (joined blocks)) parted (λ d some. absurd (omega (arith, start_of-all blocks, ap (λ n. start_of n blocks) end)))
        (λ d inside. absurd (omega arith)) (omega arith)
    found-behind (suc m) end front =
        IsPartitionPoint-from_edges p (joined blocks) (length (joined blocks)) parted
        (λ d some. ap (λ n. p (get_or (joined blocks) n d)) (omega (arith, start_of-all blocks, ap (λ n. start_of n blocks) end)) ∙ ap p (last-stands m d (omega arith)) ∙ front m d refl)
        (λ d inside. absurd (omega arith)) (omega arith)
