-- A chain of blocks after an edit of one of them, as the code makes it.
use Rattle.std.proofs.Common.{◌≡◌, ℕ, ◌+◌, ◌-◌, ◌^◌, ◌<◌, ◌≤◌, suc, true, List, [], ◌∷◌, ◌++◌, length, map, get_or, take, drop, set, Some, None, sym, ap, ap₂, ◌∙◌, add-one, zero-add, length-drop, length-set, arith}
use Rattle.std.specs.List.{slice_get, insert, remove, list_all}
use Rattle.std.proofs.lemmas.List.{map-set, map_push, length-take-le, get_or-map, nil_from_length}
use Rattle.std.proofs.lemmas.Bool.Decides.{nat_tests}
use Rattle.std.proofs.lemmas.Option.{get_or_from_slice_get}
use Rattle.ec_blocks.specs.Chain.{joined, block_at, last_of, starts_from, is_block}
use Rattle.ec_blocks.specs.ChainParts.{IsChain, HasRooms, is_kept, is_spare}
use Rattle.ec_blocks.proofs.StartLemmas.{starts-append, starts-gone, starts-split, lasts-split}
use Rattle.ec_blocks.proofs.ChainLemmas.{place-within, block-is, start-is, last_of-drop, some-at, list_all-at, list_all-push, list_all-set, list_all-insert, map-insert, map-remove, is_kept-from, is_kept-block, is_kept-room, is_block-some, is_block-most, IsChain-same, IsChain-more, IsChain-less}
use Rattle.ec_lists.proofs.Tests.{list_all-remove}

-- a block without members that has room is a spare one
pub is_spare-now : {X B : Type 0} (items : B → List X) (capacity : B → ℕ) (b : B) → items b ≡ [] → 128 ≤ capacity b → is_spare items capacity b ≡ true
is_spare-now items capacity b empty room = rw empty (grind (arith, nat_tests))

-- and so is the one that held one member, once that is taken out
pub is_spare-emptied : {X B : Type 0} (items : B → List X) (capacity : B → ℕ) (old new : B) (before after : ℕ) → after + 1 ≡ before → before ≡ length (items old) → after ≡ length (items new) →
    length (items old) ≡ 1 → 128 ≤ capacity old → capacity old ≤ capacity new → is_spare items capacity new ≡ true
is_spare-emptied items capacity old new before after less held left one room kept =
    is_spare-now items capacity new (nil_from_length (items new) (omega arith)) (omega arith)

-- a place behind a block that is edited
pub behind-within : {B : Type 0} (blocks : List B) (k : ℕ) (new : B) → k < length blocks → k + 1 ≤ length (set blocks k new)
behind-within blocks k new within = omega (arith, length-set blocks k new)

-- there is room as before, where a block is edited
pub rooms-set : {B : Type 0} (blocks : List B) (k : ℕ) (new : B) (spares blocks_room starts_room lasts_room spares_room starts_room' lasts_room' : ℕ) →
    HasRooms (length blocks) spares blocks_room starts_room lasts_room spares_room → starts_room' ≡ starts_room → lasts_room' ≡ lasts_room →
    HasRooms (length (set blocks k new)) spares blocks_room starts_room' lasts_room' spares_room
rooms-set blocks k new spares blocks_room starts_room lasts_room spares_room starts_room' lasts_room' rooms starts lasts =
    rw (length-set blocks k new, starts, lasts) rooms

-- where a spare block comes into use
pub rooms-more : (blocks spares blocks_room starts_room lasts_room spares_room blocks' spares' blocks_room' starts_room' lasts_room' spares_room' : ℕ) →
    HasRooms blocks spares blocks_room starts_room lasts_room spares_room → blocks' ≡ blocks + 1 → spares' + 1 ≡ spares →
    blocks_room ≤ blocks_room' → starts_room ≤ starts_room' → lasts_room ≤ lasts_room' → spares_room' ≡ spares_room →
    HasRooms blocks' spares' blocks_room' starts_room' lasts_room' spares_room'
rooms-more blocks spares blocks_room starts_room lasts_room spares_room blocks' spares' blocks_room' starts_room' lasts_room' spares_room' rooms more less b s l r = record {
  few = omega arith;
  blocks_fit = omega arith;
  starts_fit = omega arith;
  lasts_fit = omega arith;
  spares_fit = omega arith;
}

-- and where a block becomes a spare one
pub rooms-less : (blocks spares blocks_room starts_room lasts_room spares_room blocks' spares' blocks_room' starts_room' lasts_room' spares_room' : ℕ) →
    HasRooms blocks spares blocks_room starts_room lasts_room spares_room → blocks' + 1 ≡ blocks → spares' ≡ spares + 1 →
    blocks_room' ≡ blocks_room → starts_room' ≡ starts_room → lasts_room' ≡ lasts_room → spares_room' ≡ spares_room →
    HasRooms blocks' spares' blocks_room' starts_room' lasts_room' spares_room'
rooms-less blocks spares blocks_room starts_room lasts_room spares_room blocks' spares' blocks_room' starts_room' lasts_room' spares_room' rooms less more b s l r = record {
  few = omega arith;
  blocks_fit = omega arith;
  starts_fit = omega arith;
  lasts_fit = omega arith;
  spares_fit = omega arith;
}

-- and where a spare block is held
pub rooms-spared : (blocks count spares held starts lasts blocks' spares' blocks_room starts_room lasts_room spares_room : ℕ) → count ≡ blocks → held ≡ spares → starts ≡ blocks → lasts ≡ blocks →
    blocks' ≡ blocks → count + held < 2 ^ 56 → spares' ≤ spares + 1 → blocks + (held + 1) ≤ blocks_room → starts + (held + 1) ≤ starts_room → lasts + (held + 1) ≤ lasts_room →
    spares' + count ≤ spares_room → HasRooms blocks' spares' blocks_room starts_room lasts_room spares_room
rooms-spared blocks count spares held starts lasts blocks' spares' blocks_room starts_room lasts_room spares_room c m s l same few most b t u r = record {
  few = omega arith;
  blocks_fit = omega arith;
  starts_fit = omega arith;
  lasts_fit = omega arith;
  spares_fit = omega arith;
}

module _ {X B : Type 0} (items : B → List X) (capacity : B → ℕ) (blocks : List B) (starts : List ℕ) (lasts : List X) (spares : List B)
    (chain : IsChain items capacity blocks starts lasts spares) (lists : List (List X)) (are : map items blocks ≡ lists) where
  module _ (k : ℕ) (block : k < length lists) (old : B) (found : slice_get blocks k ≡ Some old) where
    is : old ≡ get_or blocks k old
    is = sym (get_or_from_slice_get blocks k old old found)

    within : k < length blocks
    within = place-within items capacity blocks lists k are block

    old-kept : is_kept items capacity old ≡ true
    old-kept = list_all-at (is_kept items capacity) blocks k old chain.kept within is

    pub old-block : is_block (items old) ≡ true
    old-block = is_kept-block items capacity old old-kept

    pub old-some : 1 ≤ length (items old)
    old-some = is_block-some (items old) old-block

    pub old-most : length (items old) ≤ 128
    old-most = is_block-most (items old) old-block

    pub old-room : 128 ≤ capacity old
    old-room = is_kept-room items capacity old old-kept

    pub old-list : items old ≡ block_at k lists
    old-list = block-is items capacity blocks lists k old are block is

    -- its last member is the one that is kept
    pub old-last : slice_get lasts k ≡ last_of (items old)
    old-last =
        sym (some-at lasts k) ∙ ap (λ os. get_or os k None) (chain.lasts_are ∙ ap (map last_of) are) ∙ get_or-map last_of lists k [] None block
        ∙ ap last_of (sym old-list)

    -- the members of all blocks, where those of one are edited
    pub edited : (f : List X → List X) (new : B) → items new ≡ f (items old) → map items (set blocks k new) ≡ set lists k (f (block_at k lists))
    edited f new made = map-set items blocks k new ∙ ap₂ (λ bs b. set bs k b) are (made ∙ ap f old-list)

    module _ (new : B) (members : List X) (members_are : members ≡ items new)
        (lasts' : List X) (last : map Some lasts' ≡ set (map Some lasts) k (last_of members)) (room : capacity old ≤ capacity new) where
      last-new : map Some lasts' ≡ set (map Some lasts) k (last_of (items new))
      last-new = last ∙ ap (λ ms. set (map Some lasts) k (last_of ms)) members_are

      -- it keeps its length
      pub edited-same : length (items new) ≡ length (items old) → IsChain items capacity (set blocks k new) starts lasts' spares
      edited-same same =
          let some = old-some in let most = old-most in let wide = old-room in
          IsChain-same items capacity blocks starts lasts spares chain k old new within is (is_kept-from items capacity new (omega arith) (omega arith) (omega arith)) lasts' last-new same

      -- it gets one more
      pub edited-more : (starts' : List ℕ) → length (items new) ≡ length (items old) + 1 → length (items old) < 128 →
          starts' ≡ take (k + 1) starts ++ map (λ place. place + 1) (drop (k + 1) starts) → IsChain items capacity (set blocks k new) starts' lasts' spares
      edited-more starts' more free raised =
          let wide = old-room in
          IsChain-more items capacity blocks starts lasts spares chain k old new within is (is_kept-from items capacity new (omega arith) (omega arith) (omega arith)) lasts' last-new starts' more raised

      -- it gets one less
      pub edited-less : (starts' : List ℕ) → length (items new) + 1 ≡ length (items old) → 2 ≤ length (items old) →
          starts' ≡ take (k + 1) starts ++ map (λ place. place - 1) (drop (k + 1) starts) → IsChain items capacity (set blocks k new) starts' lasts' spares
      edited-less starts' less some lowered =
          let most = old-most in let wide = old-room in
          IsChain-less items capacity blocks starts lasts spares chain k old new within is (is_kept-from items capacity new (omega arith) (omega arith) (omega arith)) lasts' last-new starts' less lowered

  -- the same blocks, beside other spare ones
  pub spared : (blocks' : List B) (starts' : List ℕ) (lasts' : List X) (spares' : List B) → blocks' ≡ blocks → starts' ≡ starts → lasts' ≡ lasts →
      list_all (is_spare items capacity) spares' ≡ true → IsChain items capacity blocks' starts' lasts' spares'
  spared blocks' starts' lasts' spares' bs ss ls empty = record {
    kept = ap (list_all (is_kept items capacity)) bs ∙ chain.kept;
    spare = empty;
    starts_are = ss ∙ chain.starts_are ∙ ap (λ zs. starts_from 0 (map items zs)) (sym bs);
    lasts_are = ap (map Some) ls ∙ chain.lasts_are ∙ ap (λ zs. map last_of (map items zs)) (sym bs);
  }

  -- a block more at the end
  pub appended : (blocks' : List B) (starts' : List ℕ) (lasts' : List X) (spares' : List B) (new : B) (start : ℕ) (x : X) (members : List X) →
      blocks' ≡ blocks ++ new ∷ [] → starts' ≡ starts ++ start ∷ [] → lasts' ≡ lasts ++ x ∷ [] → items new ≡ members → is_block members ≡ true → 128 ≤ capacity new →
      start ≡ length (joined lists) → Some x ≡ last_of members → list_all (is_spare items capacity) spares' ≡ true → IsChain items capacity blocks' starts' lasts' spares'
  appended blocks' starts' lasts' spares' new start x members bs ss ls made block room begins last empty =
      let there : map items blocks' ≡ lists ++ members ∷ [] =
      ap (map items) bs ∙ map_push items blocks new ∙ ap₂ (λ us m. us ++ m ∷ []) are made in
      record {
        kept = ap (list_all (is_kept items capacity)) bs
            ∙ list_all-push (is_kept items capacity) blocks new
            (is_kept-from items capacity new (rw made (is_block-some members block)) (rw made (is_block-most members block)) room) chain.kept;
        spare = empty;
        starts_are = ss ∙ ap₂ (λ ps p. ps ++ p ∷ []) (chain.starts_are ∙ ap (starts_from 0) are) (begins ∙ sym (zero-add (length (joined lists))))
            ∙ sym (ap (starts_from 0) there ∙ starts-append 0 lists members);
        lasts_are = ap (map Some) ls ∙ map_push Some lasts x ∙ ap₂ (λ os o. os ++ o ∷ []) (chain.lasts_are ∙ ap (map last_of) are) last
            ∙ sym (ap (map last_of) there ∙ map_push last_of lists members);
      }

  -- a block of one member goes, and is a spare one
  pub gone : (k : ℕ) → k < length lists → length (block_at k lists) ≡ 1 → (blocks' : List B) (lowered starts' : List ℕ) (lasts' : List X) (spares' : List B) (spare : B) →
      blocks' ≡ remove blocks k → lowered ≡ take (k + 1) starts ++ map (λ place. place - 1) (drop (k + 1) starts) → starts' ≡ remove lowered k → lasts' ≡ remove lasts k →
      spares' ≡ spares ++ spare ∷ [] → is_spare items capacity spare ≡ true → IsChain items capacity blocks' starts' lasts' spares'
  gone k within one blocks' lowered starts' lasts' spares' spare bs low ss ls more empty =
      let there : map items blocks' ≡ remove lists k = ap (map items) bs ∙ map-remove items blocks k ∙ ap (λ us. remove us k) are in
      record {
        kept = ap (list_all (is_kept items capacity)) bs ∙ list_all-remove (is_kept items capacity) blocks k chain.kept;
        spare = ap (list_all (is_spare items capacity)) more ∙ list_all-push (is_spare items capacity) spares spare empty chain.spare;
        starts_are = ss ∙ ap (λ ps. remove ps k) (low ∙ ap₂ (λ n ps. take n ps ++ map (λ place. place - 1) (drop n ps)) (add-one k) (chain.starts_are ∙ ap (starts_from 0) are))
            ∙ sym (ap (starts_from 0) there ∙ starts-gone 0 lists k within one);
        lasts_are = ap (map Some) ls ∙ map-remove Some lasts k ∙ ap (λ os. remove os k) (chain.lasts_are ∙ ap (map last_of) are)
            ∙ sym (ap (map last_of) there ∙ map-remove last_of lists k);
      }

  -- a full block becomes two
  pub halved : (k : ℕ) (block : k < length lists) (old : B) (found : slice_get blocks k ≡ Some old) (front behind : B) (members : List X) (start : ℕ)
      (blocks' : List B) (starts' : List ℕ) (lasts' : List X) (spares' : List B) → length (block_at k lists) ≡ 128 →
      items front ≡ take 64 (items old) → items behind ≡ drop 64 (items old) → capacity front ≡ capacity old → 128 ≤ capacity behind →
      members ≡ items front → start ≡ get_or starts k 0 →
      blocks' ≡ insert (set blocks k front) (k + 1) behind → starts' ≡ insert starts (k + 1) (start + 64) →
      map Some lasts' ≡ insert (map Some lasts) k (last_of members) → list_all (is_spare items capacity) spares' ≡ true → IsChain items capacity blocks' starts' lasts' spares'
  halved k block old found front behind members start blocks' starts' lasts' spares' full is_front is_behind same room members_are begins bs ss ls empty =
      let b : List X = block_at k lists in
      let list : items old ≡ b = old-list k block old found in
      let u : items front ≡ take 64 b = is_front ∙ ap (take 64) list in
      let v : items behind ≡ drop 64 b = is_behind ∙ ap (drop 64) list in
      let u_length : length (items front) ≡ 64 = ap length u ∙ length-take-le 64 b (omega arith) in
      let v_length : length (items behind) ≡ 64 = ap length v ∙ length-drop 64 b ∙ (omega arith) in
      let wide : 128 ≤ capacity old = old-room k block old found in
      let there : map items blocks' ≡ insert (set lists k (items front)) (suc k) (items behind) =
      ap (map items) bs ∙ map-insert items (set blocks k front) (k + 1) behind
      ∙ ap₂ (λ us n. insert us n (items behind)) (map-set items blocks k front ∙ ap (λ us. set us k (items front)) are) (add-one k) in
      let member : last_of members ≡ last_of (items front) = ap last_of members_are in
      let last : last_of (items behind) ≡ last_of b = ap last_of v ∙ last_of-drop 64 b (omega arith) in
      record {
        kept = ap (list_all (is_kept items capacity)) bs
            ∙ list_all-insert (is_kept items capacity) (set blocks k front) (k + 1) behind (is_kept-from items capacity behind (omega arith) (omega arith) room)
            (list_all-set (is_kept items capacity) blocks k front (is_kept-from items capacity front (omega arith) (omega arith) (omega arith)) chain.kept);
        spare = empty;
        starts_are = ss ∙ ap₂ (λ ps n. insert ps n (start + 64)) (chain.starts_are ∙ ap (starts_from 0) are) (add-one k)
            ∙ ap (λ p. insert (starts_from 0 lists) (suc k) p) (omega (arith, start-is items capacity blocks starts lasts spares chain lists k start are block begins))
            ∙ sym (ap (starts_from 0) there ∙ starts-split 0 lists k (items front) (items behind) block (omega arith));
        lasts_are = ls ∙ ap₂ (λ os o. insert os k o) (chain.lasts_are ∙ ap (map last_of) are) member
            ∙ sym (ap (map last_of) there ∙ lasts-split lists k (items front) (items behind) block last);
      }
