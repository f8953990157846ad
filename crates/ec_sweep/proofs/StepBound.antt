-- The steps of a sweep that is through.
use Rattle.std.proofs.Common.{zero, suc, ◌≡◌, ◌≤◌, ◌+◌, ◌*◌, ℕ, ℤ, List, [], ◌∷◌, length, take, arith}
use Rattle.std.specs.Prelude.{flat_map, int_le}
use Rattle.std.proofs.lemmas.List.{length-append}
use Rattle.ec_lists.proofs.Filters.{length-filter_le}
use Rattle.ec_revise.specs.declared.change.Change.{Change}
use Rattle.ec_revise.specs.declared.change.Removal.{Removal}
use Rattle.ec_sweep.specs.declared.progress.Progress.{Progress}
use Rattle.ec_sweep.specs.State.{IsProgress}

-- the first of some lists have no more members than all of them
pub length-flat_map_take : {X : Type 0} (n : ℕ) (lists : List (List X)) → length (flat_map (λ xs. xs) (take n lists)) ≤ length (flat_map (λ xs. xs) lists)
length-flat_map_take zero lists = omega arith
length-flat_map_take (suc n) [] = omega arith
length-flat_map_take (suc n) (xs ∷ lists) =
    let rest = length-flat_map_take n lists in
    let first = length-append xs (flat_map (λ ys. ys) (take n lists)) in
    let whole = length-append xs (flat_map (λ ys. ys) lists) in
    omega (arith, rest, first, whole)

-- no more removals are passed than there are
pub removed-few : {T : Type 0} (rank : T → ℤ) (change : Change T) (r : ℤ) (progress : Progress) → IsProgress rank change r progress → progress.removed ≤ length change.remove
removed-few rank change r progress is =
    let few = length-filter_le (λ (removal : Removal _). int_le (rank removal.at) r) change.remove in
    let is_so = is.removed_by in
    omega (arith, few, is_so)

-- ---- sums of steps

-- what is within a sum is so however it is put together
pub steps-apart : (start seen entries removed : ℕ) {last : ℕ} → last ≤ start + (seen + entries + removed) → last ≤ start + seen + entries + removed
steps-apart start seen entries removed most = omega arith

-- a sweep that visits another instant
pub steps-visited : (mid before start after : ℕ) {last : ℕ} → last + before ≤ mid + after → mid ≤ start + before → last ≤ start + after
steps-visited mid before start after more taken = omega arith

-- one that is through
pub steps-through : (start : ℕ) {last taken most : ℕ} → taken ≤ most → last ≤ start + taken → last ≤ start + most
steps-through start few taken = omega arith

-- a look at hits alone
pub steps-hits : (start hits removed added : ℕ) {last : ℕ} → last ≤ start + hits → last ≤ start + hits + removed + added
steps-hits start hits removed added looked = omega arith

-- at removed events too
pub steps-removed : (start hits removed added : ℕ) {mid last : ℕ} → mid ≤ start + hits → last ≤ mid + removed → last ≤ start + hits + removed + added
steps-removed start hits removed added looked gone = omega arith

-- and at added events
pub steps-added : (start hits removed added : ℕ) {mid late last : ℕ} → mid ≤ start + hits → late ≤ mid + removed → last ≤ late + added → last ≤ start + hits + removed + added
steps-added start hits removed added looked gone come = omega arith

-- a look that met so many removed events, and so many entries of added ones
pub steps-looked : (start last seen seen_then removed shown gone come : ℕ) {removed_then shown_then : ℕ} → last + 2 * seen ≡ start + 2 * seen_then + gone + come → removed + gone ≡ removed_then
    → shown_then ≡ shown + come → last + (2 * seen + removed + shown) ≤ start + (2 * seen_then + removed_then + shown_then)
steps-looked start last seen seen_then removed shown gone come told met more = omega arith

-- one list more, of all those that are left
pub steps-listed : (start whole mid item left : ℕ) {last shown rest : ℕ} → start + whole ≡ mid + rest → rest ≡ item + left → last ≡ mid + shown → shown ≡ item → start + whole ≡ last + left
steps-listed start whole mid item left before next more same = omega arith

pub steps-listed_most : (start whole mid item left : ℕ) {last shown rest : ℕ} → start + whole ≡ mid + rest → rest ≡ item + left → last ≤ mid + shown → shown ≡ item → last ≤ start + whole
steps-listed_most start whole mid item left before next more same = omega arith
