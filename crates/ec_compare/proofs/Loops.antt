-- What of a stretch, of the pairs and of a text is left behind a place.
use Rattle.std.proofs.Common.{◌≡◌, ℕ, ◌+◌, ◌-◌, ◌<◌, ◌≤◌, suc, Bool, List, [], ◌∷◌, ◌++◌, map, filter, take, drop, length, Some, Result, Ok, Err, OnOk, refl, ap, ap₂, subst, ◌∙◌, append-nil, append_assoc, arith}
use Rattle.std.specs.Prelude.{slice_get, codes}
use Rattle.std.proofs.lemmas.Grind.{flat_map-append}
use Rattle.std.proofs.lemmas.List.{length-append, length-map, drop_all}
use Rattle.ec_lists.proofs.Fronts.{drop-slice_get}
use Rattle.ec_axioms.specs.Timeline.{Interval}
use Rattle.ec_commands.specs.QueryTexts.{Canon, interval_text, pair_text}
use Rattle.ec_commands.specs.Relations.{stands_in}
use Rattle.ec_commands.specs.declared.relation.Relation.{Relation}
use Rattle.ec_query.specs.Members.{members_text}
use Rattle.ec_query.proofs.WritingLemmas.{IsLeft, members_text-append}
use Rattle.ec_compare.specs.Stretches.{stretch, pairs_between, fronted_text}
use Rattle.ec_compare.proofs.Walks.{filter-left}

-- ---- stretches

-- the member at a place, and those behind it
pub stretch-next : {X : Type 0} (xs : List X) (from to : ℕ) (x : X) → slice_get xs from ≡ Some x → from < to → stretch from to xs ≡ x ∷ stretch (from + 1) to xs
stretch-next xs from to x read within =
    let count : to - from ≡ suc (to - (from + 1)) = omega (arith, within) in
    let next : suc from ≡ from + 1 = omega arith in
    ap₂ take count (drop-slice_get xs from x read) ∙ ap (λ k. x ∷ take (to - (from + 1)) (drop k xs)) next

-- behind the last place nothing is left
pub stretch-end : {X : Type 0} (xs : List X) (from to : ℕ) → to ≤ from → stretch from to xs ≡ []
stretch-end xs from to end = let none : to - from ≡ 0 = omega (arith, end) in ap (λ k. take k (drop from xs)) none

-- ---- texts

module _ (front : List ℕ) (canon : Canon) (xs : List Interval) (k : ℕ) (x : Interval) (read : slice_get xs k ≡ Some x) where
  -- of a stretch the member at its place is written, and those behind it
  pub fronted-stretch : (to : ℕ) → k < to → fronted_text front canon (stretch k to xs) ≡ (front ++ 32 ∷ interval_text canon x) ++ fronted_text front canon (stretch (k + 1) to xs)
  fronted-stretch to within = ap (fronted_text front canon) (stretch-next xs k to x read within)

  -- of what is left the member at the place is written, if it passes, and those behind it
  pub fronted-left : (p : Interval → Bool) → fronted_text front canon (filter p (drop k xs)) ≡ fronted_text front canon (filter p (x ∷ [])) ++ fronted_text front canon (filter p (drop (k + 1) xs))
  fronted-left p =
      ap (fronted_text front canon) (filter-left p xs k x read)
      ∙ flat_map-append (λ (i : Interval). front ++ 32 ∷ interval_text canon i) (filter p (x ∷ [])) (filter p (drop (k + 1) xs))

-- one interval is written behind its front
pub fronted-one : (front : List ℕ) (canon : Canon) (i : Interval) → fronted_text front canon (i ∷ []) ≡ front ++ (32 ∷ interval_text canon i)
fronted-one front canon i = append-nil (front ++ 32 ∷ interval_text canon i)

-- without a front the text is that of members
pub fronted-alone : (canon : Canon) (xs : List Interval) → fronted_text [] canon xs ≡ members_text (interval_text canon) xs
fronted-alone canon [] = refl
fronted-alone canon (i ∷ xs) = ap (λ all. (32 ∷ interval_text canon i) ++ all) (fronted-alone canon xs)

-- what is left of a text is left of it by its other name
pub IsLeft-named : {S : Type 0} {stands : S → List ℕ → Type 0} {faults : S → ℕ} {before now : S} {whole other rest : List ℕ} → whole ≡ other → IsLeft stands faults before now whole rest
    → IsLeft stands faults before now other rest
IsLeft-named {stands = stands} {faults = faults} {before = before} {now = now} {rest = rest} same left = subst (λ (all : List ℕ). IsLeft stands faults before now all rest) same left

-- what holds anyway
pub OnOk-anyway : {X E P : Type 0} (r : Result X E) → P → OnOk r P
OnOk-anyway (Ok x) holds = holds
OnOk-anyway (Err e) holds = tt

-- ---- pairs

module _ (canon : Canon) (i : Interval) where
  -- pairs with one first interval are written with that as the front
  fronted-pairs : (xs : List Interval) → members_text (pair_text canon) (map (λ j. (i, j)) xs) ≡ fronted_text (32 ∷ interval_text canon i) canon xs
  fronted-pairs [] = refl
  fronted-pairs (j ∷ xs) =
      joined (interval_text canon i) (interval_text canon j) (members_text (pair_text canon) (map (λ k. (i, k)) xs))
      ∙ ap (λ all. ((32 ∷ interval_text canon i) ++ 32 ∷ interval_text canon j) ++ all) (fronted-pairs xs)
    where
      spaced : (text : List ℕ) → codes " " ++ text ≡ 32 ∷ text
      spaced text = refl

      joined : (first second rest : List ℕ) → (32 ∷ ((first ++ codes " ") ++ second)) ++ rest ≡ ((32 ∷ first) ++ 32 ∷ second) ++ rest
      joined first second rest = ap (λ text. (32 ∷ text) ++ rest) (append_assoc first (codes " ") second ∙ ap (λ text. first ++ text) (spaced second))

module _ (r : Relation) (lefts rights : List Interval) (place : ℕ) (i : Interval) (read : slice_get lefts place ≡ Some i) where
  -- the pairs of the interval at a place, and those of the intervals behind it
  pairs-next : pairs_between r (drop place lefts) rights ≡ map (λ j. (i, j)) (filter (stands_in r i) rights) ++ pairs_between r (drop (place + 1) lefts) rights
  pairs-next =
      let next : suc place ≡ place + 1 = omega arith in
      ap (λ is. pairs_between r is rights) (drop-slice_get lefts place i read)
      ∙ ap (λ k. map (λ j. (i, j)) (filter (stands_in r i) rights) ++ pairs_between r (drop k lefts) rights) next

  pub length-pairs_next : length (pairs_between r (drop place lefts) rights) ≡ length (filter (stands_in r i) rights) + length (pairs_between r (drop (place + 1) lefts) rights)
  length-pairs_next =
      ap length pairs-next
      ∙ length-append (map (λ j. (i, j)) (filter (stands_in r i) rights)) (pairs_between r (drop (place + 1) lefts) rights)
      ∙ ap (λ n. n + length (pairs_between r (drop (place + 1) lefts) rights)) (length-map (filter (stands_in r i) rights) (λ j. (i, j)))

  pub text-pairs_next : (canon : Canon) → members_text (pair_text canon) (pairs_between r (drop place lefts) rights)
      ≡ fronted_text (32 ∷ interval_text canon i) canon (filter (stands_in r i) rights) ++ members_text (pair_text canon) (pairs_between r (drop (place + 1) lefts) rights)
  text-pairs_next canon =
      ap (members_text (pair_text canon)) pairs-next
      ∙ members_text-append (pair_text canon) (map (λ j. (i, j)) (filter (stands_in r i) rights)) (pairs_between r (drop (place + 1) lefts) rights)
      ∙ ap (λ text. text ++ members_text (pair_text canon) (pairs_between r (drop (place + 1) lefts) rights)) (fronted-pairs canon i (filter (stands_in r i) rights))

-- behind the last interval no pair is left
pub pairs-end : (r : Relation) (lefts rights : List Interval) (place : ℕ) → length lefts ≤ place → pairs_between r (drop place lefts) rights ≡ []
pairs-end r lefts rights place end = ap (λ is. pairs_between r is rights) (drop_all place lefts end)

-- nothing stands in a relation to nothing
pub pairs-none : (r : Relation) (lefts : List Interval) → pairs_between r lefts [] ≡ []
pairs-none r [] = refl
pairs-none r (i ∷ lefts) = pairs-none r lefts
