-- The latest updates that there is room for.
use Rattle.std.proofs.Common.{◌≡◌, ◌≤◌, ◌<◌, ◌+◌, ◌-◌, ℕ, Bool, true, false, cond, List, [], ◌∷◌, ◌++◌, length, map, suc, refl, ap, ap₂, ◌∙◌, leb, eqb, arith}
use Rattle.std.proofs.lemmas.Bool.{cond-true, cond-false, le-leb, lt-leb, leb-true, ne_eqb}
use Rattle.std.proofs.lemmas.List.{length-map}
use Rattle.ec_axioms.specs.Calculus.{PlainEvent}
use Rattle.ec_replies.specs.Past.{Accepted, within_window}
use Rattle.ec_past.specs.Journals.{kept_from, latest_within, weight_of, weights_of}
use Rattle.ec_past.specs.Records.{PlainRecord, undone}

module _ {X : Type 0} where
  -- each update weighs something
  pub weight_of-some : (records : List X) → 1 ≤ weight_of records
  weight_of-some [] = omega arith
  weight_of-some (x ∷ records) = least (length records)
    where
      least : (n : ℕ) → 1 ≤ cond (eqb (suc n) 0) 1 (suc n)
      least n =
          let is = cond-false (eqb (suc n) 0) 1 (suc n) (ne_eqb (suc n) 0 (λ same. omega (arith, same))) in
          omega (arith, is)

  -- what weighs nothing is empty
  pub none-weights_of : (kept : List (List X)) → 0 < weights_of kept → 0 < length kept
  none-weights_of [] some = omega arith
  none-weights_of (records ∷ kept) some = omega arith

  -- there are no more updates than they weigh
  pub length-weights_of : (kept : List (List X)) → length kept ≤ weights_of kept
  length-weights_of [] = omega arith
  length-weights_of (records ∷ kept) =
      let some = weight_of-some records in
      let rest = length-weights_of kept in
      omega arith

  pub weights_of-append : (kept more : List (List X)) → weights_of (kept ++ more) ≡ weights_of kept + weights_of more
  weights_of-append [] more = omega arith
  weights_of-append (records ∷ kept) more =
      let rest = weights_of-append kept more in
      omega arith

  -- without the oldest the others weigh so much less
  pub oldest-weighs : (kept rest : List (List X)) (oldest : List X) → kept ≡ rest ++ oldest ∷ [] → (weights_of kept ≡ weights_of rest + weight_of oldest) × (1 ≤ weight_of oldest)
  oldest-weighs kept rest oldest is =
      let split = weights_of-append rest (oldest ∷ []) in
      let all = ap weights_of is in
      (omega arith, weight_of-some oldest)

  -- all are kept where there is room for all
  pub latest_within-all : (room : ℕ) (kept : List (List X)) → weights_of kept ≤ room → latest_within room kept ≡ kept
  unfolding latest_within
  latest_within-all room [] few = refl
  latest_within-all room (records ∷ kept) few =
      let rest : weights_of kept ≤ room - weight_of records = omega arith in
      let here : weight_of records ≤ room = omega arith in
      cond-true (leb (weight_of records) room) _ _ (le-leb (weight_of records) room here) ∙ ap (λ ks. records ∷ ks) (latest_within-all (room - weight_of records) kept rest)

  -- the oldest goes where there is not
  pub latest_within-last : (room : ℕ) (kept : List (List X)) (oldest : List X) → room < weights_of (kept ++ oldest ∷ []) → latest_within room (kept ++ oldest ∷ []) ≡ latest_within room kept
  unfolding latest_within
  latest_within-last room [] oldest many =
      let over : room < weight_of oldest = omega arith in
      cond-false (leb (weight_of oldest) room) _ _ (lt-leb (weight_of oldest) room over)
  latest_within-last room (records ∷ kept) oldest many =
      by_test (leb (weight_of records) room) refl (latest_within-last (room - weight_of records) kept oldest)
    where
      by_test : (fits : Bool) → leb (weight_of records) room ≡ fits
          → (room - weight_of records < weights_of (kept ++ oldest ∷ [])
          → latest_within (room - weight_of records) (kept ++ oldest ∷ []) ≡ latest_within (room - weight_of records) kept)
          → cond fits (records ∷ latest_within (room - weight_of records) (kept ++ oldest ∷ [])) [] ≡ cond fits (records ∷ latest_within (room - weight_of records) kept) []
      by_test false is rest = refl
      by_test true is rest =
          let here : weight_of records ≤ room = leb-true (weight_of records) room is in
          let over : room - weight_of records < weights_of (kept ++ oldest ∷ []) = omega arith in
          ap (λ ks. records ∷ ks) (rest over)

-- a window is the same seen in another way
module _ {X Y : Type 0} (f : X → Y) where
  pub weight_of-map : (records : List X) → weight_of (map f records) ≡ weight_of records
  weight_of-map [] = refl
  weight_of-map (x ∷ records) = ap (λ n. cond (eqb (suc n) 0) 1 (suc n)) (length-map records f)

  pub weights_of-map : (kept : List (List X)) → weights_of (map (map f) kept) ≡ weights_of kept
  weights_of-map [] = refl
  weights_of-map (records ∷ kept) = ap₂ (λ m n. m + n) (weight_of-map records) (weights_of-map kept)

  pub latest_within-map : (room : ℕ) (kept : List (List X)) → latest_within room (map (map f) kept) ≡ map (map f) (latest_within room kept)
  unfolding latest_within
  latest_within-map room [] = refl
  latest_within-map room (records ∷ kept) =
      ap (λ w. cond (leb w room) (map f records ∷ latest_within (room - w) (map (map f) kept)) []) (weight_of-map records)
      ∙ by_test (leb (weight_of records) room) (latest_within-map (room - weight_of records) kept)
    where
      by_test : (fits : Bool) → latest_within (room - weight_of records) (map (map f) kept) ≡ map (map f) (latest_within (room - weight_of records) kept)
          → cond fits (map f records ∷ latest_within (room - weight_of records) (map (map f) kept)) [] ≡ map (map f) (cond fits (records ∷ latest_within (room - weight_of records) kept) [])
      by_test true rest = ap (λ ks. map f records ∷ ks) rest
      by_test false rest = refl

-- the window of a past is that of its journal
pub within_window-kept_from : (room : ℕ) (after : List PlainEvent) (kept : List (List PlainRecord)) → within_window room (kept_from after kept) ≡ kept_from after (latest_within room kept)
unfolding latest_within within_window
within_window-kept_from room after [] = refl
within_window-kept_from room after (records ∷ kept) =
    by_test (leb (weight_of records) room) (within_window-kept_from (room - weight_of records) (undone records after) kept)
  where
    first : Accepted
    first = record { before = undone records after; weight = weight_of records }

    by_test : (fits : Bool) → within_window (room - weight_of records) (kept_from (undone records after) kept) ≡ kept_from (undone records after) (latest_within (room - weight_of records) kept)
        → cond fits (first ∷ within_window (room - weight_of records) (kept_from (undone records after) kept)) []
        ≡ kept_from after (cond fits (records ∷ latest_within (room - weight_of records) kept) [])
    by_test true rest = ap (λ ks. first ∷ ks) rest
    by_test false rest = refl
