-- A list that a test cuts in two: what is in front of the cut passes, and what is behind it does not.
use Rattle.std.proofs.Common.{◌≡◌, ℕ, ◌≤◌, zero, suc, Bool, true, false, not, List, [], ◌∷◌, length, filter, take, drop, refl, sym, ap, ◌∙◌, arith}
use Rattle.std.specs.List.Sorted.{IsPartitionPoint}
use Rattle.std.proofs.lemmas.List.{length-take-le}

-- the test passes in front of the place i and fails from there on
abbrev pub IsCut : {X : Type 0} → (X → Bool) → List X → ℕ → Type 0
IsCut p xs i = IsPartitionPoint (λ x. p x ≡ true) (λ x. p x ≡ false) xs i

-- the cut of the rest of a list
IsCut-rest : {X : Type 0} (p : X → Bool) (x : X) (xs : List X) (i : ℕ) → IsCut p (x ∷ xs) (suc i) → IsCut p xs i
IsCut-rest p x xs i cut = (λ k d low high. cut.0 (suc k) d (omega arith) (omega arith), λ k d low high. cut.1 (suc k) d (omega arith) (omega arith))

-- where nothing passes, nothing of the rest does
IsCut-none : {X : Type 0} (p : X → Bool) (x : X) (xs : List X) → IsCut p (x ∷ xs) zero → IsCut p xs zero
IsCut-none p x xs cut = (λ k d low high. absurd (omega arith), λ k d low high. cut.1 (suc k) d (omega arith) (omega arith))

-- the part in front of the cut is what passes
pub take-partition : {X : Type 0} (p : X → Bool) (xs : List X) (i : ℕ) → IsCut p xs i → take i xs ≡ filter p xs
take-partition p [] zero cut = refl
take-partition p [] (suc i) cut = refl
take-partition p (x ∷ xs) zero cut =
    let here : p x ≡ false = cut.1 zero x (omega arith) (omega arith) in
    let rest = take-partition p xs zero (IsCut-none p x xs cut) in grind arith
take-partition p (x ∷ xs) (suc i) cut =
    let here : p x ≡ true = cut.0 zero x (omega arith) (omega arith) in
    let rest = take-partition p xs i (IsCut-rest p x xs i cut) in grind arith

-- and the part behind it is what does not
pub drop-partition : {X : Type 0} (p q : X → Bool) → ((x : X) → q x ≡ not (p x)) → (xs : List X) (i : ℕ) → IsCut p xs i → drop i xs ≡ filter q xs
drop-partition p q other [] zero cut = refl
drop-partition p q other [] (suc i) cut = refl
drop-partition p q other (x ∷ xs) zero cut =
    let here : p x ≡ false = cut.1 zero x (omega arith) (omega arith) in
    let there = other x in
    let rest = drop-partition p q other xs zero (IsCut-none p x xs cut) in grind arith
drop-partition p q other (x ∷ xs) (suc i) cut =
    let here : p x ≡ true = cut.0 zero x (omega arith) (omega arith) in
    let there = other x in
    let rest = drop-partition p q other xs i (IsCut-rest p x xs i cut) in grind arith

-- what passes, counted
pub length-partition : {X : Type 0} (p : X → Bool) (xs : List X) (i : ℕ) → i ≤ length xs → IsCut p xs i → i ≡ length (filter p xs)
length-partition p xs i within cut = sym (length-take-le i xs within) ∙ ap length (take-partition p xs i cut)
