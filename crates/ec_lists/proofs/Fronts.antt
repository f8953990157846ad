-- The longest front of a list whose members pass a test, and the rest of a list from a place on.
use Rattle.std.proofs.Common.{◌≡◌, ℕ, ◌≤◌, suc, Bool, true, false, cond, List, [], ◌∷◌, ◌++◌, length, take, drop, take_while, Some, refl, sym, ap, subst, ◌∙◌, arith}
use Rattle.std.specs.Prelude.{slice_get}
use Rattle.std.specs.List.{list_all}
use Rattle.std.proofs.lemmas.Bool.{and_parts, and_from, cond-true, cond-false, cond_both}
use Rattle.std.proofs.lemmas.List.Folds.{length-prefix_len}
use Rattle.std.proofs.lemmas.List.Sums.{prefix_len-le-length, take_while-cons}
use Rattle.std.proofs.lemmas.Option.{slice_get_within, get_or_from_slice_get}
use Rattle.std.proofs.Math.Seq.{drop-cons}

-- each member of the front passes
pub list_all-take_while : {X : Type 0} (p : X → Bool) (xs : List X) → list_all p (take_while p xs) ≡ true
list_all-take_while p [] = refl
list_all-take_while {X} p (x ∷ xs) =
    subst (λ (ys : List X). list_all p ys ≡ true) (sym (take_while-cons p x xs))
    (cond_both (p x) (x ∷ take_while p xs) [] (λ ys. list_all p ys ≡ true) (λ e. and_from (p x) _ e (list_all-take_while p xs)) (λ e. refl))

-- a list whose members all pass is its own front, whatever stands behind it
pub take_while-pass : {X : Type 0} (p : X → Bool) (xs ys : List X) → list_all p xs ≡ true → take_while p (xs ++ ys) ≡ xs ++ take_while p ys
take_while-pass p [] ys all = refl
take_while-pass p (x ∷ xs) ys all =
    let parts = and_parts _ _ all in
    take_while-cons p x (xs ++ ys) ∙ cond-true (p x) _ _ parts.0 ∙ ap (λ zs. x ∷ zs) (take_while-pass p xs ys parts.1)

pub take_while-all : {X : Type 0} (p : X → Bool) (xs : List X) → list_all p xs ≡ true → take_while p xs ≡ xs
take_while-all p [] all = refl
take_while-all p (x ∷ xs) all =
    let parts = and_parts _ _ all in
    take_while-cons p x xs ∙ cond-true (p x) _ _ parts.0 ∙ ap (λ zs. x ∷ zs) (take_while-all p xs parts.1)

-- a member that fails ends each front before it
pub take_while-seam : {X : Type 0} (p : X → Bool) (xs : List X) (d : X) (ys : List X) → p d ≡ false → take_while p (xs ++ d ∷ ys) ≡ take_while p xs
take_while-seam p [] d ys fails = take_while-cons p d ys ∙ cond-false (p d) _ _ fails
take_while-seam p (x ∷ xs) d ys fails =
    take_while-cons p x (xs ++ d ∷ ys) ∙ ap (λ zs. cond (p x) (x ∷ zs) []) (take_while-seam p xs d ys fails) ∙ sym (take_while-cons p x xs)

-- the front has as many members as it has, and no more than the list
pub take_while-is_take : {X : Type 0} (p : X → Bool) (xs : List X) → take_while p xs ≡ take (length (take_while p xs)) xs
take_while-is_take p xs = ap (λ n. take n xs) (sym (length-prefix_len p xs))

pub take_while-within : {X : Type 0} (p : X → Bool) (xs : List X) → length (take_while p xs) ≤ length xs
take_while-within p xs = omega (arith, length-prefix_len p xs, prefix_len-le-length p xs)

-- what follows the members before a place begins with the member there
pub drop-slice_get : {X : Type 0} (xs : List X) (i : ℕ) (x : X) → slice_get xs i ≡ Some x → drop i xs ≡ x ∷ drop (suc i) xs
drop-slice_get xs i x is = drop-cons xs i x (slice_get_within xs i x is) ∙ ap (λ y. y ∷ drop (suc i) xs) (get_or_from_slice_get xs i x x is)
