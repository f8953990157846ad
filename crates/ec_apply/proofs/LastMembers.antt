-- Lists with one member behind all others.
use Rattle.std.proofs.Common.{◌≡◌, zero, Bool, true, ◌&&◌, List, [], ◌∷◌, ◌++◌, length, Some, refl, sym, ◌∙◌, slice_get, arith}
use Rattle.std.specs.List.{All, list_all}
use Rattle.std.proofs.lemmas.Bool.{and_parts, and_from}
use Rattle.std.proofs.lemmas.List.Elements.{All-cons, All-head, All-tail}
use Rattle.std.proofs.lemmas.List.Folds.{list_all-append}
use Rattle.ec_rows.specs.Ordered.{is_ascending}

-- the last member stands behind all others
pub slice_get-last : {X : Type 0} (xs : List X) (x : X) → slice_get (xs ++ x ∷ []) (length xs) ≡ Some x
slice_get-last [] x = refl
slice_get-last (y ∷ xs) x = slice_get-last xs x

-- the members before the last ascend, and each stands before it
pub ascending-last : {X : Type 0} (stands_before : X → X → Bool) (xs : List X) (x : X) → is_ascending stands_before (xs ++ x ∷ []) ≡ true
    → (is_ascending stands_before xs ≡ true) × (list_all (λ y. stands_before y x) xs ≡ true)
unfolding is_ascending
ascending-last stands_before [] x ascending = (refl, refl)
ascending-last stands_before (y ∷ xs) x ascending =
    let parts = and_parts (list_all (stands_before y) (xs ++ x ∷ [])) (is_ascending stands_before (xs ++ x ∷ [])) ascending in
    let first = and_parts (list_all (stands_before y) xs) (stands_before y x && true) (sym (list_all-append (stands_before y) xs (x ∷ [])) ∙ parts.0) in
    let later = ascending-last stands_before xs x parts.1 in
    (and_from _ _ first.0 later.0, and_from _ _ (and_parts (stands_before y x) true first.1).0 later.1)

-- what holds of each member of a list with one behind holds of the others, and of it
pub live-parts : {X : Type 0} (P : X → Type 0) (xs : List X) (x : X) → All P (xs ++ x ∷ []) → All P xs × P x
live-parts P [] x all = (λ k d within. absurd (omega arith), all zero x (omega arith))
live-parts {X} P (y ∷ xs) x all =
    let later = live-parts P xs x (All-tail P y (xs ++ x ∷ []) all) in (All-cons P y xs (All-head P y (xs ++ x ∷ []) all) later.0, later.1)
