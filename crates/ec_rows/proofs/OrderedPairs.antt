-- Lists that ascend, pair by pair: each member stands before each one behind it.
use Rattle.std.proofs.Common.{Bool, List, [], ◌∷◌, map, IsTrue, refl}
use Rattle.std.specs.List.{list_all}
use Rattle.std.proofs.lemmas.Bool.{and_from, and_parts}
use Rattle.ec_axioms.proofs.Members.{IsMember-map, IsPairwise, list_all-from_members, list_all-member}
use Rattle.ec_rows.specs.Ordered.{is_ascending}

-- each two members of a list that ascends stand in its order
pub IsPairwise-ascending : {X : Type 0} (before : X → X → Bool) (xs : List X) → IsTrue (is_ascending before xs) → IsPairwise (λ x y. IsTrue (before x y)) xs
unfolding is_ascending
IsPairwise-ascending before [] ascending = tt
IsPairwise-ascending before (x ∷ xs) ascending =
    let parts = and_parts (list_all (before x) xs) (is_ascending before xs) ascending in
    (λ y later. list_all-member (before x) xs y parts.0 later, IsPairwise-ascending before xs parts.1)

-- and the other way
pub ascending-from_pairwise : {X : Type 0} (before : X → X → Bool) (xs : List X) → IsPairwise (λ x y. IsTrue (before x y)) xs → IsTrue (is_ascending before xs)
unfolding is_ascending
ascending-from_pairwise before [] pairs = refl
ascending-from_pairwise before (x ∷ xs) pairs =
    and_from (list_all (before x) xs) (is_ascending before xs) (list_all-from_members (before x) xs pairs.0) (ascending-from_pairwise before xs pairs.1)

-- what is said of each two values of a function is said of its arguments
pub IsPairwise-from_map : {X Y : Type 0} (R : Y → Y → Type 0) (f : X → Y) (xs : List X) → IsPairwise R (map f xs) → IsPairwise (λ x y. R (f x) (f y)) xs
IsPairwise-from_map R f [] pairs = tt
IsPairwise-from_map R f (x ∷ xs) pairs = (λ y later. pairs.0 (f y) (IsMember-map f xs y later), IsPairwise-from_map R f xs pairs.1)
