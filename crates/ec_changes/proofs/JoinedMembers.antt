-- Members of lists that are joined, or that a function gives for each member of another.
use Rattle.std.proofs.Common.{◌≡◌, List, [], ◌∷◌, flat_map, refl, subst, sym, inl, inr, ⊎_elim}
use Rattle.ec_axioms.proofs.Members.{IsMember, IsMember-append_cases, IsMember-append_right, IsMember-append_left}

-- a member of what a function gives for each comes from one of them
pub IsMember-from_flat_map : {X Y : Type 0} (f : X → List Y) (xs : List X) (y : Y) → IsMember (flat_map f xs) y
    → (x : X) × IsMember xs x × IsMember (f x) y
IsMember-from_flat_map f [] y member = absurd member
IsMember-from_flat_map f (x ∷ xs) y member =
    ⊎_elim (λ here. (x, inl refl, here))
    (λ later. let found = IsMember-from_flat_map f xs y later in (found.0, inr found.1, found.2))
    (IsMember-append_cases (f x) (flat_map f xs) y member)

-- and each member of what it gives for one of them is a member
pub IsMember-flat_map : {X Y : Type 0} (f : X → List Y) (xs : List X) (x : X) (y : Y) → IsMember xs x → IsMember (f x) y → IsMember (flat_map f xs) y
IsMember-flat_map f [] x y member given = absurd member
IsMember-flat_map f (z ∷ xs) x y (inl same) given =
    IsMember-append_left (f z) (flat_map f xs) y (subst (λ w. IsMember (f w) y) (sym same) given)
IsMember-flat_map f (z ∷ xs) x y (inr later) given = IsMember-append_right (f z) (flat_map f xs) y (IsMember-flat_map f xs x y later given)

-- a list without a member is empty
pub empty_from_members : {X : Type 0} (xs : List X) → ((x : X) → IsMember xs x → ⊥) → xs ≡ []
empty_from_members [] none = refl
empty_from_members (x ∷ xs) none = absurd (none x (inl refl))
