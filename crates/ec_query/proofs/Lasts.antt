-- The last member of a list.
use Rattle.std.proofs.Common.{◌≡◌, List, [], ◌∷◌, ◌++◌, map, Option, Some, None, option_map, refl, sym, inl, inr}
use Rattle.std.specs.List.{last_or}
use Rattle.std.specs.Option.{option_or}
use Rattle.ec_axioms.proofs.Members.{IsMember}

-- of two lists it is that of the second, or else that of the first
pub last_or-append : {X : Type 0} (d : Option X) (xs ys : List X) → last_or d (xs ++ ys) ≡ last_or (last_or d xs) ys
last_or-append d [] ys = refl
last_or-append d (x ∷ xs) ys = last_or-append (Some x) xs ys

-- behind a member there is one
last_or-some : {X : Type 0} (d : Option X) (x : X) (xs : List X) → option_or (last_or (Some x) xs) d ≡ last_or (Some x) xs
last_or-some d x [] = refl
last_or-some d x (y ∷ ys) = last_or-some d y ys

-- where there is none, it is what stands for it
pub last_or-or : {X : Type 0} (d : Option X) (xs : List X) → last_or d xs ≡ option_or (last_or None xs) d
last_or-or d [] = refl
last_or-or d (x ∷ xs) = sym (last_or-some d x xs)

-- of the values of a function it is the value at the last
pub last_or-map : {X Y : Type 0} (f : X → Y) (d : Option X) (xs : List X) → last_or (option_map f d) (map f xs) ≡ option_map f (last_or d xs)
last_or-map f d [] = refl
last_or-map f d (x ∷ xs) = last_or-map f (Some x) xs

-- it is a member
pub last_or-member : {X : Type 0} (xs : List X) (x : X) → last_or None xs ≡ Some x → IsMember xs x
last_or-member [] x is = let no = is in absurd (cc)
last_or-member {X} (y ∷ ys) x is = by_rest ys y is
  where
    by_rest : (ys : List X) (y : X) → last_or (Some y) ys ≡ Some x → IsMember (y ∷ ys) x
    by_rest [] y is = inl (let same : y ≡ x = cc in same)
    by_rest (z ∷ zs) y is = inr (by_rest zs z is)
