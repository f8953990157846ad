-- What stands at a place of a list, as a walk by places reads it.
use Rattle.std.proofs.Common.{◌≡◌, ℕ, zero, suc, ◌<◌, ◌≤◌, List, [], ◌∷◌, ◌++◌, length, map, take, get_or, replicate, Some, None, refl, ap, arith}
use Rattle.std.proofs.lemmas.List.{get_or_past}
use Rattle.std.specs.Prelude.{slice_get}

-- nothing stands behind the last member
pub slice_get-none : {X : Type 0} (xs : List X) (i : ℕ) → slice_get xs i ≡ None → length xs ≤ i
slice_get-none [] i none = omega arith
slice_get-none (x ∷ xs) zero none = let no = none in absurd (cc)
slice_get-none (x ∷ xs) (suc i) none = let rest = slice_get-none xs i none in omega (arith, rest)

-- the values of a function stand where its arguments do
pub slice_get-map_at : {X Y : Type 0} (f : X → Y) (xs : List X) (i : ℕ) (x : X) → slice_get xs i ≡ Some x → slice_get (map f xs) i ≡ Some (f x)
slice_get-map_at f [] i x there = cc
slice_get-map_at f (y ∷ xs) zero x there = let same : y ≡ x = cc in ap (λ z. Some (f z)) same
slice_get-map_at f (y ∷ xs) (suc i) x there = slice_get-map_at f xs i x there

-- the first members of a list stand where they stand in the list
pub slice_get-take : {X : Type 0} (xs : List X) (n k : ℕ) → k < n → slice_get (take n xs) k ≡ slice_get xs k
slice_get-take xs zero k within = absurd (omega arith)
slice_get-take [] (suc n) k within = refl
slice_get-take (x ∷ xs) (suc n) zero within = refl
slice_get-take (x ∷ xs) (suc n) (suc k) within = slice_get-take xs n k (omega arith)

-- of copies of a value each is that value, and so is what is read past them
pub get_or-copies : {X : Type 0} (n i : ℕ) (x : X) → get_or (replicate n x) i x ≡ x
get_or-copies zero i x = get_or_past [] i x (omega arith)
get_or-copies (suc n) zero x = refl
get_or-copies (suc n) (suc i) x = get_or-copies n i x

-- what stands at a place of a list stands there with more behind
pub slice_get-behind : {X : Type 0} (xs more : List X) (i : ℕ) (x : X) → slice_get xs i ≡ Some x → slice_get (xs ++ more) i ≡ Some x
slice_get-behind [] more i x there = let no : None ≡ Some x = there in cc
slice_get-behind (y ∷ xs) more zero x there = there
slice_get-behind (y ∷ xs) more (suc i) x there = slice_get-behind xs more i x there
