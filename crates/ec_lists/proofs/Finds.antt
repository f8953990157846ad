-- The first member of a list that passes a test.
use Rattle.std.proofs.Common.{◌≡◌, ℕ, ◌<◌, zero, suc, Bool, true, false, cond, ◌&&◌, List, [], ◌∷◌, length, get_or, take, map, filter, find, Some, None, option_map, is_some, refl, ap₂, arith}
use Rattle.std.specs.List.{list_any}

-- tests that agree find the same
pub find_agree : {X : Type 0} (p q : X → Bool) → ((x : X) → p x ≡ q x) → (xs : List X) → find p xs ≡ find q xs
find_agree p q agree [] = refl
find_agree p q agree (x ∷ xs) = ap₂ (λ b o. cond b (Some x) o) (agree x) (find_agree p q agree xs)

-- the first of the values of a function that passes is the value at the first that does
pub find-map : {X Y : Type 0} (p : Y → Bool) (f : X → Y) (xs : List X) → find p (map f xs) ≡ option_map f (find (λ x. p (f x)) xs)
find-map p f [] = refl
find-map p f (x ∷ xs) = let rest = find-map p f xs in grind arith

-- the first of what is kept is the first that passes both tests
pub find-filter : {X : Type 0} (p q : X → Bool) (xs : List X) → find p (filter q xs) ≡ find (λ x. q x && p x) xs
find-filter p q [] = refl
find-filter p q (x ∷ xs) = let rest = find-filter p q xs in grind arith

-- where none passes, nothing is found
pub find-none : {X : Type 0} (p : X → Bool) (xs : List X) → list_any p xs ≡ false → find p xs ≡ None
find-none p [] none = refl
find-none p (x ∷ xs) none = let rest = find-none p xs in grind arith

-- something is found where some member passes
pub is_some-find : {X : Type 0} (p : X → Bool) (xs : List X) → is_some (find p xs) ≡ list_any p xs
is_some-find p [] = refl
is_some-find p (x ∷ xs) = let rest = is_some-find p xs in grind arith

-- where nothing is found, the first fails and nothing is found behind it
pub find-None_cons : {X : Type 0} (p : X → Bool) (x : X) (xs : List X) → find p (x ∷ xs) ≡ None → (p x ≡ false) × (find p xs ≡ None)
find-None_cons {X} p x xs none = of (p x) none
  where
    of : (b : Bool) → cond b (Some x) (find p xs) ≡ None → (b ≡ false) × (find p xs ≡ None)
    of true h = cc
    of false h = (refl, h)

-- the member at a place passes, and none before it does
pub find_here : {X : Type 0} (p : X → Bool) (xs : List X) (i : ℕ) (d : X) → i < length xs → list_any p (take i xs) ≡ false → p (get_or xs i d) ≡ true →
    find p xs ≡ Some (get_or xs i d)
find_here p [] i d within before passes = absurd (omega arith)
find_here p (x ∷ xs) zero d within before passes = grind arith
find_here p (x ∷ xs) (suc i) d within before passes =
    let rest = find_here p xs i d (omega arith) in grind arith
