-- What a filter keeps. That filters which agree keep the same, and what stands in a filter of two lists, is in std.
use Rattle.std.proofs.Common.{◌≡◌, ◌≤◌, Bool, true, false, not, cond, ◌&&◌, List, [], ◌∷◌, length, map, filter, filter_map, Option, Some, None, refl, ap, ap₂, arith}
use Rattle.std.specs.List.{list_any, list_all, All, cons_option}
use Rattle.std.proofs.lemmas.List.Elements.{All-head, All-tail}

-- two filters may change places
pub filter_comm : {X : Type 0} (p q : X → Bool) (xs : List X) → filter p (filter q xs) ≡ filter q (filter p xs)
filter_comm p q [] = refl
filter_comm p q (x ∷ xs) = let rest = filter_comm p q xs in grind arith

-- two filters in a row are one
pub filter-filter : {X : Type 0} (p q r : X → Bool) (xs : List X) → ((x : X) → r x ≡ (q x && p x)) → filter p (filter q xs) ≡ filter r xs
filter-filter p q r [] both = refl
filter-filter p q r (x ∷ xs) both = let rest = filter-filter p q r xs both in let here = both x in grind arith

-- a filter before a narrower one changes nothing
pub filter-filter_wider : {X : Type 0} (q p : X → Bool) (xs : List X) → ((x : X) → q x ≡ true → p x ≡ true) → filter q (filter p xs) ≡ filter q xs
filter-filter_wider q p [] wider = refl
filter-filter_wider q p (x ∷ xs) wider = let rest = filter-filter_wider q p xs wider in let here = wider x in grind arith

-- a filter of the values of a function keeps those of the members that pass
pub filter-map : {X Y : Type 0} (p : Y → Bool) (f : X → Y) (xs : List X) → filter p (map f xs) ≡ map f (filter (λ x. p (f x)) xs)
filter-map p f [] = refl
filter-map p f (x ∷ xs) = let rest = filter-map p f xs in grind arith

-- filters that agree at each member keep the same
pub filter_agree_at : {X : Type 0} (p q : X → Bool) (xs : List X) → All (λ x. p x ≡ q x) xs → filter p xs ≡ filter q xs
filter_agree_at p q [] all = refl
filter_agree_at p q (x ∷ xs) all =
    ap₂ (λ b kept. cond b (x ∷ kept) kept) (All-head (λ y. p y ≡ q y) x xs all) (filter_agree_at p q xs (All-tail (λ y. p y ≡ q y) x xs all))

-- ---- all are kept, or none

-- a filter that each member passes keeps all
pub filter-all : {X : Type 0} (p : X → Bool) (xs : List X) → list_all p xs ≡ true → filter p xs ≡ xs
filter-all p [] all = refl
filter-all p (x ∷ xs) all = let rest = filter-all p xs in grind arith

-- the filter that passes everything
pub filter-each : {X : Type 0} (xs : List X) → filter (λ x. true) xs ≡ xs
filter-each [] = refl
filter-each (x ∷ xs) = ap (λ ys. x ∷ ys) (filter-each xs)

-- a filter that no member passes keeps none
pub filter-none : {X : Type 0} (p : X → Bool) (xs : List X) → list_any p xs ≡ false → filter p xs ≡ []
filter-none p [] none = refl
filter-none p (x ∷ xs) none = let rest = filter-none p xs in grind arith

-- and its opposite keeps all
pub filter-not_any : {X : Type 0} (p : X → Bool) (xs : List X) → list_any p xs ≡ false → filter (λ x. not (p x)) xs ≡ xs
filter-not_any p [] none = refl
filter-not_any p (x ∷ xs) none = let rest = filter-not_any p xs in grind arith

-- ---- how many are kept

-- no more than there are
pub length-filter_le : {X : Type 0} (p : X → Bool) (xs : List X) → length (filter p xs) ≤ length xs
length-filter_le p [] = omega arith
length-filter_le p (x ∷ xs) = let rest = length-filter_le p xs in grind arith

-- no more than a wider filter keeps
pub length-filter_wider : {X : Type 0} (p q : X → Bool) → ((x : X) → p x ≡ true → q x ≡ true) → (xs : List X) → length (filter p xs) ≤ length (filter q xs)
length-filter_wider p q wider [] = omega arith
length-filter_wider p q wider (x ∷ xs) = let rest = length-filter_wider p q wider xs in let here = wider x in grind arith

-- a function that gives a value for some members gives no more values than there are members
pub length-filter_map : {X Y : Type 0} (h : X → Option Y) (xs : List X) → length (filter_map h xs) ≤ length xs
length-filter_map h [] = omega arith
length-filter_map {X} {Y} h (x ∷ xs) = by_value (h x) (length-filter_map h xs)
  where
    by_value : (o : Option Y) → length (filter_map h xs) ≤ length xs → length (cons_option o (filter_map h xs)) ≤ length (x ∷ xs)
    by_value None rest = omega (arith, rest)
    by_value (Some y) rest = omega (arith, rest)

-- all that is kept passes
pub list_all-kept : {X : Type 0} (p : X → Bool) (xs : List X) → list_all p (filter p xs) ≡ true
list_all-kept p [] = refl
list_all-kept p (x ∷ xs) = let rest = list_all-kept p xs in grind arith
