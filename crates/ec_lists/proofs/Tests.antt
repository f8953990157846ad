-- Tests over the members of a list: that some member passes, and that all do.
use Rattle.std.proofs.Common.{◌≡◌, ℕ, ◌<◌, zero, suc, Bool, true, false, not, ◌&&◌, ◌||◌, List, [], ◌∷◌, ◌++◌, length, get_or, map, filter, flat_map, filter_map, Option, Some, refl, ap, ap₂, subst, ◌∙◌, arith}
use Rattle.std.specs.Prelude.{slice_get, nat_lt}
use Rattle.std.specs.List.{list_any, list_all, remove}
use Rattle.std.specs.Option.{option_map_or}
use Rattle.std.proofs.lemmas.Bool.{and_parts, and_from}
use Rattle.std.proofs.lemmas.List.Folds.{list_any-append}

-- ---- some member passes

-- tests that agree pass alike
pub list_any-same : {X : Type 0} (p q : X → Bool) → ((x : X) → p x ≡ q x) → (xs : List X) → list_any p xs ≡ list_any q xs
list_any-same p q same [] = refl
list_any-same p q same (x ∷ xs) = ap₂ (λ a b. a || b) (same x) (list_any-same p q same xs)

-- some value of a function passes where it passes at some member
pub list_any-map : {X Y : Type 0} (p : Y → Bool) (f : X → Y) (xs : List X) → list_any p (map f xs) ≡ list_any (λ x. p (f x)) xs
list_any-map p f [] = refl
list_any-map p f (x ∷ xs) = ap (λ b. p (f x) || b) (list_any-map p f xs)

pub list_any-flat_map : {X Y : Type 0} (p : Y → Bool) (f : X → List Y) (xs : List X) → list_any p (flat_map f xs) ≡ list_any (λ x. list_any p (f x)) xs
list_any-flat_map p f [] = refl
list_any-flat_map p f (x ∷ xs) = list_any-append p (f x) (flat_map f xs) ∙ ap (λ b. list_any p (f x) || b) (list_any-flat_map p f xs)

pub list_any-filter_map : {X Y : Type 0} (p : Y → Bool) (h : X → Option Y) (xs : List X) →
    list_any p (filter_map h xs) ≡ list_any (λ x. option_map_or p (h x) false) xs
list_any-filter_map p h [] = refl
list_any-filter_map p h (x ∷ xs) = let rest = list_any-filter_map p h xs in grind arith

-- some of what a filter keeps passes where some member passes both tests
pub list_any-filter : {X : Type 0} (p q : X → Bool) (xs : List X) → list_any p (filter q xs) ≡ list_any (λ x. q x && p x) xs
list_any-filter p q [] = refl
list_any-filter p q (x ∷ xs) = let rest = list_any-filter p q xs in grind arith

-- some member passes one of two tests
pub list_any-or : {X : Type 0} (p q : X → Bool) (xs : List X) → (list_any p xs || list_any q xs) ≡ list_any (λ x. p x || q x) xs
list_any-or p q [] = refl
list_any-or p q (x ∷ xs) = let rest = list_any-or p q xs in grind arith

-- a further test that does not look at the member
pub list_any-and : {X : Type 0} (b : Bool) (p : X → Bool) (xs : List X) → (b && list_any p xs) ≡ list_any (λ x. b && p x) xs
list_any-and true p xs = refl
list_any-and false p [] = refl
list_any-and false p (x ∷ xs) = list_any-and false p xs

-- a filter keeps something where some member passes
pub nat_lt-filter : {X : Type 0} (p : X → Bool) (xs : List X) → nat_lt 0 (length (filter p xs)) ≡ list_any p xs
nat_lt-filter p [] = refl
nat_lt-filter p (x ∷ xs) = let rest = nat_lt-filter p xs in grind arith

-- ---- none passes

-- where all fail, none passes
pub list_any-none : {X : Type 0} (p : X → Bool) (xs : List X) → list_all (λ x. not (p x)) xs ≡ true → list_any p xs ≡ false
list_any-none p [] all = refl
list_any-none p (x ∷ xs) all = let rest = list_any-none p xs in grind arith

-- and the other way
pub list_all-none : {X : Type 0} (p : X → Bool) (xs : List X) → list_any p xs ≡ false → list_all (λ x. not (p x)) xs ≡ true
list_all-none p [] none = refl
list_all-none p (x ∷ xs) none = let rest = list_all-none p xs in grind arith

-- where none passes, the member at a place fails
pub list_any-none_at : {X : Type 0} (p : X → Bool) (xs : List X) (i : ℕ) (d : X) → list_any p xs ≡ false → i < length xs → p (get_or xs i d) ≡ false
list_any-none_at p [] i d none within = absurd (omega arith)
list_any-none_at p (x ∷ xs) zero d none within = grind arith
list_any-none_at p (x ∷ xs) (suc i) d none within = list_any-none_at p xs i d (grind arith) (omega arith)

-- and none that a filter keeps passes
pub list_any-filter_none : {X : Type 0} (p q : X → Bool) (xs : List X) → list_any p xs ≡ false → list_any p (filter q xs) ≡ false
list_any-filter_none p q [] none = refl
list_any-filter_none p q (x ∷ xs) none = let rest = list_any-filter_none p q xs in grind arith

-- ---- all pass

-- a test that follows from another
pub list_all-weaker : {X : Type 0} (p q : X → Bool) → ((x : X) → p x ≡ true → q x ≡ true) → (xs : List X) → list_all p xs ≡ true → list_all q xs ≡ true
list_all-weaker p q weaker [] all = refl
list_all-weaker p q weaker (x ∷ xs) all =
    let parts = and_parts _ _ all in and_from _ _ (weaker x parts.0) (list_all-weaker p q weaker xs parts.1)

-- the test that passes everything
pub list_all-each : {X : Type 0} (xs : List X) → list_all (λ x. true) xs ≡ true
list_all-each [] = refl
list_all-each (x ∷ xs) = list_all-each xs

-- what all pass, all that a filter keeps pass
pub list_all-filter : {X : Type 0} (p q : X → Bool) (xs : List X) → list_all p xs ≡ true → list_all p (filter q xs) ≡ true
list_all-filter p q [] all = refl
list_all-filter p q (x ∷ xs) all = let rest = list_all-filter p q xs in grind arith

-- and those that are left where one is taken out
pub list_all-remove : {X : Type 0} (p : X → Bool) (xs : List X) (i : ℕ) → list_all p xs ≡ true → list_all p (remove xs i) ≡ true
list_all-remove p [] zero all = refl
list_all-remove p [] (suc i) all = refl
list_all-remove p (x ∷ xs) zero all = (and_parts _ _ all).1
list_all-remove p (x ∷ xs) (suc i) all =
    let parts = and_parts _ _ all in and_from _ _ parts.0 (list_all-remove p xs i parts.1)

-- and those in front of others
pub list_all-front : {X : Type 0} (p : X → Bool) (xs ys : List X) → list_all p (xs ++ ys) ≡ true → list_all p xs ≡ true
list_all-front p [] ys all = refl
list_all-front p (x ∷ xs) ys all =
    let parts = and_parts _ _ all in and_from _ _ parts.0 (list_all-front p xs ys parts.1)

-- one more at the end
pub list_all-push : {X : Type 0} (p : X → Bool) (xs : List X) (x : X) → list_all p xs ≡ true → p x ≡ true → list_all p (xs ++ x ∷ []) ≡ true
list_all-push p [] x all last = and_from _ _ last refl
list_all-push p (y ∷ xs) x all last =
    let parts = and_parts _ _ all in and_from _ _ parts.0 (list_all-push p xs x parts.1 last)

-- the member at a place passes
pub list_all-get_or : {X : Type 0} (p : X → Bool) (xs : List X) (i : ℕ) (d : X) → list_all p xs ≡ true → i < length xs → p (get_or xs i d) ≡ true
list_all-get_or p [] i d all within = absurd (omega arith)
list_all-get_or p (x ∷ xs) zero d all within = (and_parts _ _ all).0
list_all-get_or p (x ∷ xs) (suc i) d all within = list_all-get_or p xs i d (and_parts _ _ all).1 (omega arith)

-- and so does a value of a function at a place
pub list_all-map_get_or : {X Y : Type 0} (p : Y → Bool) (f : X → Y) (xs : List X) (i : ℕ) (d : X) → list_all p (map f xs) ≡ true → i < length xs →
    p (f (get_or xs i d)) ≡ true
list_all-map_get_or p f [] i d all within = absurd (omega arith)
list_all-map_get_or p f (x ∷ xs) zero d all within = (and_parts _ _ all).0
list_all-map_get_or p f (x ∷ xs) (suc i) d all within = list_all-map_get_or p f xs i d (and_parts _ _ all).1 (omega arith)

pub list_all-slice_get : {X : Type 0} (p : X → Bool) (xs : List X) (i : ℕ) (x : X) → list_all p xs ≡ true → slice_get xs i ≡ Some x → p x ≡ true
list_all-slice_get p [] i x all is = cc
list_all-slice_get p (y ∷ xs) zero x all is = let same : y ≡ x = cc in subst (λ z. p z ≡ true) same (and_parts _ _ all).0
list_all-slice_get p (y ∷ xs) (suc i) x all is = list_all-slice_get p xs i x (and_parts _ _ all).1 is
