-- Options that all have something, and what they have.
use Rattle.std.proofs.Common.{◌≡◌, ℕ, zero, suc, List, [], ◌∷◌, ◌++◌, length, map, Option, Some, None, option_map, refl, sym, ap, ap₂, subst, ◌∙◌, inl, inr}
use Rattle.std.specs.Prelude.{option_and_then, slice_get}
use Rattle.std.specs.List.{All}
use Rattle.std.proofs.lemmas.List.Elements.{All-nil, All-cons}
use Rattle.ec_axioms.proofs.Members.{IsMember}
use Rattle.ec_context.specs.Entries.{each_of}

-- what both a first option and the others have
with_first : {A : Type 0} → Option A → Option (List A) → Option (List A)
with_first o rest = option_and_then (λ a. option_map (λ others. a ∷ others) rest) o

-- a first and others are what all have
pub record HasFirst {X A : Type 0} (f : X → Option A) (x : X) (xs : List X) (all : List A) : Type 0 where
  pub first : A
  pub others : List A
  pub first_is : f x ≡ Some first
  pub others_are : each_of (map f xs) ≡ Some others
  pub all_are : all ≡ first ∷ others

-- where all have something, so has the first, and so have the others
pub each_of-first : {X A : Type 0} (f : X → Option A) (x : X) (xs : List X) (all : List A) → each_of (map f (x ∷ xs)) ≡ Some all → HasFirst f x xs all
unfolding each_of with_first
each_of-first {X} {A} f x xs all is = of (f x) (each_of (map f xs)) refl refl is
  where
    of : (o : Option A) (rest : Option (List A)) → f x ≡ o → each_of (map f xs) ≡ rest → with_first o rest ≡ Some all → HasFirst f x xs all
    of None rest here others both = cc
    of (Some a) None here others both = cc
    of (Some a) (Some behind) here others both =
        let same : a ∷ behind ≡ all = cc in record { first = a; others = behind; first_is = here; others_are = others; all_are = sym same }

-- what one function gives of each, another gives too
pub each_of-moved : {X A : Type 0} (f g : X → Option A) (xs : List X) (all : List A) → ((x : X) (a : A) → IsMember all a → f x ≡ Some a → g x ≡ Some a) →
    each_of (map f xs) ≡ Some all → each_of (map g xs) ≡ Some all
unfolding each_of with_first
each_of-moved f g [] all same is = is
each_of-moved f g (x ∷ xs) all same is =
    let parts = each_of-first f x xs all is in
    ap₂ with_first (same x parts.first (subst (λ l. IsMember l parts.first) (sym parts.all_are) (inl refl)) parts.first_is)
    (each_of-moved f g xs parts.others (λ y a member. same y a (subst (λ l. IsMember l a) (sym parts.all_are) (inr member))) parts.others_are)
    ∙ ap Some (sym parts.all_are)

-- with one member more
pub each_of-push : {X A : Type 0} (f : X → Option A) (xs : List X) (x : X) (all : List A) (a : A) → each_of (map f xs) ≡ Some all → f x ≡ Some a →
    each_of (map f (xs ++ x ∷ [])) ≡ Some (all ++ a ∷ [])
unfolding each_of with_first
each_of-push {A = A} f [] x [] a is here = ap (λ o. with_first o (Some [])) here
each_of-push {A = A} f [] x (b ∷ all) a is here = cc
each_of-push {A = A} f (y ∷ xs) x all a is here =
    let parts = each_of-first f y xs all is in
    ap₂ with_first parts.first_is (each_of-push f xs x parts.others a parts.others_are here) ∙ ap (λ (ys : List A). Some (ys ++ a ∷ [])) (sym parts.all_are)

-- there are as many
pub each_of-length : {X A : Type 0} (f : X → Option A) (xs : List X) (all : List A) → each_of (map f xs) ≡ Some all → length xs ≡ length all
unfolding each_of
each_of-length f [] [] is = refl
each_of-length f [] (a ∷ all) is = cc
each_of-length f (x ∷ xs) all is =
    let parts = each_of-first f x xs all is in ap suc (each_of-length f xs parts.others parts.others_are) ∙ ap length (sym parts.all_are)

-- what stands at a place is what the option there has
pub each_of-slice_get : {X A : Type 0} (f : X → Option A) (xs : List X) (all : List A) → each_of (map f xs) ≡ Some all → (k : ℕ) →
    slice_get all k ≡ option_and_then f (slice_get xs k)
unfolding each_of
each_of-slice_get f [] [] is k = refl
each_of-slice_get f [] (a ∷ all) is k = cc
each_of-slice_get f (x ∷ xs) all is zero =
    let parts = each_of-first f x xs all is in ap (λ ys. slice_get ys zero) parts.all_are ∙ sym parts.first_is
each_of-slice_get f (x ∷ xs) all is (suc k) =
    let parts = each_of-first f x xs all is in ap (λ ys. slice_get ys (suc k)) parts.all_are ∙ each_of-slice_get f xs parts.others parts.others_are k

-- so what stands at a place has something there, which stands in its place
pub each_of-at : {X A : Type 0} (f : X → Option A) (xs : List X) (all : List A) → each_of (map f xs) ≡ Some all → (k : ℕ) (x : X) → slice_get xs k ≡ Some x →
    (a : A) × (f x ≡ Some a) × (slice_get all k ≡ Some a)
each_of-at f [] all is k x there = cc
each_of-at f (y ∷ xs) all is zero x there =
    let parts = each_of-first f y xs all is in
    let same : y ≡ x = cc in (parts.first, ap f (sym same) ∙ parts.first_is, ap (λ ys. slice_get ys zero) parts.all_are)
each_of-at f (y ∷ xs) all is (suc k) x there =
    let parts = each_of-first f y xs all is in
    let found = each_of-at f xs parts.others parts.others_are k x there in (found.0, found.1, ap (λ ys. slice_get ys (suc k)) parts.all_are ∙ found.2)

-- what holds of each member that has something holds of all
pub All-each_of : {X A : Type 0} (f : X → Option A) (P : X → Type 0) → ((x : X) (a : A) → f x ≡ Some a → P x) → (xs : List X) (all : List A) →
    each_of (map f xs) ≡ Some all → All P xs
All-each_of f P one [] all is = All-nil P
All-each_of f P one (x ∷ xs) all is =
    let parts = each_of-first f x xs all is in All-cons P x xs (one x parts.first parts.first_is) (All-each_of f P one xs parts.others parts.others_are)
