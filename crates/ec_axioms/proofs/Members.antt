-- Lemmas on the members of lists: what a filter, a search and a test over a list say of them, and lists whose members stand in an order.
use Rattle.std.proofs.Common.{◌≡◌, ◌⊎◌, ℕ, zero, suc, ◌<◌, Bool, true, false, cond, ◌||◌, List, [], ◌∷◌, ◌++◌, length, get_or, nat_lt, map, filter, find, filter_map, Option, Some, None, Contains, IsTrue, IsFalse, IsSomeAnd, refl, ap, ap₂, sym, subst, ◌∙◌, inl, inr, ⊎_elim, arith}
use Rattle.std.specs.Bool.{⊤}
use Rattle.std.specs.Prelude.{slice_get}
use Rattle.std.specs.List.{list_any, list_all, last_or, cons_option}
use Rattle.std.specs.Option.{option_map_or}
use Rattle.std.proofs.lemmas.Bool.{cond_both, cond-true, false≢true, or_cases, or_left, or_right, and_parts, and_from, lt-ltb}
use Rattle.std.proofs.lemmas.Option.{none-some}
use Rattle.ec_lists.proofs.Filters.{length-filter_wider}
pub use Rattle.ec_lists.proofs.Filters.{filter_comm, filter-map}
pub use Rattle.ec_lists.proofs.Tests.{list_any-filter, list_any-filter_map}
pub use Rattle.ec_lists.proofs.Finds.{find-filter, find_agree, find-map}

-- ---- members

-- x is a member of the list, by recursion on it
abbrev pub IsMember : {X : Type 0} → List X → X → Type 0
IsMember [] x = ⊥
IsMember (y ∷ ys) x = (y ≡ x) ⊎ IsMember ys x

-- what stands at a place is a member
pub IsMember_at : {X : Type 0} (xs : List X) (x : X) (k : ℕ) → k < length xs → get_or xs k x ≡ x → IsMember xs x
IsMember_at [] x k within there = absurd (omega arith)
IsMember_at (y ∷ ys) x zero within there = inl there
IsMember_at (y ∷ ys) x (suc k) within there = inr (IsMember_at ys x k (omega arith) there)

-- by std's word for a member, which goes by places
pub IsMember-from_contains : {X : Type 0} (xs : List X) (x : X) → Contains xs x → IsMember xs x
IsMember-from_contains xs x found = IsMember_at xs x found.0 found.1 found.2

-- and the other way
pub Contains-from_member : {X : Type 0} (xs : List X) (x : X) → IsMember xs x → Contains xs x
Contains-from_member [] x member = absurd member
Contains-from_member (y ∷ ys) x (inl same) = (zero, omega arith, same)
Contains-from_member (y ∷ ys) x (inr later) = let found = Contains-from_member ys x later in let within = found.1 in (suc found.0, omega arith, found.2)

-- what a walk reads at a place is a member
pub IsMember-slice_get : {X : Type 0} (xs : List X) (i : ℕ) (x : X) → slice_get xs i ≡ Some x → IsMember xs x
IsMember-slice_get [] i x there = cc
IsMember-slice_get (y ∷ xs) zero x there = let same : y ≡ x = cc in inl same
IsMember-slice_get (y ∷ xs) (suc i) x there = inr (IsMember-slice_get xs i x there)

-- and a member is read at some place
pub slice_get-member : {X : Type 0} (xs : List X) (x : X) → IsMember xs x → (i : ℕ) × (slice_get xs i ≡ Some x)
slice_get-member [] x member = absurd member
slice_get-member (y ∷ xs) x (inl same) = (zero, ap Some same)
slice_get-member (y ∷ xs) x (inr later) = let found = slice_get-member xs x later in (suc found.0, found.1)

-- the members of two lists joined are those of each
pub IsMember-append_cases : {X : Type 0} (xs ys : List X) (x : X) → IsMember (xs ++ ys) x → IsMember xs x ⊎ IsMember ys x
IsMember-append_cases [] ys x member = inr member
IsMember-append_cases (z ∷ xs) ys x (inl same) = inl (inl same)
IsMember-append_cases (z ∷ xs) ys x (inr later) = ⊎_elim (λ left. inl (inr left)) (λ right. inr right) (IsMember-append_cases xs ys x later)

-- a member of either of two lists is a member of them joined
pub IsMember-append_left : {X : Type 0} (xs ys : List X) (x : X) → IsMember xs x → IsMember (xs ++ ys) x
IsMember-append_left [] ys x member = absurd member
IsMember-append_left (z ∷ xs) ys x (inl same) = inl same
IsMember-append_left (z ∷ xs) ys x (inr later) = inr (IsMember-append_left xs ys x later)

pub IsMember-append_right : {X : Type 0} (xs ys : List X) (x : X) → IsMember ys x → IsMember (xs ++ ys) x
IsMember-append_right [] ys x member = member
IsMember-append_right (y ∷ xs) ys x member = inr (IsMember-append_right xs ys x member)

-- the value of a function at a member is a member of its values
pub IsMember-map : {X Y : Type 0} (f : X → Y) (xs : List X) (x : X) → IsMember xs x → IsMember (map f xs) (f x)
IsMember-map f [] x member = absurd member
IsMember-map f (y ∷ xs) x (inl same) = inl (ap f same)
IsMember-map f (y ∷ xs) x (inr later) = inr (IsMember-map f xs x later)

-- a member of the values of a function is its value at a member
pub IsMember-from_map : {X Y : Type 0} (f : X → Y) (xs : List X) (y : Y) → IsMember (map f xs) y → (x : X) × IsMember xs x × (f x ≡ y)
IsMember-from_map f [] y member = absurd member
IsMember-from_map f (x ∷ xs) y (inl same) = (x, inl refl, same)
IsMember-from_map f (x ∷ xs) y (inr later) = let found = IsMember-from_map f xs y later in (found.0, inr found.1, found.2)

-- a member that passes the test is kept
pub IsMember-filter : {X : Type 0} (p : X → Bool) (xs : List X) (x : X) → IsMember xs x → IsTrue (p x) → IsMember (filter p xs) x
IsMember-filter p [] x member passes = absurd member
IsMember-filter p (y ∷ ys) x (inl same) passes = subst (λ kept. IsMember kept x) (sym (cond-true (p y) _ _ (ap p same ∙ passes))) (inl same)
IsMember-filter p (y ∷ ys) x (inr later) passes =
    let rest = IsMember-filter p ys x later passes in
    cond_both (p y) (y ∷ filter p ys) (filter p ys) (λ kept. IsMember kept x) (λ _. inr rest) (λ _. rest)

-- what is kept is a member that passes the test
pub IsMember-from_filter : {X : Type 0} (p : X → Bool) (xs : List X) (x : X) → IsMember (filter p xs) x → IsMember xs x × IsTrue (p x)
IsMember-from_filter p [] x = λ member. absurd member
IsMember-from_filter p (y ∷ ys) x =
    let rest : IsMember (filter p ys) x → IsMember (y ∷ ys) x × IsTrue (p x) =
    λ later. let kept = IsMember-from_filter p ys x later in (inr kept.0, kept.1) in
    cond_both (p y) (y ∷ filter p ys) (filter p ys)
    (λ kept. IsMember kept x → IsMember (y ∷ ys) x × IsTrue (p x))
    (λ passes. ⊎_elim (λ same. (inl same, ap p (sym same) ∙ passes)) rest)
    (λ _. rest)

-- a member of what a function gives comes from a member
pub IsMember-from_filter_map : {X Y : Type 0} (h : X → Option Y) (xs : List X) (y : Y) → IsMember (filter_map h xs) y
    → (x : X) × IsMember xs x × (h x ≡ Some y)
IsMember-from_filter_map h [] y = λ member. absurd member
IsMember-from_filter_map {X} {Y} h (x ∷ xs) y =
    let Found : Type 0 = (z : X) × IsMember (x ∷ xs) z × (h z ≡ Some y) in
    let rest : IsMember (filter_map h xs) y → Found = λ later. let found = IsMember-from_filter_map h xs y later in (found.0, inr found.1, found.2) in
    (elim (h x) as (λ o. h x ≡ o → IsMember (cons_option o (filter_map h xs)) y → Found)
    [ None ↦ λ _. rest | Some z ↦ λ here. ⊎_elim (λ same. (x, inl refl, here ∙ ap Some same)) rest ])
    refl

-- a list with a member is not empty
pub length_member : {X : Type 0} (xs : List X) (x : X) → IsMember xs x → IsTrue (nat_lt 0 (length xs))
length_member [] x member = absurd member
length_member (y ∷ ys) x member = lt-ltb 0 (length (y ∷ ys)) (omega arith)

-- and one that is not empty has a member
pub member_length : {X : Type 0} (xs : List X) → IsTrue (nat_lt 0 (length xs)) → (x : X) × IsMember xs x
member_length [] some = absurd (false≢true some)
member_length (x ∷ xs) some = (x, inl refl)

-- ---- filters

-- filters that agree at each member keep the same
pub filter_agree : {X : Type 0} (p q : X → Bool) (xs : List X) → ((x : X) → IsMember xs x → p x ≡ q x) → filter p xs ≡ filter q xs
filter_agree p q [] agree = refl
filter_agree p q (x ∷ xs) agree = ap₂ (λ b kept. cond b (x ∷ kept) kept) (agree x (inl refl)) (filter_agree p q xs (λ y later. agree y (inr later)))

-- a filter that each member passes keeps all
pub filter_all : {X : Type 0} (p : X → Bool) (xs : List X) → ((x : X) → IsMember xs x → IsTrue (p x)) → filter p xs ≡ xs
filter_all p [] each = refl
filter_all p (x ∷ xs) each = let rest = filter_all p xs (λ y later. each y (inr later)) in let here = each x (inl refl) in grind arith

-- and one that each fails keeps none
pub filter_none : {X : Type 0} (p : X → Bool) (xs : List X) → ((x : X) → IsMember xs x → IsFalse (p x)) → filter p xs ≡ []
filter_none p [] each = refl
filter_none p (x ∷ xs) each = let rest = filter_none p xs (λ y later. each y (inr later)) in let here = each x (inl refl) in grind arith

-- a narrower filter that drops a member which the wider one keeps, keeps fewer
pub length-filter_fewer : {X : Type 0} (p q : X → Bool) (xs : List X) (x : X) → ((y : X) → q y ≡ true → p y ≡ true) → IsMember xs x → p x ≡ true → q x ≡ false
    → length (filter q xs) < length (filter p xs)
length-filter_fewer p q [] x wider member passes fails = absurd member
length-filter_fewer {X} p q (y ∷ xs) x wider (inl same) passes fails =
    let rest = length-filter_wider q p wider xs in
    let first : p y ≡ true = ap p same ∙ passes in
    let second : q y ≡ false = ap q same ∙ fails in
    let P : Bool → Bool → Type 0 = λ a b. length (cond b (y ∷ filter q xs) (filter q xs)) < length (cond a (y ∷ filter p xs) (filter p xs)) in
    subst (λ a. P a (q y)) (sym first) (subst (λ b. P true b) (sym second) (omega (arith, rest)))
length-filter_fewer {X} p q (y ∷ xs) x wider (inr later) passes fails =
    let rest = length-filter_fewer p q xs x wider later passes fails in
    by_cases (p y) (q y) (wider y) rest
  where
    by_cases : (a b : Bool) → (b ≡ true → a ≡ true) → length (filter q xs) < length (filter p xs)
        → length (cond b (y ∷ filter q xs) (filter q xs)) < length (cond a (y ∷ filter p xs) (filter p xs))
    by_cases true true up rest = omega (arith, rest)
    by_cases true false up rest = omega (arith, rest)
    by_cases false false up rest = rest
    by_cases false true up rest = absurd (false≢true (up refl))

-- ---- tests over a list

-- some member passes
pub list_any-member : {X : Type 0} (p : X → Bool) (xs : List X) → IsTrue (list_any p xs) → (x : X) × IsMember xs x × IsTrue (p x)
list_any-member p [] some = absurd (false≢true some)
list_any-member p (x ∷ xs) some =
    ⊎_elim (λ here. (x, inl refl, here)) (λ later. let found = list_any-member p xs later in (found.0, inr found.1, found.2))
    (or_cases (p x) (list_any p xs) some)

-- a member that passes is some
pub member-list_any : {X : Type 0} (p : X → Bool) (xs : List X) (x : X) → IsMember xs x → IsTrue (p x) → IsTrue (list_any p xs)
member-list_any p [] x member passes = absurd member
member-list_any p (y ∷ ys) x (inl same) passes = or_left (p y) (list_any p ys) (ap p same ∙ passes)
member-list_any p (y ∷ ys) x (inr later) passes = or_right (p y) (list_any p ys) (member-list_any p ys x later passes)

-- where none passes, no member does
pub list_any-false : {X : Type 0} (p : X → Bool) (xs : List X) (x : X) → IsFalse (list_any p xs) → IsMember xs x → IsFalse (p x)
list_any-false p [] x none member = absurd member
list_any-false p (y ∷ ys) x none (inl same) = let here = ap p same in grind arith
list_any-false p (y ∷ ys) x none (inr later) = list_any-false p ys x (grind arith) later

-- where all pass, each member does
pub list_all-member : {X : Type 0} (p : X → Bool) (xs : List X) (x : X) → IsTrue (list_all p xs) → IsMember xs x → IsTrue (p x)
list_all-member p [] x all member = absurd member
list_all-member p (y ∷ ys) x all (inl same) = ap p (sym same) ∙ (and_parts (p y) (list_all p ys) all).0
list_all-member p (y ∷ ys) x all (inr later) = list_all-member p ys x (and_parts (p y) (list_all p ys) all).1 later

-- all pass where each member does
pub list_all-from_members : {X : Type 0} (p : X → Bool) (xs : List X) → ((x : X) → IsMember xs x → IsTrue (p x)) → IsTrue (list_all p xs)
list_all-from_members p [] each = refl
list_all-from_members p (x ∷ xs) each =
    and_from (p x) (list_all p xs) (each x (inl refl)) (list_all-from_members p xs (λ y later. each y (inr later)))

-- tests that agree at each member pass alike
pub list_any_agree : {X : Type 0} (p q : X → Bool) (xs : List X) → ((x : X) → IsMember xs x → p x ≡ q x) → list_any p xs ≡ list_any q xs
list_any_agree p q [] agree = refl
list_any_agree p q (x ∷ xs) agree = ap₂ (λ a b. a || b) (agree x (inl refl)) (list_any_agree p q xs (λ y later. agree y (inr later)))

-- ---- the first that passes

-- tests that agree at each member find the same
pub find_agree_members : {X : Type 0} (p q : X → Bool) (xs : List X) → ((x : X) → IsMember xs x → p x ≡ q x) → find p xs ≡ find q xs
find_agree_members p q [] agree = refl
find_agree_members p q (x ∷ xs) agree =
    let here = agree x (inl refl) in let rest = find_agree_members p q xs (λ y later. agree y (inr later)) in grind arith

-- what is found is a member that passes
pub find-Some : {X : Type 0} (p : X → Bool) (xs : List X) (x : X) → find p xs ≡ Some x → IsMember xs x × IsTrue (p x)
find-Some p [] x = λ found. absurd (none-some x found)
find-Some p (y ∷ ys) x =
    cond_both (p y) (Some y) (find p ys)
    (λ o. o ≡ Some x → IsMember (y ∷ ys) x × IsTrue (p x))
    (λ passes found. let same : y ≡ x = cc in (inl same, ap p (sym same) ∙ passes))
    (λ _ found. let later = find-Some p ys x found in (inr later.0, later.1))

-- where nothing is found, each member fails
pub find-None : {X : Type 0} (p : X → Bool) (xs : List X) (x : X) → find p xs ≡ None → IsMember xs x → IsFalse (p x)
find-None p [] x none member = absurd member
find-None p (y ∷ ys) x none (inl same) = let here = ap p same in grind arith
find-None p (y ∷ ys) x none (inr later) = find-None p ys x (grind arith) later

-- what a value satisfies may be weakened
pub IsSomeAnd-weaker : {X : Type 0} (o : Option X) (P Q : X → Type 0) → ((x : X) → P x → Q x) → IsSomeAnd o P → IsSomeAnd o Q
IsSomeAnd-weaker None P Q follows some = some
IsSomeAnd-weaker (Some x) P Q follows some = follows x some

-- ---- members in an order

-- each member stands in the relation to each later one
abbrev pub IsPairwise : {X : Type 0} → (X → X → Type 0) → List X → Type 0
IsPairwise R [] = ⊤
IsPairwise {X} R (x ∷ xs) = ((y : X) → IsMember xs y → R x y) × IsPairwise R xs

-- another relation that follows from it, member by member
pub IsPairwise-weaker : {X : Type 0} (R S : X → X → Type 0) (xs : List X) → IsPairwise R xs
    → ((x y : X) → IsMember xs x → IsMember xs y → R x y → S x y) → IsPairwise S xs
IsPairwise-weaker R S [] pairs follows = tt
IsPairwise-weaker R S (x ∷ xs) pairs follows = (
  λ y later. follows x y (inl refl) (inr later) (pairs.0 y later),
  IsPairwise-weaker R S xs pairs.1 (λ y z left right. follows y z (inr left) (inr right)),
)

-- what is kept keeps its order
pub IsPairwise-filter : {X : Type 0} (R : X → X → Type 0) (p : X → Bool) (xs : List X) → IsPairwise R xs → IsPairwise R (filter p xs)
IsPairwise-filter R p [] pairs = tt
IsPairwise-filter R p (x ∷ xs) pairs =
    let rest = IsPairwise-filter R p xs pairs.1 in
    cond_both (p x) (x ∷ filter p xs) (filter p xs) (IsPairwise R)
    (λ _. (λ y kept. pairs.0 y (IsMember-from_filter p xs y kept).0, rest))
    (λ _. rest)

-- the values of a function at members in order
pub IsPairwise-map : {X Y : Type 0} (R : Y → Y → Type 0) (f : X → Y) (xs : List X) → IsPairwise (λ x y. R (f x) (f y)) xs → IsPairwise R (map f xs)
IsPairwise-map R f [] pairs = tt
IsPairwise-map R f (x ∷ xs) pairs =
    (λ y member. let found = IsMember-from_map f xs y member in subst (R (f x)) found.2 (pairs.0 found.0 found.1), IsPairwise-map R f xs pairs.1)

-- where each member but the last fails, the last decides
pub list_any-last : {X : Type 0} (p : X → Bool) (xs : List X) → IsPairwise (λ x y. IsFalse (p x)) xs
    → list_any p xs ≡ option_map_or p (last_or None xs) false
list_any-last p [] fails = refl
list_any-last p (x ∷ []) fails = elim (p x) as (λ b. (b || false) ≡ b) [ true ↦ refl | false ↦ refl ]
list_any-last p (x ∷ y ∷ xs) fails = ap (λ b. b || list_any p (y ∷ xs)) (fails.0 y (inl refl)) ∙ list_any-last p (y ∷ xs) fails.1
