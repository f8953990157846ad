-- Tallies of lists: what a filter keeps, counted member by member or key by key.
use Rattle.std.proofs.Common.{◌≡◌, ℕ, ℤ, ◌+◌, ◌≤◌, Bool, true, false, List, [], ◌∷◌, ◌++◌, length, filter, flat_map, IsTrue, Decides, refl, sym, ap, ap₂, subst, ◌∙◌, inl, inr, ⊎_elim, arith}
use Rattle.std.specs.List.{sum_by, list_any, AllByRecursion, IsDistinct}
use Rattle.std.proofs.lemmas.Bool.{cases_Bool, cond-true, cond-false, false≢true}
use Rattle.std.proofs.lemmas.List.Sums.{sum_by-cons}
use Rattle.ec_axioms.proofs.Members.{IsMember}
use Rattle.std.proofs.lemmas.List.Elements.{filter-append}
use Rattle.std.proofs.lemmas.List.Concat.{length-flat_map}
use Rattle.ec_terms.specs.declared.theory.Theory.{Theory}
use Rattle.ec_terms.specs.Domain.{GroundEntry}
use Rattle.ec_axioms.specs.Plain.{events_at}
use Rattle.ec_axioms.specs.Calculus.{PlainEvent, Effect, Currency, effects_of, effects_at, is_active}

-- a filter of what a function gives for each member keeps what it keeps of each
pub filter-flat_map : {X Y : Type 0} (p : Y → Bool) (f : X → List Y) (xs : List X) → filter p (flat_map f xs) ≡ flat_map (λ x. filter p (f x)) xs
filter-flat_map p f [] = refl
filter-flat_map p f (x ∷ xs) = filter-append p (f x) (flat_map f xs) ∙ ap (λ ys. filter p (f x) ++ ys) (filter-flat_map p f xs)

-- and it keeps as many as it keeps of each, together
pub length-filter-flat_map : {X Y : Type 0} (p : Y → Bool) (f : X → List Y) (xs : List X)
    → length (filter p (flat_map f xs)) ≡ sum_by (λ x. length (filter p (f x))) xs
length-filter-flat_map p f xs = ap length (filter-flat_map p f xs) ∙ length-flat_map (λ x. filter p (f x)) xs

-- a test that passes at no member
pub list_any-never : {X : Type 0} (f : X → Bool) (xs : List X) → ((x : X) → f x ≡ false) → list_any f xs ≡ false
list_any-never f [] never = refl
list_any-never f (x ∷ xs) never = let rest = list_any-never f xs never in let here = never x in grind arith

-- ---- effects, event by event

-- the active entries of an event that pass a test
abbrev pub effects_of_event : Theory → Currency → (GroundEntry → Bool) → PlainEvent → List Effect
effects_of_event theory current wanted e = filter (is_active current) (filter (λ effect. wanted effect.entry) (effects_of theory e))

-- the effects at an instant are those of the events there, counted together
pub length-effects_at : (theory : Theory) (events : List PlainEvent) (current : Currency) (wanted : GroundEntry → Bool) (t : ℤ)
    → length (effects_at theory events current wanted t) ≡ sum_by (λ e. length (effects_of_event theory current wanted e)) (events_at t events)
unfolding effects_at
length-effects_at theory events current wanted t =
    ap (λ effects. length (filter (is_active current) effects)) (filter-flat_map (λ (effect : Effect). wanted effect.entry) (effects_of theory) (events_at t events))
    ∙ length-filter-flat_map (is_active current) (λ e. filter (λ (effect : Effect). wanted effect.entry) (effects_of theory e)) (events_at t events)

-- ---- sums

-- a sum of values that agree at each member
pub sum_by-agree : {X : Type 0} (f g : X → ℕ) (xs : List X) → ((x : X) → IsMember xs x → f x ≡ g x) → sum_by f xs ≡ sum_by g xs
sum_by-agree f g [] agree = refl
sum_by-agree f g (x ∷ xs) agree =
    sum_by-cons f x xs ∙ ap₂ (λ a b. a + b) (agree x (inl refl)) (sum_by-agree f g xs (λ y later. agree y (inr later))) ∙ sym (sum_by-cons g x xs)

-- a sum of zeros
pub sum_by-none : {X : Type 0} (f : X → ℕ) (xs : List X) → ((x : X) → IsMember xs x → f x ≡ 0) → sum_by f xs ≡ 0
sum_by-none f [] zeros = refl
sum_by-none f (x ∷ xs) zeros = sum_by-cons f x xs ∙ ap₂ (λ a b. a + b) (zeros x (inl refl)) (sum_by-none f xs (λ y later. zeros y (inr later)))

-- as many as there are members, where each counts for one or more
pub length-le_sum_by : {X : Type 0} (f : X → ℕ) (xs : List X) → ((x : X) → 1 ≤ f x) → length xs ≤ sum_by f xs
length-le_sum_by f [] each = omega arith
length-le_sum_by f (x ∷ xs) each = let rest = length-le_sum_by f xs each in let one = each x in omega (arith, sum_by-cons f x xs)

-- ---- by keys

-- one more member, counted under each key
sum_by-filter_cons : {K X : Type 0} (test : K → X → Bool) (keys : List K) (x : X) (xs : List X)
    → sum_by (λ k. length (filter (test k) (x ∷ xs))) keys ≡ length (filter (λ k. test k x) keys) + sum_by (λ k. length (filter (test k) xs)) keys
sum_by-filter_cons test [] x xs = refl
sum_by-filter_cons test (k ∷ keys) x xs =
    let rest = sum_by-filter_cons test keys x xs in
    let one = sum_by-cons (λ k. length (filter (test k) (x ∷ xs))) k keys in
    let other = sum_by-cons (λ k. length (filter (test k) xs)) k keys in grind arith

-- where each member is under one key and no more, there are as many as under each key, together
pub length-by_keys : {K X : Type 0} (test : K → X → Bool) (keys : List K) (xs : List X)
    → ((x : X) → IsMember xs x → length (filter (λ k. test k x) keys) ≡ 1) → length xs ≡ sum_by (λ k. length (filter (test k) xs)) keys
length-by_keys test keys [] one = sym (sum_by-none (λ k. length (filter (test k) [])) keys (λ k member. refl))
length-by_keys test keys (x ∷ xs) one =
    let rest = length-by_keys test keys xs (λ y later. one y (inr later)) in
    let here = one x (inl refl) in
    omega (arith, sum_by-filter_cons test keys x xs)

-- none of them is the first
filter-apart : {X : Type 0} (test : X → Bool) (xs : List X) → AllByRecursion (λ x. test x ≡ false) xs → filter test xs ≡ []
filter-apart test [] apart = refl
filter-apart test (x ∷ xs) apart = let rest = filter-apart test xs apart.1 in let here = apart.0 in grind arith

-- a member of a list without doubles stands in it once
pub length-filter_once : {X : Type 0} (eq : X → X → Bool) → ((a b : X) → Decides (eq a b) (a ≡ b)) → (xs : List X) (x : X)
    → IsDistinct eq xs → IsTrue (list_any (eq x) xs) → length (filter (eq x) xs) ≡ 1
unfolding IsDistinct
length-filter_once eq same [] x distinct there = absurd (false≢true there)
length-filter_once eq same (y ∷ ys) x distinct there =
    ⊎_elim
    (λ here.
    let none : filter (eq x) ys ≡ [] = subst (λ z. filter (eq z) ys ≡ []) (sym ((same x y).0 here)) (filter-apart (eq y) ys distinct.0) in
    ap length (cond-true (eq x y) _ _ here ∙ ap (λ rest. y ∷ rest) none))
    (λ apart.
    let later : list_any (eq x) ys ≡ true = grind arith in
    ap length (cond-false (eq x y) _ _ apart) ∙ length-filter_once eq same ys x distinct.1 later)
    (cases_Bool (eq x y))
