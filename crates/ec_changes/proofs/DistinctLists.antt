-- Lists with no member twice, by a test of sameness, and lists that have the members of another that pass a test.
use Rattle.std.proofs.Common.{◌≡◌, Bool, false, List, [], ◌∷◌, length, filter, IsTrue, IsFalse, refl, sym, subst, ◌∙◌, inl, inr, ⊎_elim}
use Rattle.std.specs.Cmp.{IsEquivalence}
use Rattle.std.specs.List.{list_any, AllByRecursion, IsDistinct}
use Rattle.std.proofs.lemmas.Bool.{cases_Bool, false≢true, false_from_ne_true}
use Rattle.std.proofs.lemmas.Map.Made.{length-from_same_keys}
use Rattle.ec_axioms.proofs.Members.{IsMember, IsMember-filter, IsMember-from_filter, IsPairwise, IsPairwise-filter, list_any-member, member-list_any}

-- each member is apart from each later one
pub IsPairwise-from_distinct : {X : Type 0} (eq : X → X → Bool) (xs : List X) → IsDistinct eq xs → IsPairwise (λ x y. IsFalse (eq x y)) xs
unfolding IsDistinct
IsPairwise-from_distinct eq [] once = tt
IsPairwise-from_distinct {X} eq (x ∷ xs) once = (apart xs once.0, IsPairwise-from_distinct eq xs once.1)
  where
    apart : (ys : List X) → AllByRecursion (λ y. eq x y ≡ false) ys → (y : X) → IsMember ys y → IsFalse (eq x y)
    apart [] all y member = absurd member
    apart (z ∷ ys) all y (inl same) = subst (λ w. IsFalse (eq x w)) same all.0
    apart (z ∷ ys) all y (inr later) = apart ys all.1 y later

-- and where that holds no member stands there twice
pub IsDistinct-from_pairwise : {X : Type 0} (eq : X → X → Bool) (xs : List X) → IsPairwise (λ x y. IsFalse (eq x y)) xs → IsDistinct eq xs
unfolding IsDistinct
IsDistinct-from_pairwise eq [] pairs = tt
IsDistinct-from_pairwise {X} eq (x ∷ xs) pairs = (all xs pairs.0, IsDistinct-from_pairwise eq xs pairs.1)
  where
    all : (ys : List X) → ((y : X) → IsMember ys y → IsFalse (eq x y)) → AllByRecursion (λ y. eq x y ≡ false) ys
    all [] apart = tt
    all (z ∷ ys) apart = (apart z (inl refl), all ys (λ y later. apart y (inr later)))

-- what is kept of such a list is one
pub IsDistinct-filter : {X : Type 0} (eq : X → X → Bool) (test : X → Bool) (xs : List X) → IsDistinct eq xs → IsDistinct eq (filter test xs)
IsDistinct-filter eq test xs once =
    IsDistinct-from_pairwise eq (filter test xs) (IsPairwise-filter (λ x y. IsFalse (eq x y)) test xs (IsPairwise-from_distinct eq xs once))

-- two members of one that pass for the same are the same
pub same_from_distinct : {X : Type 0} {eq : X → X → Bool} → IsEquivalence eq → (xs : List X) (x y : X) → IsPairwise (λ a b. IsFalse (eq a b)) xs
    → IsMember xs x → IsMember xs y → IsTrue (eq x y) → x ≡ y
same_from_distinct laws [] x y pairs left right same = absurd left
same_from_distinct laws (z ∷ xs) x y pairs (inl first) (inl second) same = sym first ∙ second
same_from_distinct {X} {eq} laws (z ∷ xs) x y pairs (inl first) (inr later) same =
    absurd (false≢true (sym (subst (λ w. IsFalse (eq w y)) first (pairs.0 y later)) ∙ same))
same_from_distinct {X} {eq} laws (z ∷ xs) x y pairs (inr later) (inl first) same =
    absurd (false≢true (sym (subst (λ w. IsFalse (eq w x)) first (pairs.0 x later)) ∙ laws.symm y x ∙ same))
same_from_distinct laws (z ∷ xs) x y pairs (inr left) (inr right) same = same_from_distinct laws xs x y pairs.1 left right same

-- A list without doubles of the members of another that pass a test has as many that pass a narrower test.
pub length-filter_listing : {X : Type 0} {eq : X → X → Bool} → IsEquivalence eq → (wide narrow : X → Bool) (xs hits : List X) → IsDistinct eq xs → IsDistinct eq hits
    → ((x : X) → IsTrue (narrow x) → IsTrue (wide x)) → ((x : X) → IsMember hits x → IsMember xs x)
    → ((x : X) → IsMember xs x → IsTrue (wide x) → IsTrue (list_any (eq x) hits)) → length (filter narrow xs) ≡ length (filter narrow hits)
length-filter_listing {X} {eq} laws wide narrow xs hits once_xs once_hits wider into all =
    length-from_same_keys laws (filter narrow xs) (filter narrow hits) (IsDistinct-filter eq narrow xs once_xs) (IsDistinct-filter eq narrow hits once_hits) same
  where
    -- what passes for a member passes for the member of the listing that is it
    over : (q : X) → IsTrue (list_any (eq q) (filter narrow xs)) → IsTrue (list_any (eq q) (filter narrow hits))
    over q there =
        let found = list_any-member (eq q) (filter narrow xs) there in
        let kept = IsMember-from_filter narrow xs found.0 found.1 in
        let hit = list_any-member (eq found.0) hits (all found.0 kept.0 (wider found.0 kept.1)) in
        let same : found.0 ≡ hit.0 = same_from_distinct laws xs found.0 hit.0 (IsPairwise-from_distinct eq xs once_xs) kept.0 (into hit.0 hit.1) hit.2 in
        member-list_any (eq q) (filter narrow hits) found.0
        (IsMember-filter narrow hits found.0 (subst (IsMember hits) (sym same) hit.1) kept.1) found.2

    back : (q : X) → IsTrue (list_any (eq q) (filter narrow hits)) → IsTrue (list_any (eq q) (filter narrow xs))
    back q there =
        let found = list_any-member (eq q) (filter narrow hits) there in
        let kept = IsMember-from_filter narrow hits found.0 found.1 in
        member-list_any (eq q) (filter narrow xs) found.0 (IsMember-filter narrow xs found.0 (into found.0 kept.0) kept.1) found.2

    same : (q : X) → list_any (eq q) (filter narrow xs) ≡ list_any (eq q) (filter narrow hits)
    same q =
        ⊎_elim
        (λ there. there ∙ sym (over q there))
        (λ absent. absent ∙ sym (false_from_ne_true (list_any (eq q) (filter narrow hits)) (λ there. false≢true (sym absent ∙ back q there))))
        (cases_Bool (list_any (eq q) (filter narrow xs)))
