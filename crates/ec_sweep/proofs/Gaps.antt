-- Lists that ascend by a key, cut where the key passes a number: all that is left has a greater key, and where what is left
-- begins at another number, no key lies between the two.
use Rattle.std.proofs.Common.{zero, suc, ◌≡◌, ◌⊎◌, ◌≤ℤ◌, ◌<ℤ◌, ℕ, ℤ, Bool, true, false, List, [], ◌∷◌, length, filter, refl, sym, ap, subst, ◌∙◌, inl, inr, ⊎_elim, arith}
use Rattle.std.specs.Prelude.{int_le, drop}
use Rattle.std.specs.List.{list_all}
use Rattle.std.proofs.lemmas.Bool.{and_from, cases_Bool, cond-true, false≢true, false_from_ne_true}
use Rattle.std.proofs.lemmas.Int.{by_lt_z, ints}
use Rattle.ec_lists.proofs.Integers.{int_le-from, int_le-is, int_le-not_before, int_lt-from}
use Rattle.ec_lists.proofs.Tests.{list_all-weaker}
use Rattle.ec_rows.specs.Ordered.{is_ascending}
use Rattle.ec_rows.proofs.OrderedLemmas.{ascending-first, ascending-rest}
use Rattle.ec_axioms.proofs.Members.{IsMember, IsMember-filter, IsPairwise, filter_agree, filter_none, list_all-from_members, list_all-member}
use Rattle.ec_sweep.proofs.Firsts.{list_all-from_first}

-- each key is no greater than those behind it
abbrev pub ascends_by : {X : Type 0} → (X → ℤ) → List X → Bool
ascends_by key xs = is_ascending (λ x y. int_le (key x) (key y)) xs

-- ---- lists that ascend

-- a list in an order that goes by the key ascends by it
pub ascends_by-order : {X : Type 0} (before : X → X → Bool) (key : X → ℤ) → ((x y : X) → before x y ≡ true → int_le (key x) (key y) ≡ true)
    → (xs : List X) → is_ascending before xs ≡ true → ascends_by key xs ≡ true
unfolding is_ascending
ascends_by-order before key grows [] ascending = refl
ascends_by-order before key grows (x ∷ xs) ascending =
    and_from (list_all (λ y. int_le (key x) (key y)) xs) (ascends_by key xs)
    (list_all-weaker (before x) (λ y. int_le (key x) (key y)) (grows x) xs (ascending-first before x xs ascending))
    (ascends_by-order before key grows xs (ascending-rest before x xs ascending))

-- and so does a list of which each two members go by the key
pub ascends_by-pairs : {X : Type 0} (related : X → X → Type 0) (key : X → ℤ) → ((x y : X) → related x y → int_le (key x) (key y) ≡ true)
    → (xs : List X) → IsPairwise related xs → ascends_by key xs ≡ true
unfolding is_ascending
ascends_by-pairs related key grows [] pairs = refl
ascends_by-pairs related key grows (x ∷ xs) pairs =
    and_from (list_all (λ y. int_le (key x) (key y)) xs) (ascends_by key xs)
    (list_all-from_members (λ y. int_le (key x) (key y)) xs (λ y member. grows x y (pairs.0 y member)))
    (ascends_by-pairs related key grows xs pairs.1)

-- ---- the cut

-- the members of a list in order have no lesser key than the first
key-first : {X : Type 0} (key : X → ℤ) (y : X) (ys : List X) → ascends_by key (y ∷ ys) ≡ true → (x : X) → IsMember (y ∷ ys) x → key y ≤ℤ key x
key-first key y ys ascending x member =
    int_le-is (key y) (key x)
    (list_all-member (λ z. int_le (key y) (key z)) (y ∷ ys) x (list_all-from_first (λ a b. int_le (key a) (key b)) key (λ a b le. le) y ys ascending) member)

-- where some are in front of the cut, the first is, and the others are counted behind it
first_in_front : {X : Type 0} (key : X → ℤ) (r : ℤ) (y : X) (ys : List X) (n : ℕ) → ascends_by key (y ∷ ys) ≡ true
    → suc n ≡ length (filter (λ x. int_le (key x) r) (y ∷ ys)) → (key y ≤ℤ r) × (n ≡ length (filter (λ x. int_le (key x) r) ys))
first_in_front {X} key r y ys n ascending is =
    ⊎_elim
    (λ front.
    let counted : suc n ≡ length (y ∷ filter (λ x. int_le (key x) r) ys) = is ∙ ap length (cond-true (int_le (key y) r) _ _ front) in
    (int_le-is (key y) r front, one_less n (length (filter (λ x. int_le (key x) r) ys)) counted))
    (λ behind. absurd (none_counted n (is ∙ ap length (filter_none (λ x. int_le (key x) r) (y ∷ ys) (all_behind behind)))))
    (cases_Bool (int_le (key y) r))
  where
    one_less : (m k : ℕ) → suc m ≡ suc k → m ≡ k
    one_less m k same = omega arith

    none_counted : (m : ℕ) → suc m ≡ 0 → ⊥
    none_counted m same = omega arith

    all_behind : int_le (key y) r ≡ false → (x : X) → IsMember (y ∷ ys) x → int_le (key x) r ≡ false
    all_behind behind x member =
        false_from_ne_true (int_le (key x) r)
        (λ front.
        let within : key x ≤ℤ r = int_le-is (key x) r front in
        let later : key y ≤ℤ key x = key-first key y ys ascending x member in
        false≢true (sym behind ∙ int_le-from (key y) r (omega (arith, ints, within, later))))

-- where none is in front of the cut, all are behind it
none_in_front : {X : Type 0} (key : X → ℤ) (r : ℤ) (xs : List X) → 0 ≡ length (filter (λ x. int_le (key x) r) xs) → (x : X) → IsMember xs x → r <ℤ key x
none_in_front key r xs is x member =
    by_lt_z r (key x) (λ behind. behind)
    (λ front.
    absurd (no_member (filter (λ y. int_le (key y) r) xs) x (sym is) (IsMember-filter (λ y. int_le (key y) r) xs x member (int_le-from (key x) r front))))
  where
    no_member : {X : Type 0} (ys : List X) (y : X) → length ys ≡ 0 → IsMember ys y → ⊥
    no_member [] y none there = there
    no_member (z ∷ ys) y none there = omega arith

-- what is left behind the cut has a greater key
pub key-behind : {X : Type 0} (key : X → ℤ) (r : ℤ) (xs : List X) (n : ℕ) → ascends_by key xs ≡ true → n ≡ length (filter (λ x. int_le (key x) r) xs)
    → (x : X) → IsMember (drop n xs) x → r <ℤ key x
key-behind key r [] zero ascending is x member = absurd member
key-behind key r [] (suc n) ascending is x member = absurd member
key-behind key r (y ∷ ys) zero ascending is x member = none_in_front key r (y ∷ ys) is x member
key-behind key r (y ∷ ys) (suc n) ascending is x member =
    key-behind key r ys n (ascending-rest (λ a b. int_le (key a) (key b)) y ys ascending) (first_in_front key r y ys n ascending is).1 x member

-- where nothing that is left has a key less than t, no key lies between
pub key-apart : {X : Type 0} (key : X → ℤ) (r t : ℤ) (xs : List X) (n : ℕ) → ascends_by key xs ≡ true → n ≡ length (filter (λ x. int_le (key x) r) xs)
    → list_all (λ x. int_le t (key x)) (drop n xs) ≡ true → (x : X) → IsMember xs x → (key x ≤ℤ r) ⊎ (t ≤ℤ key x)
key-apart key r t [] n ascending is from x member = absurd member
key-apart key r t (y ∷ ys) zero ascending is from x member = inr (int_le-is t (key x) (list_all-member (λ z. int_le t (key z)) (y ∷ ys) x from member))
key-apart key r t (y ∷ ys) (suc n) ascending is from x (inl same) = inl (subst (λ z. key z ≤ℤ r) same (first_in_front key r y ys n ascending is).0)
key-apart key r t (y ∷ ys) (suc n) ascending is from x (inr later) =
    key-apart key r t ys n (ascending-rest (λ a b. int_le (key a) (key b)) y ys ascending) (first_in_front key r y ys n ascending is).1 from x later

-- so as many are counted up to any number between
pub counted-between : {X : Type 0} (key : X → ℤ) (r s t : ℤ) (xs : List X) → r ≤ℤ s → s <ℤ t → ((x : X) → IsMember xs x → (key x ≤ℤ r) ⊎ (t ≤ℤ key x))
    → length (filter (λ x. int_le (key x) r) xs) ≡ length (filter (λ x. int_le (key x) s) xs)
counted-between {X} key r s t xs within before apart = ap length (filter_agree (λ x. int_le (key x) r) (λ x. int_le (key x) s) xs same)
  where
    same : (x : X) → IsMember xs x → int_le (key x) r ≡ int_le (key x) s
    same x member =
        ⊎_elim
        (λ front. int_le-from (key x) r front ∙ sym (int_le-from (key x) s (omega (arith, ints, front, within))))
        (λ behind.
        int_le-not_before r (key x) (int_lt-from r (key x) (omega (arith, ints, behind, within, before)))
        ∙ sym (int_le-not_before s (key x) (int_lt-from s (key x) (omega (arith, ints, behind, before)))))
        (apart x member)
