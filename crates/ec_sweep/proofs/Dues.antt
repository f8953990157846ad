-- What is due in an agenda in order: its first member, and what is left of it.
use Rattle.std.proofs.lemmas.Int.{ints}
use Rattle.std.proofs.Common.{arith, Some, option_map, slice_get, ◌≡◌, ℕ, ℤ, true, false, List, [], ◌∷◌, ◌++◌, IsTrue, refl, sym, ap, ap₂, subst, ◌∙◌, ⊎_elim, ◌||◌, ◌&&◌, not}
use Rattle.std.specs.Prelude.{◌==◌, ◌≤ℤ◌, int_le, int_lt, IsSomeAnd}
use Rattle.std.specs.Ordering.{int_eq}
use Rattle.std.proofs.lemmas.Bool.{cases_Bool, eq-eqb, false≢true}
use Rattle.std.proofs.lemmas.List.Folds.{list_any-append}
use Rattle.std.proofs.Math.Bool.{or-false, or_assoc, or-true}
use Rattle.ec_lists.proofs.Booleans.{or_second}
use Rattle.ec_lists.proofs.Integers.{int_eq-is, int_eq-same, int_le-from_lt, int_le-same, int_lt-not_le}
use Rattle.ec_lists.proofs.Tests.{list_any-none, list_all-weaker}
use Rattle.ec_lists.proofs.Booleans.{and-left}
use Rattle.ec_terms.specs.declared.ids.PropId.{PropId}
use Rattle.ec_numbered.specs.PropSet.{has_number}
use Rattle.ec_numbered.specs.Due.{Due, are_in_order, comes_before, has_due, is_due}
use Rattle.ec_sweep.proofs.Firsts.{list_all-from_first}

-- one due property comes no later than another that it stands before
pub comes_before-le : {T : Type 0} (rank : T → ℤ) (x y : Due T) → comes_before rank x y ≡ true → int_le (rank x.0) (rank y.0) ≡ true
comes_before-le rank x y before =
    ⊎_elim
    (λ less. int_le-from_lt (rank x.0) (rank y.0) less)
    (λ not_less.
    subst (λ t. int_le (rank x.0) t ≡ true) (int_eq-is (rank x.0) (rank y.0) (and-left _ _ (or_second (int_lt (rank x.0) (rank y.0)) _ not_less before))) (int_le-same (rank x.0)))
    (cases_Bool (int_lt (rank x.0) (rank y.0)))

-- nothing is due at a time that is before the first
pub has_due-before_first : {T : Type 0} (rank : T → ℤ) (t : ℤ) (n : ℕ) (x : Due T) (xs : List (Due T)) → are_in_order rank (x ∷ xs) ≡ true → int_lt t (rank x.0) ≡ true
    → has_due rank t n (x ∷ xs) ≡ false
has_due-before_first {T} rank t n x xs order before =
    list_any-none (is_due rank t n) (x ∷ xs)
    (list_all-weaker (λ (y : Due T). int_le (rank x.0) (rank y.0)) (λ y. not (is_due rank t n y)) later (x ∷ xs)
    (list_all-from_first (comes_before rank) (λ (y : Due T). rank y.0) (comes_before-le rank) x xs order))
  where
    later : (y : Due T) → int_le (rank x.0) (rank y.0) ≡ true → not (is_due rank t n y) ≡ true
    later y after =
        ⊎_elim
        (λ here.
        let no_later : int_le (rank x.0) t ≡ true = subst (λ u. int_le (rank x.0) u ≡ true) (int_eq-is (rank y.0) t here) after in
        absurd (false≢true (sym (int_lt-not_le t (rank x.0) ∙ ap not no_later) ∙ before)))
        (λ apart. ap (λ b. not (b && (y.1.0 == n))) apart)
        (cases_Bool (int_eq (rank y.0) t))

-- what is taken out at a time and what is left, with one taken out more
pub taken-more : {T : Type 0} (rank : T → ℤ) (t : ℤ) (n : ℕ) (due : List PropId) (x : Due T) (rest : List (Due T)) → int_eq (rank x.0) t ≡ true
    → (has_number n (due ++ x.1 ∷ []) || has_due rank t n rest) ≡ (has_number n due || has_due rank t n (x ∷ rest))
taken-more rank t n due x rest here =
    ap (λ b. b || has_due rank t n rest) (list_any-append (λ (p : PropId). p.0 == n) due (x.1 ∷ []) ∙ ap (λ b. has_number n due || b) (or-false (x.1.0 == n)))
    ∙ or_assoc (has_number n due) (x.1.0 == n) (has_due rank t n rest)
    ∙ ap (λ e. has_number n due || ((e && (x.1.0 == n)) || has_due rank t n rest)) (sym here)

-- at another time the agenda is the same without it
pub has_due-elsewhere : {T : Type 0} (rank : T → ℤ) (t u : ℤ) (n : ℕ) (x : Due T) (rest : List (Due T)) → rank x.0 ≡ t → int_eq u t ≡ false
    → has_due rank u n rest ≡ has_due rank u n (x ∷ rest)
has_due-elsewhere rank t u n x rest at apart =
    ⊎_elim
    (λ same. absurd (false≢true (sym apart ∙ subst (λ v. int_eq v t ≡ true) (sym at ∙ int_eq-is (rank x.0) u same) (int_eq-same t))))
    (λ other. ap (λ e. (e && (x.1.0 == n)) || has_due rank u n rest) (sym other))
    (cases_Bool (int_eq (rank x.0) u))

-- the same, where the first is known by its time alone
pub has_due-before_time : {T : Type 0} (rank : T → ℤ) (t : ℤ) (n : ℕ) (agenda : List (Due T)) (first : T) → option_map (λ (due : Due T). due.0) (slice_get agenda 0) ≡ Some first
    → are_in_order rank agenda ≡ true → int_lt t (rank first) ≡ true → has_due rank t n agenda ≡ false
has_due-before_time rank t n [] first is order before = refl
has_due-before_time rank t n (x ∷ xs) first is order before =
    let same : first ≡ x.0 = cc in
    has_due-before_first rank t n x xs order (subst (λ f. int_lt t (rank f) ≡ true) same before)

-- the first is due at a time, if it is due by then and nothing is due before
pub at-first : {T : Type 0} (rank : T → ℤ) (t : ℤ) (agenda : List (Due T)) (x : Due T) (rest : List (Due T)) → agenda ≡ x ∷ rest
    → IsSomeAnd (slice_get agenda 0) (λ due. rank due.0 ≤ℤ t) → ((n : ℕ) (u : ℤ) → IsTrue (has_due rank u n agenda) → t ≤ℤ u) → rank x.0 ≡ t
at-first rank t [] x rest is by later = cc
at-first rank t (y ∷ ys) x rest is by later =
    let same : y ≡ x = cc in
    let behind : t ≤ℤ rank y.0 = later y.1.0 (rank y.0) (ap₂ (λ a b. (a && b) || has_due rank (rank y.0) y.1.0 ys) (int_eq-same (rank y.0)) (eq-eqb y.1.0 y.1.0 refl)) in
    subst (λ z. rank z.0 ≡ t) same (omega (arith, ints, by, behind))

-- where something is first, the agenda is not empty
pub not-empty : {T : Type 0} (rank : T → ℤ) (t : ℤ) (agenda : List (Due T)) → agenda ≡ [] → IsSomeAnd (slice_get agenda 0) (λ due. rank due.0 ≤ℤ t) → ⊥
not-empty rank t [] is first = first
not-empty rank t (x ∷ xs) is first = cc

-- what is due behind the first is due
pub has_due-rest : {T : Type 0} (rank : T → ℤ) (t : ℤ) (n : ℕ) (x : Due T) (rest : List (Due T)) → has_due rank t n rest ≡ true → has_due rank t n (x ∷ rest) ≡ true
has_due-rest rank t n x rest due = ap (λ b. is_due rank t n x || b) due ∙ or-true (is_due rank t n x)
