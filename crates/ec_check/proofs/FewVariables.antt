-- Where the variables of places are numbered without a gap, at most 16 are different exactly where all are below 16.
use Rattle.std.proofs.Common.{◌≡◌, ℕ, ◌+◌, ◌<◌, ◌≤◌, zero, suc, Bool, true, false, cond, ◌&&◌, ◌||◌, eqb, ltb, List, [], ◌∷◌, ◌++◌, length, refl, sym, ap, ◌∙◌, subst, arith, ◌⊎◌, inl, inr, ⊎_elim, eqb-true}
use Rattle.std.specs.Prelude.{nat_eq}
use Rattle.std.specs.List.{list_all, list_any, flat_map, IsDistinct, AllByRecursion}
use Rattle.std.specs.Set.{is_member, distinct_count}
use Rattle.std.proofs.lemmas.Bool.{and_parts, and_from, cases_eq, cases_lt, eq-eqb, ltb-true, lt-ltb, leb-true, le-leb, or_cases, false≢true, false_from_ne_true}
use Rattle.std.proofs.lemmas.Cmp.{nat_eq_equiv}
use Rattle.std.proofs.lemmas.List.Folds.{list_all-append}
use Rattle.std.proofs.lemmas.Map.Made.{length-from_keys}
use Rattle.std.proofs.Math.Bool.{and_assoc, or-true}
use Rattle.ec_lists.proofs.Booleans.{Bool-from_both}
use Rattle.ec_terms.specs.declared.pattern.PatArg.{PatArg}
use Rattle.ec_terms.specs.declared.pattern.PatArg.TheVariants.{Var, Any, Fixed}
use Rattle.ec_terms.specs.declared.theory.Test.{Test}
use Rattle.ec_terms.specs.declared.theory.Literal.{Literal}
use Rattle.ec_terms.specs.declared.theory.Rule.{Rule}
use Rattle.ec_terms.specs.declared.theory.Exclusive.{Exclusive}
use Rattle.ec_terms.specs.Binding.{is_small_place, stands_at}
use Rattle.ec_check.specs.Faults.{each_open, rule_places, exclusive_places, variables_in, has_few_variables}
use Rattle.ec_check.specs.Numbering.{AreWithoutGap}

-- ---- the numbers below a number

below : ℕ → List ℕ
below zero = []
below (suc n) = n ∷ below n

length-below : (n : ℕ) → length (below n) ≡ n
unfolding below
length-below zero = refl
length-below (suc n) = ap suc (length-below n)

below-apart : (m n : ℕ) → n ≤ m → AllByRecursion (λ y. nat_eq m y ≡ false) (below n)
unfolding below
below-apart m zero less = tt
below-apart m (suc n) less = (false_from_ne_true (eqb m n) (λ same. let e = eqb-true m n same in absurd (omega arith)), below-apart m n (omega arith))

below-distinct : (n : ℕ) → IsDistinct nat_eq (below n)
unfolding below IsDistinct
below-distinct zero = tt
below-distinct (suc n) = (below-apart n n (omega arith), below-distinct n)

is_member-below : (n q : ℕ) → q < n → is_member nat_eq (below n) q ≡ true
unfolding below
is_member-below zero q less = absurd (omega arith)
is_member-below (suc n) q less =
    ⊎_elim (λ same. ap (λ b. b || is_member nat_eq (below n) q) (eq-eqb q n same))
    (λ other. let there = is_member-below n q (omega arith) in rw there (or-true (eqb q n)))
    (cases_eq q n)

below-is_member : (n q : ℕ) → is_member nat_eq (below n) q ≡ true → q < n
unfolding below
below-is_member zero q there = absurd (false≢true there)
below-is_member (suc n) q there =
    ⊎_elim (λ same. let e = eqb-true q n same in omega arith) (λ later. let less = below-is_member n q later in omega arith) (or_cases (eqb q n) (is_member nat_eq (below n) q) there)

-- ---- the variables of places

-- one more than the greatest variable
larger : ℕ → ℕ → ℕ
larger a b = cond (ltb a b) b a

bound : List PatArg → ℕ
bound [] = 0
bound (Var v ∷ places) = larger (v + 1) (bound places)
bound (Any ∷ places) = bound places
bound (Fixed a ∷ places) = bound places

module _ (a b : ℕ) where
  larger-left : a ≤ larger a b
  unfolding larger
  larger-left = by_test (ltb a b) refl
    where
      by_test : (t : Bool) → ltb a b ≡ t → a ≤ cond t b a
      by_test true less = let l = ltb-true a b less in omega arith
      by_test false less = omega arith

  larger-right : b ≤ larger a b
  unfolding larger
  larger-right = by_test (ltb a b) refl
    where
      by_test : (t : Bool) → ltb a b ≡ t → b ≤ cond t b a
      by_test true less = omega arith
      by_test false less = ⊎_elim (λ l. absurd (false≢true (sym less ∙ lt-ltb a b l))) (λ g. g) (cases_lt a b)

  larger-either : (larger a b ≡ a) ⊎ (larger a b ≡ b)
  unfolding larger
  larger-either = by_test (ltb a b)
    where
      by_test : (t : Bool) → (cond t b a ≡ a) ⊎ (cond t b a ≡ b)
      by_test true = inr refl
      by_test false = inl refl

-- a variable that stands is below the bound
stands-below : (places : List PatArg) (v : ℕ) → list_any (stands_at v) places ≡ true → v < bound places
unfolding bound
stands-below [] v there = absurd (false≢true there)
stands-below (Var w ∷ places) v there =
    ⊎_elim (λ same. let e = eqb-true w v same in let l = larger-left (w + 1) (bound places) in omega arith)
    (λ later. let less = stands-below places v later in let l = larger-right (w + 1) (bound places) in omega arith)
    (or_cases (eqb w v) (list_any (stands_at v) places) there)
stands-below (Any ∷ places) v there = stands-below places v there
stands-below (Fixed a ∷ places) v there = stands-below places v there

-- and the greatest one stands
greatest-stands : (places : List PatArg) (v : ℕ) → bound places ≡ v + 1 → list_any (stands_at v) places ≡ true
unfolding bound
greatest-stands [] v is = absurd (omega arith)
greatest-stands (Var w ∷ places) v is =
    ⊎_elim (λ left. let e : w ≡ v = omega (arith, left, is) in ap (λ b. b || list_any (stands_at v) places) (eq-eqb w v e))
    (λ right. let there = greatest-stands places v (sym right ∙ is) in rw there (or-true (eqb w v)))
    (larger-either (w + 1) (bound places))
greatest-stands (Any ∷ places) v is = greatest-stands places v is
greatest-stands (Fixed a ∷ places) v is = greatest-stands places v is

-- where there is no gap, each number below the bound stands
below-stands : (places : List PatArg) → AreWithoutGap places → (v : ℕ) → v < bound places → list_any (stands_at v) places ≡ true
below-stands places full v less = by_bound (bound places) refl less
  where
    by_bound : (n : ℕ) → bound places ≡ n → v < n → list_any (stands_at v) places ≡ true
    by_bound zero is less = absurd (omega arith)
    by_bound (suc n) is less =
        let top = greatest-stands places n (is ∙ omega arith) in
        ⊎_elim (λ same. subst (λ x. list_any (stands_at x) places ≡ true) (sym same) top) (λ other. full n v top (omega arith)) (cases_eq v n)

-- a variable is among the variables of places exactly where it stands
is_member-variables : (places : List PatArg) (q : ℕ) → is_member nat_eq (variables_in places) q ≡ list_any (stands_at q) places
unfolding variables_in
is_member-variables [] q = refl
is_member-variables (Var v ∷ places) q = ap (λ b. b || is_member nat_eq (variables_in places) q) (nat_eq_equiv.symm q v) ∙ ap (λ b. eqb v q || b) (is_member-variables places q)
is_member-variables (Any ∷ places) q = is_member-variables places q
is_member-variables (Fixed a ∷ places) q = is_member-variables places q

-- so the different variables are as many as the bound says
distinct_count-bound : (places : List PatArg) → AreWithoutGap places → distinct_count nat_eq (variables_in places) ≡ bound places
distinct_count-bound places full =
    sym (length-from_keys nat_eq_equiv (below (bound places)) (variables_in places) (below-distinct (bound places))
    (λ q. Bool-from_both _ _ (λ there. is_member-variables places q ∙ below-stands places full q (below-is_member (bound places) q there))
    (λ there. is_member-below (bound places) q (stands-below places q (sym (is_member-variables places q) ∙ there))))) ∙ length-below (bound places)

small-bound : (places : List PatArg) → list_all is_small_place places ≡ true → bound places ≤ 16
unfolding bound
small-bound [] small = omega arith
small-bound (Var v ∷ places) small =
    let parts = and_parts _ _ small in
    let low = ltb-true v 16 parts.0 in
    let rest = small-bound places parts.1 in
    ⊎_elim (λ left. omega (arith, left, low)) (λ right. omega (arith, right, rest)) (larger-either (v + 1) (bound places))
small-bound (Any ∷ places) small = small-bound places small
small-bound (Fixed a ∷ places) small = small-bound places small

bound-small : (places : List PatArg) → bound places ≤ 16 → list_all is_small_place places ≡ true
unfolding bound
bound-small [] low = refl
bound-small (Var v ∷ places) low =
    and_from _ _ (lt-ltb v 16 (let l = larger-left (v + 1) (bound places) in omega arith)) (bound-small places (let l = larger-right (v + 1) (bound places) in omega arith))
bound-small (Any ∷ places) low = bound-small places low
bound-small (Fixed a ∷ places) low = bound-small places low

-- at most 16 different variables, exactly where all are below 16
pub few_in_places : (places : List PatArg) → AreWithoutGap places → list_all is_small_place places ≡ has_few_variables places
unfolding has_few_variables
few_in_places places full =
    let count = distinct_count-bound places full in
    Bool-from_both _ _ (λ small. le-leb _ _ (let low = small-bound places small in omega (arith, low, count)))
    (λ few. bound-small places (let low = leb-true (distinct_count nat_eq (variables_in places)) 16 few in omega (arith, low, count)))

pub few_in_exclusive : (e : Exclusive) → AreWithoutGap (exclusive_places e) → (list_all is_small_place e.left.args && list_all is_small_place e.right.args) ≡ has_few_variables (exclusive_places e)
few_in_exclusive e full = sym (list_all-append is_small_place e.left.args e.right.args) ∙ few_in_places (exclusive_places e) full

-- ---- the places of a rule

list_all-tests : (test : PatArg → Bool) (tests : List Test) → list_all test (flat_map (λ (t : Test). t.left ∷ t.right ∷ []) tests) ≡ list_all (λ (t : Test). test t.left && test t.right) tests
list_all-tests test [] = refl
list_all-tests test (t ∷ tests) = and_step (test t.left) (test t.right) (list_all-tests test tests)
  where
    and_step : (a b : Bool) {c d : Bool} → c ≡ d → (a && (b && c)) ≡ ((a && b) && d)
    and_step true b same = ap (λ x. b && x) same
    and_step false b same = refl

list_all-literals : (test : PatArg → Bool) (literals : List Literal) → list_all test (flat_map (λ (l : Literal). l.prop.args) literals) ≡ list_all (λ (l : Literal). list_all test l.prop.args) literals
list_all-literals test [] = refl
list_all-literals test (l ∷ literals) = list_all-append test l.prop.args (flat_map (λ (k : Literal). k.prop.args) literals) ∙ ap (λ b. list_all test l.prop.args && b) (list_all-literals test literals)

pub each_place : (test : PatArg → Bool) (r : Rule) → (list_all test r.event.args && each_open test r) ≡ list_all test (rule_places r)
unfolding each_open rule_places
each_place test r =
    let tests = flat_map (λ (t : Test). t.left ∷ t.right ∷ []) r.tests in
    let literals = flat_map (λ (l : Literal). l.prop.args) r.literals in
    sym (list_all-append test r.event.args (r.head.args ++ (tests ++ literals))
    ∙ ap (λ b. list_all test r.event.args && b)
    (list_all-append test r.head.args (tests ++ literals) ∙ ap (λ b. list_all test r.head.args && b) (list_all-append test tests literals ∙ ap (λ b. b && list_all test literals) (list_all-tests test r.tests) ∙ ap (λ b. list_all (λ (t : Test). test t.left && test t.right) r.tests && b) (list_all-literals test r.literals))
    ∙ sym (and_assoc (list_all test r.head.args) (list_all (λ (t : Test). test t.left && test t.right) r.tests) (list_all (λ (l : Literal). list_all test l.prop.args) r.literals))))

pub few_in_rule : (r : Rule) → AreWithoutGap (rule_places r) → (list_all is_small_place r.event.args && each_open is_small_place r) ≡ has_few_variables (rule_places r)
few_in_rule r full = each_place is_small_place r ∙ few_in_places (rule_places r) full
