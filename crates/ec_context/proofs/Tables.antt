-- A property more in a table and less again, and a table without the properties of some numbers.
use Rattle.std.proofs.Common.{◌≡◌, ℕ, zero, suc, Bool, true, false, cond, not, ◌&&◌, ◌||◌, List, [], ◌∷◌, ◌++◌, length, Some, None, refl, sym, ap, ap₂, ◌∙◌, ⊎_elim, arith}
use Rattle.std.specs.Prelude.{find, option_map, ◌==◌}
use Rattle.std.specs.List.{list_all, insert}
use Rattle.std.specs.declared.cmp.Ordering.{Ordering}
use Rattle.std.specs.declared.cmp.Ordering.TheVariants.{Less, Equal, Greater}
use Rattle.std.specs.Ordering.{is_lt, is_eq, ordering_reverse}
use Rattle.std.proofs.lemmas.Bool.{cases_Bool, false≢true, eqb-true, eq-eqb}
use Rattle.std.proofs.lemmas.List.Folds.{list_any-append}
use Rattle.ec_terms.specs.declared.ground.Ground.{Ground}
use Rattle.ec_terms.specs.declared.ids.PropId.{PropId}
use Rattle.ec_terms.specs.Term.{term_cmp, term_eq}
use Rattle.ec_terms.proofs.OrderLemmas.{term_cmp-total}
use Rattle.ec_rows.proofs.OrderedLemmas.{ascending-rest, with_member-front, with_member-later}
use Rattle.ec_numbered.specs.PropSet.{has_number}
use Rattle.ec_store.specs.Table.{KeptProp, prop_at, mentions_at, prop_of, prop_before, is_in_order, unmentioned, with_prop, without_prop}
use Rattle.ec_store.proofs.PropLemmas.{by_term, term_eq-is_eq, prop_at-insert}
use Rattle.ec_lists.proofs.Finds.{find-None_cons}
use Rattle.ec_lists.proofs.Numbers.{eqb_comm}
use Rattle.ec_lists.proofs.Options.{None-from_option_map}
use Rattle.ec_context.specs.Widened.{without_props}
use Rattle.ec_lists.proofs.Filters.{filter-all}

-- ---- what is not there

-- no property has a number under which nothing is kept
lacks : (id : ℕ) (ks : List KeptProp) → prop_at id ks ≡ None → list_all (λ (k : KeptProp). not (k.id == id)) ks ≡ true
lacks id [] none = refl
lacks id (k ∷ ks) none =
    let parts = find-None_cons (λ (j : KeptProp). j.id == id) k ks none in
    ap₂ (λ a b. not a && b) parts.0 (lacks id ks parts.1)

-- ---- a property more

-- a term that does not stand before another, and is not the same, stands behind it
stands_behind : (p q : Ground) → is_lt (term_cmp p q) ≡ false → term_eq p q ≡ false → is_lt (term_cmp q p) ≡ true
stands_behind p q not_before other =
    ap is_lt (term_cmp-total.antisymm q p) ∙ of (term_cmp p q) not_before (sym (term_eq-is_eq p q) ∙ other)
  where
    of : (r : Ordering) → is_lt r ≡ false → is_eq r ≡ false → is_lt (ordering_reverse r) ≡ true
    of Less first second = cc
    of Equal first second = cc
    of Greater first second = refl

-- a term that is not kept goes in at some place
placed : (id : ℕ) (term : Ground) (ks : List KeptProp) → is_in_order ks ≡ true → find (λ (k : KeptProp). term_eq k.term term) ks ≡ None →
    (i : ℕ) × (with_prop id term ks ≡ insert ks i (unmentioned id term))
placed id term [] ordered none = (zero, refl)
placed id term (k ∷ ks) ordered none =
    let parts = find-None_cons (λ (j : KeptProp). term_eq j.term term) k ks none in
    ⊎_elim
    (λ before. let later = placed id term ks (ascending-rest prop_before k ks ordered) parts.1 in
    (suc later.0, with_member-later prop_before by_term (unmentioned id term) k ks before ∙ ap (λ js. k ∷ js) later.1))
    (λ apart. (zero, with_member-front prop_before by_term (unmentioned id term) k ks (stands_behind k.term term apart parts.0) ordered))
    (cases_Bool (prop_before k (unmentioned id term)))

length-inserted : (k : KeptProp) (ks : List KeptProp) (i : ℕ) → length (insert ks i k) ≡ suc (length ks)
length-inserted k [] zero = refl
length-inserted k [] (suc i) = refl
length-inserted k (j ∷ js) zero = refl
length-inserted k (j ∷ js) (suc i) = ap suc (length-inserted k js i)

first_gone : (k : KeptProp) (ks : List KeptProp) → prop_at k.id ks ≡ None → without_prop k.id (k ∷ ks) ≡ ks
first_gone k ks none =
    ap (λ b. cond (not b) (k ∷ without_prop k.id ks) (without_prop k.id ks)) (eq-eqb k.id k.id refl)
    ∙ filter-all (λ (j : KeptProp). not (j.id == k.id)) ks (lacks k.id ks none)

without-inserted : (k : KeptProp) (ks : List KeptProp) (i : ℕ) → prop_at k.id ks ≡ None → without_prop k.id (insert ks i k) ≡ ks
without-inserted k [] zero none = first_gone k [] refl
without-inserted k [] (suc i) none = first_gone k [] refl
without-inserted k (j ∷ js) zero none = first_gone k (j ∷ js) none
without-inserted k (j ∷ js) (suc i) none =
    let parts = find-None_cons (λ (l : KeptProp). l.id == k.id) j js none in
    ap (λ b. cond (not b) (j ∷ without_prop k.id (insert js i k)) (without_prop k.id (insert js i k))) parts.0
    ∙ ap (λ ks. j ∷ ks) (without-inserted k js i parts.1)

module _ (id : ℕ) (term : Ground) (ks : List KeptProp) (ordered : is_in_order ks ≡ true) (unknown : prop_of term ks ≡ None) where
  place : (i : ℕ) × (with_prop id term ks ≡ insert ks i (unmentioned id term))
  place = placed id term ks ordered (None-from_option_map (λ (k : KeptProp). k.id) _ unknown)

  -- a term more makes the table longer by one
  pub length-with_prop : length (with_prop id term ks) ≡ suc (length ks)
  length-with_prop = ap length place.1 ∙ length-inserted (unmentioned id term) ks place.0

  -- taken out again it leaves the table as it was
  pub without-with_prop : prop_at id ks ≡ None → without_prop id (with_prop id term ks) ≡ ks
  without-with_prop free = ap (without_prop id) place.1 ∙ without-inserted (unmentioned id term) ks place.0 free

  -- and nothing mentions it
  pub mentions_at-with_prop : prop_at id ks ≡ None → mentions_at id (with_prop id term ks) ≡ Some 0
  mentions_at-with_prop free =
      ap (mentions_at id) place.1
      ∙ ap (option_map (λ (k : KeptProp). k.mentions))
      (prop_at-insert (unmentioned id term) ks place.0 id free ∙ ap (λ b. cond b (Some (unmentioned id term)) (prop_at id ks)) (eq-eqb id id refl))

-- ---- without the properties of some numbers

-- a number among others and one more
pub has_number-push : (id : ℕ) (props : List PropId) (p : PropId) → has_number id (props ++ p ∷ []) ≡ (has_number id props || (p.0 == id))
has_number-push id props p = list_any-append (λ (q : PropId). q.0 == id) props (p ∷ []) ∙ grind arith

-- without no number a table is as it is
pub without_props-none : (ks : List KeptProp) → without_props [] ks ≡ ks
without_props-none [] = refl
without_props-none (k ∷ ks) = ap (λ js. k ∷ js) (without_props-none ks)

-- without one number more it is without that and then without the others
pub without_props-push : (props : List PropId) (p : PropId) (ks : List KeptProp) →
    without_props (props ++ p ∷ []) ks ≡ without_props props (without_prop p.0 ks)
without_props-push props p [] = refl
without_props-push props p (k ∷ ks) =
    let ih = without_props-push props p ks in
    let both : has_number k.id (props ++ p ∷ []) ≡ (has_number k.id props || (k.id == p.0)) =
    has_number-push k.id props p ∙ ap (λ b. has_number k.id props || b) (eqb_comm p.0 k.id) in
    ap₂ (λ b js. cond (not b) (k ∷ js) js) both ih ∙ of (k.id == p.0) (has_number k.id props) refl refl
  where
    of : (gone among : Bool) → (k.id == p.0) ≡ gone → has_number k.id props ≡ among →
        cond (not (among || gone)) (k ∷ without_props props (without_prop p.0 ks)) (without_props props (without_prop p.0 ks))
        ≡ without_props props (cond (not gone) (k ∷ without_prop p.0 ks) (without_prop p.0 ks))
    of true true is there = refl
    of true false is there = refl
    of false true is there = ap (λ b. cond (not b) (k ∷ without_props props (without_prop p.0 ks)) (without_props props (without_prop p.0 ks))) (sym there)
    of false false is there = ap (λ b. cond (not b) (k ∷ without_props props (without_prop p.0 ks)) (without_props props (without_prop p.0 ks))) (sym there)

-- another number finds what it found
pub prop_at-without_props : (props : List PropId) (id : ℕ) (ks : List KeptProp) → has_number id props ≡ false → prop_at id (without_props props ks) ≡ prop_at id ks
prop_at-without_props props id [] other = refl
prop_at-without_props props id (k ∷ ks) other =
    let ih = prop_at-without_props props id ks other in
    ⊎_elim
    (λ gone. let apart : (k.id == id) ≡ false =
    ⊎_elim (λ same. absurd (false≢true (sym other ∙ ap (λ n. has_number n props) (sym (eqb-true k.id id same)) ∙ gone))) (λ e. e) (cases_Bool (k.id == id)) in
    ap (λ b. prop_at id (cond (not b) (k ∷ without_props props ks) (without_props props ks))) gone ∙ ih
    ∙ ap (λ b. cond b (Some k) (prop_at id ks)) (sym apart))
    (λ stays. ap (λ b. prop_at id (cond (not b) (k ∷ without_props props ks) (without_props props ks))) stays ∙ ap (λ o. cond (k.id == id) (Some k) o) ih)
    (cases_Bool (has_number k.id props))
