-- Groups by the keys of forms: what they are when a form comes or goes, and what is found in them.
use Rattle.std.proofs.Common.{◌≡◌, ◌≢◌, ℕ, zero, suc, Bool, true, false, not, cond, ◌&&◌, ◌||◌, IsSome, List, [], ◌∷◌, Option, Some, None, is_some, refl, sym, ap, ap₂, ◌∙◌, ◌⊎◌, inl, inr, ⊎_elim, arith}
use Rattle.std.specs.Prelude.{◌==◌, option_map, bytes_eq}
use Rattle.std.specs.List.{list_any}
use Rattle.std.proofs.lemmas.Bool.{cases_Bool, false≢true, eqb-true}
use Rattle.std.proofs.lemmas.List.{get_or_past}
use Rattle.std.proofs.Math.Bool.{or-false, not-and_self}
use Rattle.ec_lists.proofs.Options.{is_some-option_map}
use Rattle.ec_lists.proofs.Numbers.{eqb-apart}
use Rattle.ec_lists.proofs.Tests.{list_any-same, list_any-map, list_any-and}
use Rattle.ec_terms.specs.declared.ids.PropId.{PropId}
use Rattle.ec_terms.specs.declared.ground.Ground.{Ground}
use Rattle.ec_terms.specs.declared.theory.Theory.{Theory}
use Rattle.ec_store.specs.Table.{KeptProp, prop_at, term_at}
use Rattle.ec_numbered.specs.ByNumber.{kept_at}
use Rattle.ec_exclusive.specs.declared.forms.Form.{Form}
use Rattle.ec_exclusive.specs.CurrentProps.{MemberForms, HasForms, AreGrouped, forms_in}
use Rattle.ec_exclusive.specs.Forms.{TermForm, form_of, form_in, form_kept, stands_under}
use Rattle.ec_exclusive.specs.Groups.{Grouped, in_group, is_among}
use Rattle.ec_exclusive.specs.Keys.{own_keys, other_keys, is_key}
use Rattle.ec_exclusive.specs.Neighbours.{both_exclusive, excludes_at, exclusive_at, form_at}
use Rattle.ec_exclusive.proofs.KeptLists.{numbered}
use Rattle.ec_exclusive.proofs.KeyLemmas.{exclusive-common}
use Rattle.ec_exclusive.proofs.FormLemmas.{form_at-term}

-- a form that is not there stands under no key
pub stands_under-none : (key : List ℕ) (o : Option TermForm) → is_some o ≡ false → stands_under key o ≡ false
stands_under-none key None none = refl
stands_under-none key (Some form) none = absurd (false≢true (sym none))

-- a kept form stands under the keys that it has
pub stands_under-form : (key : List ℕ) (n : ℕ) (forms : List (Option Form)) (form : Form) → kept_at n forms ≡ Some form → stands_under key (form_kept n forms) ≡ is_among form.keys.items key
stands_under-form key n forms form is =
    ap (λ o. stands_under key (option_map form_in o)) is ∙ list_any-map (λ (t : List ℕ). bytes_eq t key) (λ text. text.items) form.keys.items

-- the form of a member
pub kept_at-forms_in : (n : ℕ) (forms : List (Option Form)) → kept_at n (forms_in forms) ≡ form_kept n forms
kept_at-forms_in n [] = refl
kept_at-forms_in zero (form ∷ forms) = refl
kept_at-forms_in (suc n) (form ∷ forms) = kept_at-forms_in n forms

-- forms that are kept alike are shown alike
pub forms_in-same : (forms more : List (Option Form)) (set : MemberForms) → forms_in forms ≡ set → ((n : ℕ) → kept_at n more ≡ kept_at n forms) →
    (n : ℕ) → kept_at n (forms_in more) ≡ kept_at n set
forms_in-same forms more set shown same n =
    kept_at-forms_in n more ∙ ap (option_map form_in) (same n) ∙ sym (kept_at-forms_in n forms) ∙ ap (kept_at n) shown

-- another form under one number, or none
pub forms_in-other : (forms more : List (Option Form)) (set : MemberForms) (p : PropId) (o : Option TermForm) → forms_in forms ≡ set → form_kept p.0 more ≡ o →
    ((n : ℕ) → n ≢ p.0 → kept_at n more ≡ kept_at n forms) → (n : ℕ) → kept_at n (forms_in more) ≡ cond (p.0 == n) o (kept_at n set)
forms_in-other forms more set p o shown is others n =
    ⊎_elim
    (λ e. kept_at-forms_in n more ∙ ap (λ m. form_kept m more) (sym (eqb-true p.0 n e)) ∙ is ∙ sym (ap (λ b. cond b o (kept_at n set)) e))
    (λ e. kept_at-forms_in n more ∙ ap (option_map form_in) (others n (eqb-apart p.0 n e)) ∙ sym (kept_at-forms_in n forms) ∙ ap (kept_at n) shown
    ∙ sym (ap (λ b. cond b o (kept_at n set)) e))
    (cases_Bool (p.0 == n))

-- no form is kept
pub form_kept-nil : (forms : List (Option Form)) (n : ℕ) → forms ≡ [] → form_kept n forms ≡ None
form_kept-nil forms n none = ap (form_kept n) none ∙ ap (option_map form_in) (get_or_past {X = Option Form} [] n None (omega arith))

pub AreGrouped-none : (forms : List (Option Form)) (groups : List Grouped) → forms ≡ [] → groups ≡ [] → AreGrouped forms groups
AreGrouped-none forms groups no_forms no_groups = λ key n.
    ap (λ gs. in_group gs key n) no_groups ∙ sym (ap (stands_under key) (form_kept-nil forms n no_forms))

module _ (forms : List (Option Form)) (groups : List Grouped) (are : AreGrouped forms groups) where
  -- what has no form stands in no group
  pub in_group-formless : (n : ℕ) → is_some (form_kept n forms) ≡ false → (key : List ℕ) → in_group groups key n ≡ false
  in_group-formless n none key = are key n ∙ stands_under-none key (form_kept n forms) none

  -- a form more
  pub AreGrouped-with : (p : PropId) (more : List (Option Form)) (form : Form) (entered : List Grouped) → ((key : List ℕ) → in_group groups key p.0 ≡ false)
      → kept_at p.0 more ≡ Some form → ((n : ℕ) → n ≢ p.0 → kept_at n more ≡ kept_at n forms)
      → ((key : List ℕ) (n : ℕ) → in_group entered key n ≡ (((p.0 == n) && is_among form.keys.items key) || in_group groups key n)) → AreGrouped more entered
  AreGrouped-with p more form entered absent set others enters = λ key n. ⊎_elim
      (λ e. enters key n ∙ ap₂ (λ b c. (b && is_among form.keys.items key) || c) e (ap (in_group groups key) (sym (eqb-true p.0 n e)) ∙ absent key)
      ∙ or-false (is_among form.keys.items key)
      ∙ sym (stands_under-form key n more form (ap (λ m. kept_at m more) (sym (eqb-true p.0 n e)) ∙ set)))
      (λ e. enters key n ∙ ap (λ b. (b && is_among form.keys.items key) || in_group groups key n) e ∙ are key n
      ∙ sym (ap (λ o. stands_under key (option_map form_in o)) (others n (eqb-apart p.0 n e))))
      (cases_Bool (p.0 == n))

  -- a form less
  pub AreGrouped-less : (p : PropId) (less : List (Option Form)) (form : Form) (left : List Grouped) → kept_at p.0 forms ≡ Some form → kept_at p.0 less ≡ None
      → ((n : ℕ) → n ≢ p.0 → kept_at n less ≡ kept_at n forms)
      → ((key : List ℕ) (n : ℕ) → in_group left key n ≡ (not ((p.0 == n) && is_among form.keys.items key) && in_group groups key n)) → AreGrouped less left
  AreGrouped-less p less form left was gone others leaves = λ key n. ⊎_elim
      (λ e. leaves key n ∙ ap₂ (λ b c. not (b && is_among form.keys.items key) && c) e
      (are key n ∙ stands_under-form key n forms form (ap (λ m. kept_at m forms) (sym (eqb-true p.0 n e)) ∙ was))
      ∙ not-and_self (is_among form.keys.items key) ∙ sym (ap (λ o. stands_under key (option_map form_in o)) (ap (λ m. kept_at m less) (sym (eqb-true p.0 n e)) ∙ gone)))
      (λ e. leaves key n ∙ ap (λ b. not (b && is_among form.keys.items key) && in_group groups key n) e ∙ are key n
      ∙ sym (ap (λ o. stands_under key (option_map form_in o)) (others n (eqb-apart p.0 n e))))
      (cases_Bool (p.0 == n))

  -- forms and groups that say the same
  pub AreGrouped-same : (more : List (Option Form)) (other : List Grouped) → ((n : ℕ) → kept_at n more ≡ kept_at n forms)
      → ((key : List ℕ) (n : ℕ) → in_group other key n ≡ in_group groups key n) → AreGrouped more other
  AreGrouped-same more other same_forms same_groups = λ key n.
      same_groups key n ∙ are key n ∙ sym (ap (λ o. stands_under key (option_map form_in o)) (same_forms n))

  -- ---- what is found in them

  module _ (theory : Theory) (table : List KeptProp) (has : HasForms theory table (forms_in forms)) where
    -- the form that is kept under a member's number
    form-has : (q : PropId) → is_some (form_kept q.0 forms) ≡ true → form_kept q.0 forms ≡ form_at theory table q
    form-has q there = sym (kept_at-forms_in q.0 forms) ∙ has q (ap is_some (kept_at-forms_in q.0 forms) ∙ there)

    -- what stands in a group is kept
    pub in_group-known : (key : List ℕ) (n : ℕ) → in_group groups key n ≡ true → IsSome (prop_at n table)
    in_group-known key n there =
        ⊎_elim (λ yes. sym (is_some-option_map (λ (kept : KeptProp). kept.term) (prop_at n table)) ∙ sym (is_some-option_map (form_of theory) (term_at n table))
        ∙ ap is_some (sym (form-has (numbered n) yes)) ∙ yes)
        (λ no. absurd (false≢true (sym (in_group-formless n no key) ∙ there)))
        (cases_Bool (is_some (form_kept n forms)))

    module _ (term : Ground) where
      any : PropId → Bool
      any q = list_any (λ key. in_group groups key q.0) (other_keys theory.exclusives term)

      -- a member that is exclusive to the term stands in the group of a key that they share
      any-exclusive : (q : PropId) (o : Option Ground) → term_at q.0 table ≡ o → both_exclusive theory (Some term) o ≡ true → is_some (form_kept q.0 forms) ≡ true → any q ≡ true
      unfolding any
      any-exclusive q None is exclusive there = absurd (false≢true exclusive)
      any-exclusive q (Some other) is exclusive there =
          list_any-same (λ key. in_group groups key q.0) (is_key (own_keys theory.exclusives other))
          (λ key. are key q.0 ∙ ap (stands_under key) (form-has q there ∙ form_at-term theory table q other is)) (other_keys theory.exclusives term)
          ∙ exclusive-common theory term other exclusive

      any-absent : (q : PropId) → is_some (form_kept q.0 forms) ≡ false → any q ≡ false
      unfolding any
      any-absent q absent =
          list_any-same (λ key. in_group groups key q.0) (λ key. false) (λ key. in_group-formless q.0 absent key) (other_keys theory.exclusives term)
          ∙ sym (list_any-and false (λ (key : List ℕ). false) (other_keys theory.exclusives term))

      -- what is exclusive to the term and stands in such a group are the members that are exclusive to it
      pub exclusive-found : (p q : PropId) → term_at p.0 table ≡ Some term →
          (excludes_at theory table term q && list_any (λ key. in_group groups key q.0) (other_keys theory.exclusives term))
          ≡ (exclusive_at theory table p q && is_some (form_kept q.0 forms))
      unfolding any
      exclusive-found p q is =
          rest (cases_Bool (excludes_at theory table term q)) (cases_Bool (is_some (form_kept q.0 forms)))
          ∙ ap (λ t. both_exclusive theory t (term_at q.0 table) && is_some (form_kept q.0 forms)) (sym is)
        where
          rest : (excludes_at theory table term q ≡ true) ⊎ (excludes_at theory table term q ≡ false) → (is_some (form_kept q.0 forms) ≡ true) ⊎ (is_some (form_kept q.0 forms) ≡ false) →
              (excludes_at theory table term q && any q) ≡ (excludes_at theory table term q && is_some (form_kept q.0 forms))
          rest (inl excludes) (inl there) = ap (λ b. excludes_at theory table term q && b) (any-exclusive q (term_at q.0 table) refl excludes there ∙ sym there)
          rest (inl excludes) (inr absent) = ap (λ b. excludes_at theory table term q && b) (any-absent q absent ∙ sym absent)
          rest (inr other) here = ap (λ b. b && any q) other ∙ sym (ap (λ b. b && is_some (form_kept q.0 forms)) other)
