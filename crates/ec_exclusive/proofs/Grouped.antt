-- What the groups say of the added properties, and what they are when a property comes or goes.
use Rattle.std.proofs.Common.{◌≡◌, ◌≢◌, ℕ, Bool, true, false, not, cond, ◌&&◌, ◌||◌, IsSome, List, [], filter, Option, Some, None, is_some, refl, sym, ap, subst, ◌∙◌, ⊎_elim, arith}
use Rattle.std.specs.Prelude.{◌==◌, option_map}
use Rattle.std.specs.List.{list_any}
use Rattle.std.proofs.lemmas.Bool.{cases_Bool, eqb-true}
use Rattle.std.proofs.lemmas.List.{get_or_past}
use Rattle.ec_lists.proofs.Options.{is_some-option_map}
use Rattle.ec_lists.proofs.Numbers.{eqb-apart}
use Rattle.ec_terms.specs.declared.ids.PropId.{PropId}
use Rattle.ec_terms.specs.declared.ground.Ground.{Ground}
use Rattle.ec_terms.specs.declared.theory.Theory.{Theory}
use Rattle.ec_store.specs.Table.{KeptProp, prop_at, term_at}
use Rattle.ec_numbered.specs.ByNumber.{kept_at}
use Rattle.ec_numbered.specs.PropSet.{has_number, are_ascending, with_number, without_number}
use Rattle.ec_numbered.proofs.Numbers.{same_members, has_number-filter}
use Rattle.ec_exclusive.specs.declared.forms.Form.{Form}
use Rattle.ec_exclusive.specs.declared.rows.Row.{Row}
use Rattle.ec_exclusive.specs.Added.{added_props, is_added, added_of, AreMutual}
use Rattle.ec_exclusive.specs.Forms.{form_in, form_kept}
use Rattle.ec_exclusive.specs.Groups.{Grouped, in_group, is_among}
use Rattle.ec_exclusive.specs.Keys.{other_keys}
use Rattle.ec_exclusive.specs.Kept.{numbers_in, list_at, lists_of, list_with, list_left, view_of, AreKept}
use Rattle.ec_exclusive.specs.Neighbours.{AreNeighbours, Neighbourhoods, exclusive_at, excludes_at}
use Rattle.ec_exclusive.proofs.Excluding.{are_ascending-filter}
use Rattle.ec_exclusive.specs.CurrentProps.{HasForms, forms_in}
use Rattle.ec_exclusive.proofs.Grouping.{kept_at-forms_in, in_group-formless, in_group-known, exclusive-found, AreGrouped-none, AreGrouped-with, AreGrouped-less, AreGrouped-same}
use Rattle.ec_exclusive.proofs.RowLemmas.{AreMutual-none, is_some-rows, are_ascending-rows, form-added}

-- nothing is kept
pub AreKept-none : (lists : List (Option Row)) (forms : List (Option Form)) (groups : List Grouped) → lists ≡ [] → forms ≡ [] → groups ≡ [] →
    AreKept lists forms groups
AreKept-none lists forms groups no_lists no_forms no_groups = record {
  lists = AreMutual-none lists no_lists;
  both = λ q. ap (λ fs. is_some (kept_at q.0 fs)) no_forms ∙ none q.0 ∙ sym (ap (λ ls. is_some (list_at q ls)) no_lists ∙ no_list q.0);
  grouped = AreGrouped-none forms groups no_forms no_groups;
}
  where
    none : (n : ℕ) → is_some (kept_at {X = Form} n []) ≡ false
    none n = ap (is_some {T = Form}) (get_or_past [] n None (omega arith))

    no_list : (n : ℕ) → is_some (numbers_in (kept_at {X = Row} n [])) ≡ false
    no_list n = ap (λ o. is_some (numbers_in o)) (get_or_past {X = Option Row} [] n None (omega arith))

module _ (lists : List (Option Row)) (forms : List (Option Form)) (groups : List Grouped) (kept : AreKept lists forms groups) where
  module _ (added : Neighbourhoods) (shown : view_of lists forms ≡ added) where
    rows_are : added_of (lists_of lists) ≡ added.rows
    rows_are = ap (λ (v : Neighbourhoods). v.rows) shown

    -- an added property has a form, and no other has one
    pub form_kept-there : (p : PropId) → is_some (kept_at p.0 forms) ≡ is_added p added.rows
    form_kept-there p = kept.both p ∙ is_some-rows lists added.rows p rows_are

    form-there : (p : PropId) → is_some (form_kept p.0 forms) ≡ is_added p added.rows
    form-there p = is_some-option_map form_in (kept_at p.0 forms) ∙ form_kept-there p

    -- a property that is not added stands in no group
    pub in_group-absent : (p : PropId) → is_added p added.rows ≡ false → (key : List ℕ) → in_group groups key p.0 ≡ false
    in_group-absent p absent = in_group-formless forms groups kept.grouped p.0 (form-there p ∙ absent)

    module _ (theory : Theory) (table : List KeptProp) (are : AreNeighbours theory table added) where
      has_forms : HasForms theory table (forms_in forms)
      has_forms p there =
          kept_at-forms_in p.0 forms
          ∙ form-added lists forms added p theory table shown are (sym (form-there p) ∙ ap is_some (sym (kept_at-forms_in p.0 forms)) ∙ there)

      -- what stands in a group is kept
      pub in_group-kept : (key : List ℕ) (n : ℕ) → in_group groups key n ≡ true → IsSome (prop_at n table)
      in_group-kept = in_group-known forms groups kept.grouped theory table has_forms

      -- what is found is the neighbours
      pub own-found : (term : Ground) (p : PropId) (found : List PropId) → term_at p.0 table ≡ Some term → are_ascending found ≡ true →
          ((q : PropId) → has_number q.0 found ≡ (excludes_at theory table term q && list_any (λ key. in_group groups key q.0) (other_keys theory.exclusives term))) →
          found ≡ filter (exclusive_at theory table p) (added_props added.rows)
      own-found term p found is ascending members =
          same_members found (filter (exclusive_at theory table p) (added_props added.rows)) ascending
          (are_ascending-filter (exclusive_at theory table p) (added_props added.rows) (are_ascending-rows lists added.rows rows_are))
          (λ q. members q ∙ exclusive-found forms groups kept.grouped theory table has_forms term p q is
          ∙ ap (λ b. exclusive_at theory table p q && b) (form-there q)
          ∙ sym (has_number-filter q (exclusive_at theory table p) (added_props added.rows)))

  -- ---- a property more

  is_some-with : (p q : PropId) (own : List PropId) (o : Option (List PropId)) → (p.0 == q.0) ≡ false → is_some (list_with p own q o) ≡ is_some o
  is_some-with p q own o e = ap (λ b. is_some (cond b (Some own) (cond (has_number q.0 own) (option_map (with_number p) o) o))) e ∙ inside (has_number q.0 own) o
    where
      inside : (b : Bool) (o : Option (List PropId)) → is_some (cond b (option_map (with_number p) o) o) ≡ is_some o
      inside true None = refl
      inside true (Some ps) = refl
      inside false o = refl

  pub AreKept-with : (p : PropId) (own : List PropId) (new : List (Option Row)) (more : List (Option Form)) (form : Form) (entered : List Grouped) →
      AreMutual (added_of (lists_of new)) → ((key : List ℕ) → in_group groups key p.0 ≡ false) → ((q : PropId) → list_at q new ≡ list_with p own q (list_at q lists)) →
      kept_at p.0 more ≡ Some form → ((n : ℕ) → n ≢ p.0 → kept_at n more ≡ kept_at n forms) →
      ((key : List ℕ) (n : ℕ) → in_group entered key n ≡ (((p.0 == n) && is_among form.keys.items key) || in_group groups key n)) → AreKept new more entered
  AreKept-with p own new more form entered are absent with_own set others enters = record {
    lists = are;
    both = λ q. ⊎_elim
        (λ e. ap is_some (ap (λ n. kept_at n more) (sym (eqb-true p.0 q.0 e)) ∙ set) ∙ sym (ap is_some (with_own q ∙ ap (λ b. cond b (Some own) (cond (has_number q.0 own) (option_map (with_number p) (list_at q lists)) (list_at q lists))) e)))
        (λ e. ap is_some (others q.0 (eqb-apart p.0 q.0 e)) ∙ kept.both q ∙ sym (ap is_some (with_own q) ∙ is_some-with p q own (list_at q lists) e))
        (cases_Bool (p.0 == q.0));
    grouped = AreGrouped-with forms groups kept.grouped p more form entered absent set others enters;
  }

  -- ---- a property less

  is_some-left : (p q : PropId) (own : List PropId) (o : Option (List PropId)) → (q.0 == p.0) ≡ false → is_some (list_left p own q o) ≡ is_some o
  is_some-left p q own o e = ap (λ b. is_some (cond b None (cond (has_number q.0 own) (option_map (without_number p) o) o))) e ∙ inside (has_number q.0 own) o
    where
      inside : (b : Bool) (o : Option (List PropId)) → is_some (cond b (option_map (without_number p) o) o) ≡ is_some o
      inside true None = refl
      inside true (Some ps) = refl
      inside false o = refl

  pub AreKept-less : (p : PropId) (own : List PropId) (new : List (Option Row)) (less : List (Option Form)) (form : Form) (left : List Grouped) →
      AreMutual (added_of (lists_of new)) → ((q : PropId) → list_at q new ≡ list_left p own q (list_at q lists)) →
      kept_at p.0 forms ≡ Some form → kept_at p.0 less ≡ None → ((n : ℕ) → n ≢ p.0 → kept_at n less ≡ kept_at n forms) →
      ((key : List ℕ) (n : ℕ) → in_group left key n ≡ (not ((p.0 == n) && is_among form.keys.items key) && in_group groups key n)) → AreKept new less left
  AreKept-less p own new less form left are without was gone others leaves = record {
    lists = are;
    both = λ q. ⊎_elim
        (λ e. ap is_some (ap (λ n. kept_at n less) (eqb-true q.0 p.0 e) ∙ gone)
        ∙ sym (ap is_some (without q ∙ ap (λ b. cond b None (cond (has_number q.0 own) (option_map (without_number p) (list_at q lists)) (list_at q lists))) e)))
        (λ e. ap is_some (others q.0 (λ is. eqb-apart q.0 p.0 e (sym is))) ∙ kept.both q ∙ sym (ap is_some (without q) ∙ is_some-left p q own (list_at q lists) e))
        (cases_Bool (q.0 == p.0));
    grouped = AreGrouped-less forms groups kept.grouped p less form left was gone others leaves;
  }

  -- rows and groups that say the same
  pub AreKept-same : (new : List (Option Row)) (more : List (Option Form)) (other : List Grouped) → added_of (lists_of new) ≡ added_of (lists_of lists) →
      ((q : PropId) → list_at q new ≡ list_at q lists) → ((n : ℕ) → kept_at n more ≡ kept_at n forms) → ((key : List ℕ) (n : ℕ) → in_group other key n ≡ in_group groups key n) → AreKept new more other
  AreKept-same new more other rows same_lists same_forms same_groups = record {
    lists = subst AreMutual (sym rows) kept.lists;
    both = λ q. ap is_some (same_forms q.0) ∙ kept.both q ∙ sym (ap is_some (same_lists q));
    grouped = AreGrouped-same forms groups kept.grouped more other same_forms same_groups;
  }
