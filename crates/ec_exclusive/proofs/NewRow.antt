-- A new row: its list is that of its neighbours, and they take it into theirs.
use Rattle.std.proofs.Common.{◌≡◌, ◌≢◌, ℕ, map, Bool, true, false, cond, ◌&&◌, All, IsTrue, IsSome, List, get_or, filter, Option, Some, None, is_some, refl, sym, ap, subst, ◌∙◌, ⊎_elim}
use Rattle.std.specs.Prelude.{◌==◌, option_map}
use Rattle.std.proofs.lemmas.Bool.{cases_Bool, false≢true}
use Rattle.ec_terms.specs.declared.ids.PropId.{PropId}
use Rattle.ec_terms.specs.declared.ground.Ground.{Ground}
use Rattle.ec_terms.specs.declared.theory.Theory.{Theory}
use Rattle.ec_terms.proofs.DomainLemmas.{are_exclusive-comm, are_exclusive-itself}
use Rattle.ec_lists.proofs.Booleans.{and-right}
use Rattle.ec_store.specs.Table.{KeptProp, prop_at, term_at}
use Rattle.ec_numbered.specs.PropSet.{has_number, are_ascending, with_number}
use Rattle.ec_exclusive.specs.Added.{Added, is_added, added_props, AreMutual, added_of}
use Rattle.ec_exclusive.specs.declared.rows.Row.{Row}
use Rattle.ec_exclusive.specs.Kept.{list_at, lists_of, list_with, view_of}
use Rattle.ec_exclusive.specs.declared.forms.Form.{Form}
use Rattle.ec_exclusive.specs.Forms.{forms_of, form_kept}
use Rattle.ec_exclusive.specs.Neighbours.{AreNeighbours, Neighbourhoods, both_exclusive, exclusive_at, form_at}
use Rattle.ec_exclusive.proofs.FormLemmas.{forms-with}
use Rattle.ec_numbered.specs.ByNumber.{kept_at}
use Rattle.ec_numbered.proofs.Numbers.{same_prop, has_number-filter}
use Rattle.ec_exclusive.proofs.KeptLists.{All-added_of, All-at}
use Rattle.ec_exclusive.proofs.FieldLists.{get_or-list_at}
use Rattle.ec_exclusive.proofs.Excluding.{AreListed, AreListed-more, AreMutual-more, added_props-more, are_ascending-filter}
use Rattle.ec_exclusive.proofs.RowLemmas.{is_some-rows, are_ascending-rows, forms-shown}

-- to be exclusive goes both ways
both_exclusive-comm : (theory : Theory) (p q : Option Ground) → both_exclusive theory p q ≡ both_exclusive theory q p
both_exclusive-comm theory None None = refl
both_exclusive-comm theory None (Some q) = refl
both_exclusive-comm theory (Some p) None = refl
both_exclusive-comm theory (Some p) (Some q) = are_exclusive-comm theory p q

exclusive_at-comm : (theory : Theory) (table : List KeptProp) (p q : PropId) → exclusive_at theory table p q ≡ exclusive_at theory table q p
exclusive_at-comm theory table p q = both_exclusive-comm theory (term_at p.0 table) (term_at q.0 table)

-- and nothing is exclusive to itself
both_exclusive-itself : (theory : Theory) (p : Option Ground) → both_exclusive theory p p ≡ false
both_exclusive-itself theory None = refl
both_exclusive-itself theory (Some p) = are_exclusive-itself theory p

exclusive_at-itself : (theory : Theory) (table : List KeptProp) (p : PropId) → exclusive_at theory table p p ≡ false
exclusive_at-itself theory table p = both_exclusive-itself theory (term_at p.0 table)

none-from : (o : Option (List PropId)) → is_some o ≡ false → o ≡ None
none-from None none = refl
none-from (Some ps) none = absurd (false≢true (sym none))

module _ (theory : Theory) (table : List KeptProp) (lists : List (Option Row)) (forms : List (Option Form)) (added : Neighbourhoods) (p : PropId) (own : List PropId)
    (shown : view_of lists forms ≡ added) (are : AreNeighbours theory table added) (absent : is_added p added.rows ≡ false)
    (own_is : own ≡ filter (exclusive_at theory table p) (added_props added.rows)) where
  abbrev rows : List Added
  rows = added.rows

  is : added_of (lists_of lists) ≡ rows
  is = ap (λ (v : Neighbourhoods). v.rows) shown

  forms_are : forms_of forms (added_props rows) ≡ map (form_at theory table) (added_props rows)
  forms_are = forms-shown lists forms added theory table shown are

  abbrev test : PropId → PropId → Bool
  test = exclusive_at theory table

  pub ascends-own : are_ascending own ≡ true
  ascends-own = ap are_ascending own_is ∙ are_ascending-filter (test p) (added_props rows) (are_ascending-rows lists rows is)

  listed : AreListed test (added_of (lists_of lists)) (added_props (added_of (lists_of lists)))
  listed = subst (λ rs. AreListed test rs (added_props rs)) (sym is) are.lists

  -- each neighbour is added
  pub added-own : (q : PropId) → IsTrue (has_number q.0 own) → IsSome (list_at q lists)
  added-own q there =
      let both : (test p q && has_number q.0 (added_props rows)) ≡ true = sym (ap (has_number q.0) own_is ∙ has_number-filter q (test p) (added_props rows)) ∙ there in
      is_some-rows lists rows q is ∙ and-right (test p q) (has_number q.0 (added_props rows)) both

  module _ (new : List (Option Row)) (with_own : (q : PropId) → list_at q new ≡ list_with p own q (list_at q lists)) where
    no_list : get_or (lists_of lists) p.0 None ≡ None
    no_list = get_or-list_at lists p ∙ none-from (list_at p lists) (is_some-rows lists rows p is ∙ absent)

    own_before : own ≡ filter (test p) (added_props (added_of (lists_of lists)))
    own_before = own_is ∙ ap (λ rs. filter (test p) (added_props rs)) (sym is)

    after : (q : PropId) → get_or (lists_of new) q.0 None ≡ list_with p own q (get_or (lists_of lists) q.0 None)
    after q = get_or-list_at new q ∙ with_own q ∙ ap (list_with p own q) (sym (get_or-list_at lists q))

    pub added_props-with : added_props (added_of (lists_of new)) ≡ with_number p (added_props rows)
    added_props-with =
        added_props-more test (exclusive_at-comm theory table) (exclusive_at-itself theory table) p (lists_of lists) (lists_of new) own no_list listed own_before after
        ∙ ap (λ rs. with_number p (added_props rs)) is

    pub AreMutual-with : AreMutual (added_of (lists_of new))
    AreMutual-with =
        AreMutual-more test (exclusive_at-comm theory table) (exclusive_at-itself theory table) p (lists_of lists) (lists_of new) own no_list listed own_before after

    -- each is kept
    module _ (kept : IsSome (prop_at p.0 table)) where
      abbrev IsKept : Added → Type 0
      IsKept row = IsSome (prop_at row.prop.0 table)

      kept_before : (q : PropId) (ps : List PropId) (o : Option (List PropId)) (b : Bool) → get_or (lists_of lists) q.0 None ≡ o →
          cond b (option_map (with_number p) o) o ≡ Some ps → IsSome (prop_at q.0 table)
      kept_before q ps None true was there = cc
      kept_before q ps None false was there = cc
      kept_before q ps (Some old) b was there = All-at IsKept (lists_of lists) q old (subst (All IsKept) (sym is) are.kept) was

      kept_after : (q : PropId) (ps : List PropId) → get_or (lists_of new) q.0 None ≡ Some ps → IsSome (prop_at q.0 table)
      kept_after q ps there =
          ⊎_elim (λ e. subst (λ r. IsSome (prop_at r.0 table)) (same_prop p q e) kept)
          (λ e. let rest : cond (has_number q.0 own) (option_map (with_number p) (get_or (lists_of lists) q.0 None)) (get_or (lists_of lists) q.0 None) ≡ Some ps = rw e at (sym (after q) ∙ there) in
          kept_before q ps (get_or (lists_of lists) q.0 None) (has_number q.0 own) refl rest) (cases_Bool (p.0 == q.0))

      pub AreNeighbours-with : (more : List (Option Form)) → form_kept p.0 more ≡ form_at theory table p → ((n : ℕ) → n ≢ p.0 → kept_at n more ≡ kept_at n forms) →
          AreNeighbours theory table (view_of new more)
      AreNeighbours-with more form others = record {
        kept = All-added_of IsKept (lists_of new) kept_after;
        lists = AreListed-more test (exclusive_at-comm theory table) (exclusive_at-itself theory table) p (lists_of lists) (lists_of new) own no_list listed own_before after;
        forms = subst (λ ps. forms_of more ps ≡ map (form_at theory table) ps) (sym added_props-with)
            (forms-with (form_at theory table) forms (added_props rows) forms_are p more form others);
      }
