-- What the kept lists say of the rows that they show.
use Rattle.std.proofs.Common.{◌≡◌, ◌≢◌, ℕ, map, true, false, All, IsTrue, IsSome, List, [], length, filter, Option, Some, None, is_some, refl, sym, ap, subst, ◌∙◌}
use Rattle.std.specs.Prelude.{option_copied}
use denote.Ref.{Bor}
use Rattle.std.proofs.lemmas.Bool.{false≢true}
use Rattle.std.proofs.lemmas.List.{length-map}
use Rattle.std.proofs.lemmas.List.Elements.{All-nil, All-same, All-filter, All-map}
use Rattle.ec_terms.specs.declared.ids.PropId.{PropId}
use Rattle.ec_terms.specs.declared.theory.Theory.{Theory}
use Rattle.ec_store.specs.Table.{KeptProp, prop_at}
use Rattle.ec_numbered.specs.PropSet.{are_ascending}
use Rattle.ec_exclusive.specs.Added.{Added, is_added, added_props, neighbours_of, stands_in_list, AreMutual, without_added, added_from, added_of}
use Rattle.ec_numbered.specs.ByNumber.{kept_at}
use Rattle.ec_exclusive.specs.declared.rows.Row.{Row}
use Rattle.ec_exclusive.specs.Kept.{numbers_in, list_at, lists_of, list_left, view_of}
use Rattle.ec_exclusive.specs.declared.forms.Form.{Form}
use Rattle.ec_exclusive.specs.Forms.{forms_of, form_kept}
use Rattle.ec_exclusive.specs.Neighbours.{AreNeighbours, Neighbourhoods, exclusive_at, form_at}
use Rattle.ec_exclusive.proofs.FormLemmas.{forms_of-same, form-read, forms-without}
use Rattle.ec_exclusive.proofs.KeptLists.{are_ascending-added_of, neighbours_of-added_of, is_added-added_of, All-at, All-neighbours_of}
use Rattle.ec_exclusive.proofs.FieldLists.{get_or-list_at}
use Rattle.ec_exclusive.proofs.Leaving.{added_props-less, All-less, AreListed-less, AreMutual-less, added_of-less}

-- no rows
pub AreMutual-nil : AreMutual []
AreMutual-nil = record { by_number = All-nil (λ (row : Added). IsTrue (are_ascending row.neighbours)); not_itself = λ p. refl; both_ways = λ p q. refl }

pub added_of-nil : (lists : List (Option Row)) → lists ≡ [] → added_of (lists_of lists) ≡ []
unfolding added_from
added_of-nil lists empty = ap (λ ls. added_of (lists_of ls)) empty

-- show nothing
pub view-nil : (lists : List (Option Row)) (forms : List (Option Form)) → lists ≡ [] → view_of lists forms ≡ record { rows = []; forms = [] }
view-nil lists forms empty = ap (λ rows. record { rows = rows; forms = forms_of forms (added_props rows) }) (added_of-nil lists empty)

-- and are mutual
pub AreMutual-none : (lists : List (Option Row)) → lists ≡ [] → AreMutual (added_of (lists_of lists))
AreMutual-none lists empty = subst AreMutual (sym (added_of-nil lists empty)) AreMutual-nil

-- the list of a property
pub list_at-rows : (lists : List (Option Row)) (rows : List Added) (p : PropId) → added_of (lists_of lists) ≡ rows → list_at p lists ≡ neighbours_of p rows
list_at-rows lists rows p is = sym (neighbours_of-added_of p (lists_of lists) ∙ get_or-list_at lists p) ∙ ap (neighbours_of p) is

-- the rows are in the order of their numbers
pub are_ascending-rows : (lists : List (Option Row)) (rows : List Added) → added_of (lists_of lists) ≡ rows → are_ascending (added_props rows) ≡ true
are_ascending-rows lists rows is = ap (λ rs. are_ascending (added_props rs)) (sym is) ∙ are_ascending-added_of (lists_of lists)

-- whether it is there
pub is_some-rows : (lists : List (Option Row)) (rows : List Added) (p : PropId) → added_of (lists_of lists) ≡ rows → is_some (list_at p lists) ≡ is_added p rows
is_some-rows lists rows p is = sym (is_added-added_of p (lists_of lists) ∙ ap is_some (get_or-list_at lists p)) ∙ ap (is_added p) is

-- as a look into the rows says
pub is_some-row : (lists : List (Option Row)) (rows : List Added) (p : PropId) → added_of (lists_of lists) ≡ rows → is_some (kept_at p.0 lists) ≡ is_added p rows
is_some-row lists rows p is = same (kept_at p.0 lists) ∙ is_some-rows lists rows p is
  where
    same : (row : Option Row) → is_some row ≡ is_some (numbers_in row)
    same None = refl
    same (Some row) = refl

-- a row that is read
pub neighbours_of-row : (lists : List (Option Row)) (rows : List Added) (p : PropId) (row : Row) → added_of (lists_of lists) ≡ rows → kept_at p.0 lists ≡ Some row →
    neighbours_of p rows ≡ Some row.neighbours.items
neighbours_of-row lists rows p row is there = sym (list_at-rows lists rows p is) ∙ ap numbers_in there

-- each list ascends
pub are_ascending-at : (lists : List (Option Row)) (p : PropId) (ps : List PropId) → AreMutual (added_of (lists_of lists)) → list_at p lists ≡ Some ps →
    are_ascending ps ≡ true
are_ascending-at lists p ps are is =
    All-at (λ (row : Added). IsTrue (are_ascending row.neighbours)) (lists_of lists) p ps are.by_number (get_or-list_at lists p ∙ is)

-- ---- a row less

module _ (lists : List (Option Row)) (p : PropId) (are : AreMutual (added_of (lists_of lists))) where
  pub not_itself : stands_in_list p (list_at p lists) ≡ false
  not_itself = ap (stands_in_list p) (list_at-rows lists (added_of (lists_of lists)) p refl) ∙ are.not_itself p

  module _ (new : List (Option Row)) (rows : List Added) (is : added_of (lists_of lists) ≡ rows) (added : is_added p rows ≡ true) (as_many : length new ≡ length lists)
      (left : (own : List PropId) → list_at p lists ≡ Some own → (q : PropId) → list_at q new ≡ list_left p own q (list_at q lists)) where
    own_list : (o : Option (List PropId)) → list_at p lists ≡ o → (own : List PropId) × (list_at p lists ≡ Some own)
    own_list None none = absurd (false≢true (sym (ap is_some none) ∙ is_some-rows lists rows p is ∙ added))
    own_list (Some own) some = (own, some)

    pub rows-left : added_of (lists_of new) ≡ without_added p rows
    rows-left =
        let own = own_list (list_at p lists) refl in
        added_of-less p (lists_of lists) (lists_of new) own.0 are (get_or-list_at lists p ∙ own.1)
        (length_lists new ∙ as_many ∙ sym (length_lists lists))
        (λ q. get_or-list_at new q ∙ left own.0 own.1 q ∙ ap (list_left p own.0 q) (sym (get_or-list_at lists q)))
        ∙ ap (without_added p) is
      where
        length_lists : (ls : List (Option Row)) → length (lists_of ls) ≡ length ls
        length_lists ls = length-map ls numbers_in

    pub AreMutual-left : AreMutual (added_of (lists_of new))
    AreMutual-left = subst AreMutual (sym rows-left) (AreMutual-less p rows (subst AreMutual is are))

-- the neighbours of a theory and a table, without a property
pub AreNeighbours-less : (p : PropId) (rows : List Added) (forms new : List (Option Form)) (theory : Theory) (table : List KeptProp) → ((n : ℕ) → n ≢ p.0 → kept_at n new ≡ kept_at n forms) →
    AreNeighbours theory table (record { rows = rows; forms = forms_of forms (added_props rows) }) →
    AreNeighbours theory table (record { rows = without_added p rows; forms = forms_of new (added_props (without_added p rows)) })
AreNeighbours-less p rows forms new theory table others are = record {
  kept = All-less (λ (row : Added). IsSome (prop_at row.prop.0 table)) p rows (λ row kept. kept) are.kept;
  lists = AreListed-less (exclusive_at theory table) p rows are.lists;
  forms = subst (λ ps. forms_of new ps ≡ map (form_at theory table) ps) (sym (added_props-less p rows)) (forms-without (form_at theory table) forms (added_props rows) are.forms p new others);
}

pub AreNeighbours-left : (lists less : List (Option Row)) (forms new : List (Option Form)) (added : Neighbourhoods) (p : PropId) (theory : Theory) (table : List KeptProp) →
    view_of lists forms ≡ added → added_of (lists_of less) ≡ without_added p added.rows → ((n : ℕ) → n ≢ p.0 → kept_at n new ≡ kept_at n forms) →
    AreNeighbours theory table added → AreNeighbours theory table (view_of less new)
AreNeighbours-left lists less forms new added p theory table shown left others are =
    let rows_are : added_of (lists_of lists) ≡ added.rows = ap (λ (v : Neighbourhoods). v.rows) shown in
    let old = AreNeighbours-less p (added_of (lists_of lists)) forms new theory table others (subst (AreNeighbours theory table) (sym shown) are) in
    subst (λ rows. AreNeighbours theory table (record { rows = rows; forms = forms_of new (added_props rows) }))
    (ap (without_added p) rows_are ∙ sym left) old

-- the forms that are shown are those of the terms
pub forms-shown : (lists : List (Option Row)) (forms : List (Option Form)) (added : Neighbourhoods) (theory : Theory) (table : List KeptProp) → view_of lists forms ≡ added →
    AreNeighbours theory table added → forms_of forms (added_props added.rows) ≡ map (form_at theory table) (added_props added.rows)
forms-shown lists forms added theory table shown are =
    subst (λ rows. forms_of forms (added_props rows) ≡ added.forms) (ap (λ (v : Neighbourhoods). v.rows) shown) (ap (λ (v : Neighbourhoods). v.forms) shown) ∙ are.forms

-- the form that is kept under an added property is that of its term
pub form-added : (lists : List (Option Row)) (forms : List (Option Form)) (added : Neighbourhoods) (p : PropId) (theory : Theory) (table : List KeptProp) → view_of lists forms ≡ added →
    AreNeighbours theory table added → is_added p added.rows ≡ true → form_kept p.0 forms ≡ form_at theory table p
form-added lists forms added p theory table shown are there =
    form-read (form_at theory table) forms (added_props added.rows) (forms-shown lists forms added theory table shown are) p there

-- what shows the same rows and forms is the same
pub view-same : (lists other : List (Option Row)) (forms new : List (Option Form)) → added_of (lists_of other) ≡ added_of (lists_of lists) →
    ((n : ℕ) → kept_at n new ≡ kept_at n forms) → view_of other new ≡ view_of lists forms
view-same lists other forms new rows same =
    ap (λ rs. record { rows = rs; forms = forms_of new (added_props rs) }) rows
    ∙ ap (λ fs. record { rows = added_of (lists_of lists); forms = fs }) (forms_of-same forms new (added_props (added_of (lists_of lists))) same)

-- what stands in the list of a property
pub neighbours-exclusive : (theory : Theory) (table : List KeptProp) (added : Neighbourhoods) (p : PropId) (ps : List PropId) → AreNeighbours theory table added → neighbours_of p added.rows ≡ Some ps →
    ps ≡ filter (exclusive_at theory table p) (added_props added.rows)
neighbours-exclusive theory table added p ps are is =
    All-neighbours_of (λ (row : Added). row.neighbours ≡ filter (exclusive_at theory table row.prop) (added_props added.rows)) p ps added.rows are.lists is

-- is kept
pub neighbours-kept : (theory : Theory) (table : List KeptProp) (added : Neighbourhoods) (p : PropId) (ps : List PropId) → AreNeighbours theory table added → neighbours_of p added.rows ≡ Some ps →
    All (λ (q : PropId). IsSome (prop_at q.0 table)) ps
neighbours-kept theory table added p ps are is =
    let IsKept : PropId → Type 0 = λ q. IsSome (prop_at q.0 table) in
    All-same IsKept ps (filter (exclusive_at theory table p) (added_props added.rows)) (neighbours-exclusive theory table added p ps are is)
    (All-filter (exclusive_at theory table p) IsKept (added_props added.rows) (All-map IsKept (λ (row : Added). row.prop) added.rows are.kept))

-- whether there is a reference, and whether there is what it points to
pub is_some-copied : {X : Type 0} (o : Option (Bor X)) → is_some o ≡ is_some (option_copied o)
is_some-copied None = refl
is_some-copied (Some x) = refl
