-- Tables that keep the added properties with the same terms have the same neighbours.
use Rattle.std.proofs.Common.{◌≡◌, ◌≢◌, ℕ, ◌<◌, zero, suc, true, false, IsSome, List, [], ◌∷◌, get_or, length, map, Option, Some, None, is_some, refl, sym, ap, ap₂, ◌∙◌, arith}
use Rattle.std.specs.Prelude.{option_map}
use Rattle.std.proofs.lemmas.Bool.{false≢true}
use Rattle.std.proofs.lemmas.List.Elements.{All-head, All-tail, All-map}
use Rattle.ec_terms.specs.declared.ids.PropId.{PropId}
use Rattle.ec_terms.specs.declared.theory.Theory.{Theory}
use Rattle.ec_store.specs.Table.{KeptProp, prop_at, term_at}
use Rattle.ec_exclusive.specs.Added.{Added, added_props, is_added, neighbours_of, without_added}
use Rattle.ec_exclusive.specs.Forms.{form_of}
use Rattle.ec_exclusive.specs.Neighbours.{AreNeighbours, Neighbourhoods, KeepsTerms, ReadTermsAlone, both_exclusive, exclusive_at, form_at}
use Rattle.ec_numbered.proofs.Numbers.{itself}
use Rattle.ec_exclusive.proofs.KeptLists.{is_added-neighbours_of, All-neighbours_of}
use Rattle.ec_exclusive.proofs.Leaving.{list_without, neighbours_of-less}
use Rattle.ec_lists.proofs.Filters.{filter_agree_at}
use Rattle.ec_lists.proofs.Options.{is_some-option_map}

-- a property whose term is kept is kept
kept_by_term : (p : ℕ) (table : List KeptProp) → is_some (term_at p table) ≡ is_some (prop_at p table)
kept_by_term p table = is_some-option_map (λ (kept : KeptProp). kept.term) (prop_at p table)

pub read_terms_alone : (theory : Theory) → ReadTermsAlone theory
read_terms_alone theory table other added keeps are =
    let rows = added.rows in
    record {
      kept = λ i d within. sym (kept_by_term (get_or rows i d).prop.0 other) ∙ ap is_some (keeps i d within) ∙ kept_by_term (get_or rows i d).prop.0 table ∙ are.kept i d within;
      lists = λ i d within. are.lists i d within ∙ filter_agree_at (exclusive_at theory table (get_or rows i d).prop) (exclusive_at theory other (get_or rows i d).prop) (added_props rows)
          (All-map (λ q. exclusive_at theory table (get_or rows i d).prop q ≡ exclusive_at theory other (get_or rows i d).prop q) (λ (row : Added). row.prop) rows
          (λ j e there. ap₂ (both_exclusive theory) (sym (keeps i d within)) (sym (keeps j e there))));
      forms = are.forms ∙ sym (forms-same rows keeps);
    }
  where
    forms-same : (rows : List Added) → KeepsTerms rows table other → map (form_at theory other) (added_props rows) ≡ map (form_at theory table) (added_props rows)
    forms-same [] keeps = refl
    forms-same (row ∷ rows) keeps =
        let same : Added → Type 0 = λ (row : Added). term_at row.prop.0 other ≡ term_at row.prop.0 table in
        ap₂ (λ form forms. form ∷ forms) (ap (option_map (form_of theory)) (All-head same row rows keeps)) (forms-same rows (All-tail same row rows keeps))

-- an added property is kept
pub kept-added : (theory : Theory) (table : List KeptProp) (added : Neighbourhoods) (p : PropId) → AreNeighbours theory table added → is_added p added.rows ≡ true → IsSome (prop_at p.0 table)
kept-added theory table added p are there = from (neighbours_of p added.rows) refl (sym (is_added-neighbours_of p added.rows) ∙ there)
  where
    from : (o : Option (List PropId)) → neighbours_of p added.rows ≡ o → is_some o ≡ true → IsSome (prop_at p.0 table)
    from None is some = absurd (false≢true some)
    from (Some ps) is some = All-neighbours_of (λ (row : Added). IsSome (prop_at row.prop.0 table)) p ps added.rows are.kept is

-- a table in which what was kept is found as before
pub AreNeighbours-kept : (theory : Theory) (table other : List KeptProp) (added : Neighbourhoods) → ((q : ℕ) → IsSome (prop_at q table) → prop_at q other ≡ prop_at q table) →
    AreNeighbours theory table added → AreNeighbours theory other added
AreNeighbours-kept theory table other added same are =
    read_terms_alone theory table other added
    (λ i d within. ap (option_map (λ (kept : KeptProp). kept.term)) (same (get_or added.rows i d).prop.0 (are.kept i d within))) are

-- a table without a property that is not added
pub AreNeighbours-forgotten : (theory : Theory) (table other : List KeptProp) (added : Neighbourhoods) (p : PropId) → is_added p added.rows ≡ false →
    ((q : ℕ) → q ≢ p.0 → prop_at q other ≡ prop_at q table) → AreNeighbours theory table added → AreNeighbours theory other added
AreNeighbours-forgotten theory table other added p absent same are =
    read_terms_alone theory table other added
    (λ i d within. ap (option_map (λ (kept : KeptProp). kept.term)) (same (get_or added.rows i d).prop.0 (apart i d within))) are
  where
    stands : (rs : List Added) (i : ℕ) (d : Added) → i < length rs → (get_or rs i d).prop.0 ≡ p.0 → is_added p rs ≡ true
    stands [] i d within is = absurd (omega arith)
    stands (r ∷ rs) zero d within is = grind arith
    stands (r ∷ rs) (suc i) d within is = let ih = stands rs i d (omega arith) is in grind arith

    apart : (i : ℕ) (d : Added) → i < length added.rows → (get_or added.rows i d).prop.0 ≢ p.0
    apart i d within is = false≢true (sym absent ∙ stands added.rows i d within is)

-- a property that has gone is not added
pub absent-left : (p : PropId) (rows : List Added) → is_added p (without_added p rows) ≡ false
absent-left p rows = is_added-neighbours_of p (without_added p rows) ∙ ap is_some (neighbours_of-less p p rows) ∙ gone
  where
    gone : is_some (list_without p p (neighbours_of p rows)) ≡ false
    gone = let same = itself p in grind arith
