-- Rows that are kept by number, as they are seen.
use Rattle.std.proofs.Common.{◌≡◌, ◌≢◌, ℕ, ◌+◌, ◌<◌, zero, suc, true, false, List, [], ◌∷◌, ◌||◌, length, take, get_or, Option, None, is_some, refl, sym, ap, subst, ◌∙◌, ⊎_elim, arith}
use Rattle.std.specs.Prelude.{◌==◌, option_map}
use Rattle.std.proofs.lemmas.Bool.{cases_Bool, eqb-true}
use Rattle.std.proofs.lemmas.List.{get_or_past}
use Rattle.std.proofs.lemmas.List.Folds.{list_any_more}
use Rattle.ec_lists.proofs.Numbers.{eqb-apart}
use Rattle.ec_lists.proofs.Options.{is_some-option_map}
use Rattle.ec_terms.specs.declared.ids.PropId.{PropId}
use Rattle.ec_numbered.specs.ByNumber.{kept_at}
use Rattle.ec_numbered.specs.PropSet.{has_number}
use Rattle.ec_rows.specs.declared.mark.Mark.{Mark}
use Rattle.ec_points.specs.SeenRows.{IsGrown, seen_at, rows_seen}
use Rattle.ec_points.specs.Table.{PointRow, PointTable, row_of, marks_in, row_at}

-- ---- growing

pub IsGrown-same : {T : Type 0} (old new : Option (PointRow T)) → new ≡ old → IsGrown old new
IsGrown-same old new same = record { marks = ap marks_in same; room = rw same (omega arith); kept = λ there. ap is_some same ∙ there }

module _ {T M : Type 0} (marks : M → List (Mark T)) (spare : M → ℕ) where
  -- ---- the table that shows the rows

  -- a row as the table shows it
  pub row_at-seen : (rows : List (Option M)) (n : ℕ) → get_or (rows_seen marks spare rows) n None ≡ seen_at marks spare n rows
  row_at-seen [] n =
      get_or_past {X = Option (PointRow T)} [] n None (omega arith) ∙ sym (ap (option_map (row_of marks spare)) (get_or_past {X = Option M} [] n None (omega arith)))
  row_at-seen (row ∷ rows) zero = refl
  row_at-seen (row ∷ rows) (suc n) = row_at-seen rows n

  pub row_at-table : (rows : List (Option M)) (table : PointTable T) → rows_seen marks spare rows ≡ table.rows →
      (n : ℕ) → seen_at marks spare n rows ≡ row_at n table
  row_at-table rows table is n = sym (row_at-seen rows n) ∙ ap (λ rows. get_or rows n None) is

  -- what holds of a row before and behind a call holds of it in the tables that show both
  pub shown : (P : Option (PointRow T) → Option (PointRow T) → Type 0) (old new : List (Option M)) (table : PointTable T) →
      rows_seen marks spare old ≡ table.rows → (n : ℕ) → P (seen_at marks spare n old) (seen_at marks spare n new) →
      P (row_at n table) (get_or (rows_seen marks spare new) n None)
  shown P old new table is n fact =
      subst (λ row. P (row_at n table) row) (sym (row_at-seen new n))
      (subst (λ row. P row (seen_at marks spare n new)) (row_at-table old table is n) fact)

  -- rows that are there, as they are seen
  pub is_some-seen : (old new : List (Option M)) (n : ℕ) → is_some (kept_at n new) ≡ is_some (kept_at n old) →
      is_some (seen_at marks spare n new) ≡ is_some (seen_at marks spare n old)
  is_some-seen old new n there =
      is_some-option_map (row_of marks spare) (kept_at n new) ∙ there ∙ sym (is_some-option_map (row_of marks spare) (kept_at n old))

  -- ---- rows of no marks

  -- where one row grows and all others stay, each grows
  pub IsGrown-each : (now new : List (Option M)) (m : ℕ) → ((n : ℕ) → n ≢ m → kept_at n new ≡ kept_at n now) →
      IsGrown (seen_at marks spare m now) (seen_at marks spare m new) → (n : ℕ) → IsGrown (seen_at marks spare n now) (seen_at marks spare n new)
  IsGrown-each now new m others here n =
      ⊎_elim (λ e. subst (λ k. IsGrown (seen_at marks spare k now) (seen_at marks spare k new)) (eqb-true m n e) here)
      (λ e. IsGrown-same (seen_at marks spare n now) (seen_at marks spare n new) (ap (option_map (row_of marks spare)) (others n (eqb-apart m n e))))
      (cases_Bool (m == n))

  -- no row comes to have marks
  pub no_marks-more : (now new : List (Option M)) (m : ℕ) → ((n : ℕ) → marks_in (seen_at marks spare n now) ≡ []) →
      ((n : ℕ) → n ≢ m → kept_at n new ≡ kept_at n now) → IsGrown (seen_at marks spare m now) (seen_at marks spare m new) →
      (n : ℕ) → marks_in (seen_at marks spare n new) ≡ []
  no_marks-more now new m none others grown n = (IsGrown-each now new m others grown n).marks ∙ none n

-- a row for the next property of a list
pub has_row-more : {M : Type 0} (props : List PropId) (i : ℕ) (d : PropId) → i < length props → (now new : List (Option M)) →
    ((n : ℕ) → n ≢ (get_or props i d).0 → kept_at n new ≡ kept_at n now) → ((n : ℕ) → is_some (kept_at n now) ≡ has_number n (take i props)) →
    is_some (kept_at (get_or props i d).0 new) ≡ true → (n : ℕ) → is_some (kept_at n new) ≡ has_number n (take (i + 1) props)
has_row-more props i d within now new others so_far there n = ⊎_elim same other (cases_Bool ((get_or props i d).0 == n))
  where
    more : has_number n (take (i + 1) props) ≡ (has_number n (take i props) || ((get_or props i d).0 == n))
    more = list_any_more (λ (p : PropId). p.0 == n) props i d within

    same : ((get_or props i d).0 == n) ≡ true → is_some (kept_at n new) ≡ has_number n (take (i + 1) props)
    same e =
        let here : is_some (kept_at n new) ≡ true = subst (λ m. is_some (kept_at m new) ≡ true) (eqb-true (get_or props i d).0 n e) there in
        let members = more in
        grind arith

    other : ((get_or props i d).0 == n) ≡ false → is_some (kept_at n new) ≡ has_number n (take (i + 1) props)
    other e =
        let stays : is_some (kept_at n new) ≡ is_some (kept_at n now) = ap is_some (others n (eqb-apart (get_or props i d).0 n e)) in
        let before = so_far n in
        let members = more in
        grind arith
