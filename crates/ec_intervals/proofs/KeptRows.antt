-- Rows that are kept by number: what the table shows of them, and that they stay few.
use Rattle.std.proofs.Common.{◌≡◌, ◌≢◌, ℕ, ◌-◌, ◌<◌, zero, suc, ℤ, Bool, List, [], ◌∷◌, ◌++◌, length, Option, Some, None, is_some, refl, sym, ap, ap₂, subst, ◌∙◌, ⊎_elim, arith}
use Rattle.std.specs.Prelude.{◌==◌, ◌^◌, option_map, map, slice_get, slice_set}
use Rattle.std.proofs.lemmas.Bool.{cases_Bool, false≢true, eqb-true}
use Rattle.std.proofs.Math.Numerals.{sub-one}
use Rattle.std.proofs.lemmas.List.{get_or_past, length-map}
use Rattle.std.proofs.lemmas.Option.{slice_get-map}
use Rattle.ec_numbered.specs.ByNumber.{kept_at}
use Rattle.ec_rows.specs.declared.span.End.{End}
use Rattle.ec_rows.specs.declared.span.Span.{Span}
use Rattle.ec_rows.specs.Marks.{IsMarkRow}
use Rattle.ec_rows.specs.PlainMarks.{plain_marks}
use Rattle.ec_rows.specs.declared.mark.Mark.{Mark}
use Rattle.ec_axioms.specs.Marks.{spans_of}
use Rattle.ec_intervals.specs.declared.interval.Interval.{Interval}
use Rattle.ec_intervals.specs.declared.row.KeptRow.{KeptRow}
use Rattle.ec_intervals.specs.RowViews.{seen, seen_at, rows_seen}
use Rattle.ec_intervals.specs.Table.{IntervalRow, IntervalTable, IsGrown, AreFew, has_row, row_at, members_in, front_in, spans_in, front_members, span_interval, plain_interval, plain_intervals}
use Rattle.ec_intervals.proofs.Written.{length-spans_of}
use Rattle.ec_lists.proofs.Numbers.{eqb-apart}

-- ---- rows

-- a row that is written, where there was one
pub kept_at-set : {X : Type 0} (rows : List (Option X)) (n : ℕ) (old new : X) → Some old ≡ kept_at n rows → kept_at n (slice_set rows n (Some new)) ≡ Some new
kept_at-set [] n old new found = absurd (let no = found ∙ get_or_past [] n None (omega arith) in cc)
kept_at-set (row ∷ rows) zero old new found = refl
kept_at-set (row ∷ rows) (suc n) old new found = kept_at-set rows n old new found

-- and the others
pub kept_at-set_other : {X : Type 0} (rows : List (Option X)) (m n : ℕ) (new : Option X) → n ≢ m → kept_at n (slice_set rows m new) ≡ kept_at n rows
kept_at-set_other [] m n new other = refl
kept_at-set_other (row ∷ rows) zero zero new other = absurd (other refl)
kept_at-set_other (row ∷ rows) zero (suc n) new other = refl
kept_at-set_other (row ∷ rows) (suc m) zero new other = refl
kept_at-set_other (row ∷ rows) (suc m) (suc n) new other = kept_at-set_other rows m n new (λ same. other (ap suc same))

-- where the front and the spans stay, the intervals stay
pub members_in-grown : {T : Type 0} (old new : Option (IntervalRow T)) → IsGrown old new → members_in new ≡ members_in old
members_in-grown old new grown = ap₂ (λ front spans. front_members front ++ map span_interval spans) grown.front grown.spans

module _ {T I : Type 0} (spans : I → List (Span T)) (spare : I → ℕ) where
  -- a row as the table shows it
  pub kept_at-seen : (rows : List (Option (KeptRow T I))) (n : ℕ) → kept_at n (rows_seen spans spare rows) ≡ seen_at spans spare n rows
  kept_at-seen [] n =
      get_or_past {X = Option (IntervalRow T)} [] n None (omega arith) ∙ sym (ap (option_map (seen spans spare)) (get_or_past {X = Option (KeptRow T I)} [] n None (omega arith)))
  kept_at-seen (row ∷ rows) zero = refl
  kept_at-seen (row ∷ rows) (suc n) = kept_at-seen rows n

  pub row_at-table : (rows : List (Option (KeptRow T I))) (table : IntervalTable T) → rows_seen spans spare rows ≡ table.rows → (n : ℕ) →
      seen_at spans spare n rows ≡ row_at n table
  row_at-table rows table is n = sym (kept_at-seen rows n) ∙ ap (kept_at n) is

  -- a row that is found
  pub kept_at-found : (rows : List (Option (KeptRow T I))) (n : ℕ) (kept : KeptRow T I) → Some kept ≡ kept_at n rows → kept_at n (rows_seen spans spare rows) ≡ Some (seen spans spare kept)
  kept_at-found rows n kept found = kept_at-seen rows n ∙ ap (option_map (seen spans spare)) (sym found)

  -- and none
  pub kept_at-absent : (rows : List (Option (KeptRow T I))) (n : ℕ) → None ≡ kept_at n rows → kept_at n (rows_seen spans spare rows) ≡ None
  kept_at-absent rows n none = kept_at-seen rows n ∙ ap (option_map (seen spans spare)) (sym none)

  -- and none of no rows
  pub kept_at-nil : (rows : List (Option (KeptRow T I))) → rows ≡ [] → (n : ℕ) → kept_at n (rows_seen spans spare rows) ≡ None
  kept_at-nil rows empty n = ap (λ (rows : List (Option (KeptRow T I))). kept_at n (rows_seen spans spare rows)) empty ∙ get_or_past {X = Option (IntervalRow T)} [] n None (omega arith)

  -- a row that is kept is seen
  pub is_some-seen : (row : Option (KeptRow T I)) → is_some (option_map (seen spans spare) row) ≡ is_some row
  is_some-seen None = refl
  is_some-seen (Some row) = refl

  -- the interval at a place of a row without a front, and at one behind the front
  pub member-alone : (kept : KeptRow T I) (i : ℕ) (span : Span T) (interval : Interval T) → kept.front ≡ None → slice_get (spans kept.spans) i ≡ Some span → interval ≡ span_interval span →
      slice_get (members_in (Some (seen spans spare kept))) i ≡ Some interval
  member-alone kept i span interval front read is =
      ap (λ front. slice_get (front_members front ++ map span_interval (spans kept.spans)) i) front ∙ slice_get-map span_interval (spans kept.spans) i ∙ ap (option_map span_interval) read ∙ sym (ap Some is)

  pub member-behind : (kept : KeptRow T I) (i : ℕ) (end : End T) (span : Span T) (interval : Interval T) → kept.front ≡ Some end → i ≢ 0 → slice_get (spans kept.spans) (i - 1) ≡ Some span → interval ≡ span_interval span →
      slice_get (members_in (Some (seen spans spare kept))) i ≡ Some interval
  member-behind kept zero end span interval front behind read is = absurd (behind refl)
  member-behind kept (suc i) end span interval front behind read is =
      ap (λ front. slice_get (front_members front ++ map span_interval (spans kept.spans)) (suc i)) front ∙ slice_get-map span_interval (spans kept.spans) i
      ∙ ap (option_map span_interval) (subst (λ k. slice_get (spans kept.spans) k ≡ Some span) (sub-one (suc i)) read) ∙ sym (ap Some is)

  -- where the intervals of one row are few and the others stay, all are few
  pub AreFew-each : (now new : List (Option (KeptRow T I))) (m : ℕ) → AreFew (rows_seen spans spare now) →
      ((n : ℕ) → n ≢ m → kept_at n new ≡ kept_at n now) → length (members_in (seen_at spans spare m new)) < 2 ^ 64 → AreFew (rows_seen spans spare new)
  AreFew-each now new m few others here n =
      ⊎_elim (λ e. subst (λ k. length (members_in (kept_at k (rows_seen spans spare new))) < 2 ^ 64) (eqb-true m n e)
      (subst (λ row. length (members_in row) < 2 ^ 64) (sym (kept_at-seen new m)) here))
      (λ e. subst (λ row. length (members_in row) < 2 ^ 64)
      (kept_at-seen now n ∙ sym (ap (option_map (seen spans spare)) (others n (eqb-apart m n e))) ∙ sym (kept_at-seen new n)) (few n))
      (cases_Bool (m == n))

  pub AreFew-grown : (now new : List (Option (KeptRow T I))) (m : ℕ) → AreFew (rows_seen spans spare now) → ((n : ℕ) → n ≢ m → kept_at n new ≡ kept_at n now) →
      IsGrown (seen_at spans spare m now) (seen_at spans spare m new) → AreFew (rows_seen spans spare new)
  AreFew-grown now new m few others grown =
      AreFew-each now new m few others
      (subst (λ xs. length xs < 2 ^ 64) (sym (members_in-grown (seen_at spans spare m now) (seen_at spans spare m new) grown))
      (subst (λ row. length (members_in row) < 2 ^ 64) (kept_at-seen now m) (few m)))

  pub AreFew-cleared : (now new : List (Option (KeptRow T I))) (m : ℕ) → AreFew (rows_seen spans spare now) → ((n : ℕ) → n ≢ m → kept_at n new ≡ kept_at n now) →
      front_in (seen_at spans spare m new) ≡ None → spans_in (seen_at spans spare m new) ≡ [] → AreFew (rows_seen spans spare new)
  AreFew-cleared now new m few others no_front no_spans =
      AreFew-each now new m few others
      (subst (λ count. count < 2 ^ 64) (sym (ap₂ (λ front spans. length (front_members front ++ map span_interval spans)) no_front no_spans)) (omega arith))

  -- a new row where there was none
  pub IsGrown-made : (now new : List (Option (KeptRow T I))) (n : ℕ) (made : KeptRow T I) → None ≡ kept_at n now → kept_at n new ≡ Some made → made.front ≡ None → spans made.spans ≡ [] →
      IsGrown (seen_at spans spare n now) (seen_at spans spare n new)
  IsGrown-made now new n made none there front nothing =
      subst (λ row. IsGrown (option_map (seen spans spare) row) (seen_at spans spare n new)) none
      (subst (λ row. IsGrown None (option_map (seen spans spare) row)) (sym there) (record { front = front; spans = nothing; room = omega arith; kept = λ is. absurd (false≢true is) }))

  -- a row that stays
  pub IsGrown-kept : (now new : List (Option (KeptRow T I))) (n : ℕ) → kept_at n new ≡ kept_at n now → IsGrown (seen_at spans spare n now) (seen_at spans spare n new)
  IsGrown-kept now new n same =
      subst (λ row. IsGrown (seen_at spans spare n now) (option_map (seen spans spare) row)) (sym same) (record { front = refl; spans = refl; room = omega arith; kept = λ is. is })

  -- what a row of few marks spells is few
  AreFew-written : (rank : T → ℤ) (now new : List (Option (KeptRow T I))) (m : ℕ) (kept : KeptRow T I) (marks : List (Mark T)) (strong initial : Bool) (buffer : ℕ) → AreFew (rows_seen spans spare now) →
      ((n : ℕ) → n ≢ m → kept_at n new ≡ kept_at n now) → kept_at m new ≡ Some kept → IsMarkRow rank marks →
      plain_intervals rank (members_in (Some (seen spans spare kept))) ≡ spans_of (plain_marks rank marks) strong initial → length marks < buffer → buffer < 2 ^ 64 → AreFew (rows_seen spans spare new)
  AreFew-written rank now new m kept marks strong initial buffer few others there row spelt short fits =
      AreFew-each now new m few others
      (subst (λ row. length (members_in row) < 2 ^ 64) (sym (ap (option_map (seen spans spare)) there))
      (let most = length-spans_of rank marks strong initial row in
      let same = ap length spelt in
      let count = length-map (members_in (Some (seen spans spare kept))) (plain_interval rank) in
      omega (arith, most, same, count, short, fits)))

  -- ---- a row that is written
  module _ (now : List (Option (KeptRow T I))) (old_table : IntervalTable T) (is : rows_seen spans spare now ≡ old_table.rows) (n : ℕ) (old new : KeptRow T I) (found : Some old ≡ kept_at n now) where
    abbrev written : List (Option (KeptRow T I))
    written = slice_set now n (Some new)

    pub written-row : kept_at n (rows_seen spans spare written) ≡ Some (seen spans spare new)
    written-row = kept_at-found written n new (sym (kept_at-set now n old new found))

    pub written-others : (m : ℕ) → m ≢ n → kept_at m (rows_seen spans spare written) ≡ row_at m old_table
    written-others m other = kept_at-seen written m ∙ ap (option_map (seen spans spare)) (kept_at-set_other now n m (Some new) other) ∙ row_at-table now old_table is m

    pub written-old : row_at n old_table ≡ Some (seen spans spare old)
    written-old = sym (row_at-table now old_table is n) ∙ ap (option_map (seen spans spare)) (sym found)

    pub AreFew-rewritten : (rank : T → ℤ) (marks : List (Mark T)) (strong initial : Bool) (buffer : ℕ) → AreFew (rows_seen spans spare now) → IsMarkRow rank marks →
        plain_intervals rank (members_in (Some (seen spans spare new))) ≡ spans_of (plain_marks rank marks) strong initial → length marks < buffer → buffer < 2 ^ 64 → AreFew (rows_seen spans spare written)
    AreFew-rewritten rank marks strong initial buffer few row spelt short fits =
        AreFew-written rank now written n new marks strong initial buffer few (λ m other. kept_at-set_other now n m (Some new) other) (kept_at-set now n old new found) row spelt short fits

    pub AreFew-emptied : AreFew (rows_seen spans spare now) → new.front ≡ None → spans new.spans ≡ [] → AreFew (rows_seen spans spare written)
    AreFew-emptied few no_front no_spans =
        AreFew-cleared now written n few (λ m other. kept_at-set_other now n m (Some new) other)
        (ap (λ row. front_in (option_map (seen spans spare) row)) (kept_at-set now n old new found) ∙ no_front)
        (ap (λ row. spans_in (option_map (seen spans spare) row)) (kept_at-set now n old new found) ∙ no_spans)

  -- ---- what is read

  module _ (rows : List (Option (KeptRow T I))) (table : IntervalTable T) (is : rows_seen spans spare rows ≡ table.rows) (n : ℕ) where
    -- a row that is found
    pub row_at-kept : (kept : KeptRow T I) → Some kept ≡ kept_at n rows → row_at n table ≡ Some (seen spans spare kept)
    row_at-kept kept found = sym (row_at-table rows table is n) ∙ ap (option_map (seen spans spare)) (sym found)

    -- and none
    pub row_at-absent : None ≡ kept_at n rows → row_at n table ≡ None
    row_at-absent none = sym (row_at-table rows table is n) ∙ ap (option_map (seen spans spare)) (sym none)

  -- ---- what is written

  module _ (now new : List (Option (KeptRow T I))) (old_table : IntervalTable T) (is : rows_seen spans spare now ≡ old_table.rows) (n : ℕ) where
    -- a row that stays
    pub row_at-same : kept_at n new ≡ kept_at n now → kept_at n (rows_seen spans spare new) ≡ row_at n old_table
    row_at-same same = kept_at-seen new n ∙ ap (option_map (seen spans spare)) same ∙ row_at-table now old_table is n

    -- a row that stays there
    pub has_row-same : is_some (kept_at n new) ≡ is_some (kept_at n now) → is_some (kept_at n (rows_seen spans spare new)) ≡ has_row n old_table
    has_row-same same =
        ap is_some (kept_at-seen new n) ∙ is_some-seen (kept_at n new) ∙ same
        ∙ sym (is_some-seen (kept_at n now)) ∙ ap is_some (row_at-table now old_table is n)

    -- a row that grows
    pub IsGrown-table : IsGrown (seen_at spans spare n now) (seen_at spans spare n new) → IsGrown (row_at n old_table) (kept_at n (rows_seen spans spare new))
    IsGrown-table grown =
        subst (IsGrown (row_at n old_table)) (sym (kept_at-seen new n))
        (subst (λ row. IsGrown row (seen_at spans spare n new)) (row_at-table now old_table is n) grown)
