-- Rows of marks and of spans as rows of plain marks and of intervals.
use Rattle.std.proofs.Common.{◌≡◌, ℕ, ◌+◌, ◌≤◌, suc, ℤ, Bool, ◌&&◌, List, [], ◌∷◌, ◌++◌, map, length, take, drop, Option, Some, None, refl, ap, ap₂, sym, subst, ◌∙◌, add-one, arith}
use Rattle.std.specs.Prelude.{slice_get}
use Rattle.std.specs.List.{list_all}
use Rattle.std.specs.List.{drop-map, take-map}
use Rattle.std.proofs.lemmas.Option.{slice_get_within, get_or_from_slice_get}
use Rattle.std.proofs.Math.Seq.{drop-cons, take-suc}
use Rattle.std.proofs.lemmas.List.{length-map, map-append, take-append-drop}
use Rattle.std.proofs.Math.ListN.{drop_of_length-le}
use Rattle.ec_axioms.specs.Timeline.{Interval as PlainInterval}
use Rattle.ec_axioms.specs.Marks.{spans_of}
use Rattle.ec_rows.specs.PlainMarks.{plain_mark, plain_marks}
use Rattle.ec_rows.specs.Ordered.{is_ascending}
use Rattle.ec_rows.specs.Marks.{IsMarkRow, mark_before, is_counted}
use Rattle.ec_rows.specs.Spans.{IsSpanRow, span_before}
use Rattle.ec_rows.specs.Spans.{is_proper as is_proper_span}
use Rattle.ec_rows.specs.declared.mark.Mark.{Mark}
use Rattle.ec_rows.specs.declared.span.End.{End}
use Rattle.ec_rows.specs.declared.span.End.TheVariants.{At as Ended, Unended}
use Rattle.ec_rows.specs.declared.span.Span.{Span}
use Rattle.ec_lists.proofs.Booleans.{and-right}
use Rattle.ec_rows.proofs.OrderedLemmas.{ascending-rest}
use Rattle.ec_intervals.specs.declared.interval.Begin.TheVariants.{Initial}
use Rattle.ec_intervals.specs.declared.interval.Interval.{Interval}
use Rattle.ec_intervals.specs.Steps.{first_open, is_proper, comes_before, IsIntervalRow}
use Rattle.ec_intervals.specs.Table.{front_members, span_interval, plain_interval, plain_intervals}
use Rattle.ec_intervals.proofs.Pass.{plain_before, IsPlainRow, pass, interval_by, length-pass, pass-spans_of}
use Rattle.ec_intervals.proofs.PassOrder.{IsIntervalRow-pass}

-- ---- lists

list_all-same : {X Y : Type 0} (p : Y → Bool) (q : X → Bool) (f : X → Y) → ((x : X) → p (f x) ≡ q x) → (xs : List X) → list_all p (map f xs) ≡ list_all q xs
list_all-same p q f same [] = refl
list_all-same p q f same (x ∷ xs) = ap₂ (λ a b. a && b) (same x) (list_all-same p q f same xs)

is_ascending-same : {X Y : Type 0} (r : Y → Y → Bool) (s : X → X → Bool) (f : X → Y) → ((x y : X) → r (f x) (f y) ≡ s x y) → (xs : List X) →
    is_ascending r (map f xs) ≡ is_ascending s xs
unfolding is_ascending
is_ascending-same r s f same [] = refl
is_ascending-same r s f same (x ∷ xs) = ap₂ (λ a b. a && b) (list_all-same (r (f x)) (s x) f (same x) xs) (is_ascending-same r s f same xs)

-- ---- rows

module _ {T : Type 0} (rank : T → ℤ) where
  -- a row of marks, with their times as whole numbers
  pub IsPlainRow-from_row : (marks : List (Mark T)) → IsMarkRow rank marks → IsPlainRow (plain_marks rank marks)
  IsPlainRow-from_row marks row = record {
    ascending = is_ascending-same plain_before (mark_before rank) (plain_mark rank) (λ m n. refl) marks ∙ row.ascending;
    counted = list_all-same _ is_counted (plain_mark rank) (λ m. refl) marks ∙ row.counted;
  }

  -- what is left of a row of marks begins with the mark that is read
  pub marks-next : (marks : List (Mark T)) (i : ℕ) (mark : Mark T) → slice_get marks i ≡ Some mark →
      drop i (plain_marks rank marks) ≡ plain_mark rank mark ∷ drop (i + 1) (plain_marks rank marks)
  marks-next marks i mark read =
      rw add-one
      (drop-map (plain_mark rank) i marks
      ∙ ap (map (plain_mark rank)) (drop-cons marks i mark (slice_get_within marks i mark read) ∙ ap (λ m. m ∷ drop (suc i) marks) (get_or_from_slice_get marks i mark mark read))
      ∙ ap (λ ms. plain_mark rank mark ∷ ms) (sym (drop-map (plain_mark rank) (suc i) marks)))

  -- the marks that are read, and the next one
  pub marks-taken : (marks : List (Mark T)) (i : ℕ) (mark : Mark T) → slice_get marks i ≡ Some mark →
      take (i + 1) (plain_marks rank marks) ≡ take i (plain_marks rank marks) ++ plain_mark rank mark ∷ []
  marks-taken marks i mark read =
      rw add-one
      (take-map (plain_mark rank) (suc i) marks
      ∙ ap (map (plain_mark rank)) (take-suc marks i mark (slice_get_within marks i mark read) ∙ ap (λ m. take i marks ++ m ∷ []) (get_or_from_slice_get marks i mark mark read))
      ∙ map-append (plain_mark rank) (take i marks) (mark ∷ []) ∙ ap (λ ms. ms ++ plain_mark rank mark ∷ []) (sym (take-map (plain_mark rank) i marks)))

  pub marks-split : (marks : List (Mark T)) (i : ℕ) (mark : Mark T) → slice_get marks i ≡ Some mark →
      plain_marks rank marks ≡ take i (plain_marks rank marks) ++ plain_mark rank mark ∷ drop (i + 1) (plain_marks rank marks)
  marks-split marks i mark read = sym (take-append-drop i (plain_marks rank marks)) ∙ ap (λ ms. take i (plain_marks rank marks) ++ ms) (marks-next marks i mark read)

  -- and behind the last mark nothing is left
  pub marks-none : (marks : List (Mark T)) (i : ℕ) → length marks ≤ i → drop i (plain_marks rank marks) ≡ []
  marks-none marks i end = drop-map (plain_mark rank) i marks ∙ ap (map (plain_mark rank)) (drop_of_length-le marks end)

  -- a row of spans is a row of intervals
  pub IsSpanRow-from_intervals : (spans : List (Span T)) → IsIntervalRow (plain_intervals rank (map span_interval spans)) → IsSpanRow rank spans
  IsSpanRow-from_intervals spans row = record {
    proper = sym (list_all-same (λ (i : Interval T). is_proper (plain_interval rank i)) (is_proper_span rank) span_interval (λ span. proper span.from span.end) spans)
        ∙ sym (list_all-same is_proper (λ (i : Interval T). is_proper (plain_interval rank i)) (plain_interval rank) (λ i. refl) (map span_interval spans)) ∙ row.proper;
    ascending = sym (is_ascending-same (λ (i j : Interval T). comes_before (plain_interval rank i) (plain_interval rank j)) (span_before rank) span_interval
        (λ span other. before other.from span.from span.end) spans)
        ∙ sym (is_ascending-same comes_before (λ (i j : Interval T). comes_before (plain_interval rank i) (plain_interval rank j)) (plain_interval rank) (λ i j. refl) (map span_interval spans))
        ∙ row.ascending;
  }
    where
      proper : (from : T) (end : End T) → is_proper (plain_interval rank (span_interval (record { from = from; end = end }))) ≡ is_proper_span rank (record { from = from; end = end })
      proper from (Ended t) = refl
      proper from Unended = refl

      before : (other from : T) (end : End T) → comes_before (plain_interval rank (span_interval (record { from = from; end = end }))) (plain_interval rank (span_interval (record { from = other; end = Unended })))
          ≡ span_before rank (record { from = from; end = end }) (record { from = other; end = Unended })
      before other from (Ended t) = refl
      before other from Unended = refl

  -- the intervals behind the front
  behind_front : (front : Option (End T)) (xs : List (Interval T)) → IsIntervalRow (plain_intervals rank (front_members front ++ xs)) → IsIntervalRow (plain_intervals rank xs)
  behind_front None xs row = row
  behind_front (Some end) xs row =
      let first : PlainInterval = plain_interval rank (record { from = Initial; end = end }) in
      record {
        proper = and-right (is_proper first) (list_all is_proper (plain_intervals rank xs)) row.proper;
        ascending = ascending-rest comes_before first (plain_intervals rank xs) row.ascending;
      }

  pub IsSpanRow-members : (front : Option (End T)) (spans : List (Span T)) → IsIntervalRow (plain_intervals rank (front_members front ++ map span_interval spans)) → IsSpanRow rank spans
  IsSpanRow-members front spans row = IsSpanRow-from_intervals spans (behind_front front (map span_interval spans) row)

  module _ (marks : List (Mark T)) (strong initial : Bool) (row : IsMarkRow rank marks) where
    abbrev spelt : List PlainInterval
    spelt = spans_of (plain_marks rank marks) strong initial

    -- what the marks spell is a row
    pub IsIntervalRow-spans_of : IsIntervalRow spelt
    IsIntervalRow-spans_of =
        subst IsIntervalRow (pass-spans_of (plain_marks rank marks) strong initial (IsPlainRow-from_row marks row))
        (IsIntervalRow-pass strong initial (plain_marks rank marks) (IsPlainRow-from_row marks row))

    -- there is one interval more than marks at the most
    pub length-spans_of : length spelt ≤ length marks + 1
    length-spans_of =
        let most : length (pass interval_by strong (first_open initial) (plain_marks rank marks)) ≤ suc (length (plain_marks rank marks)) =
        length-pass interval_by strong (first_open initial) (plain_marks rank marks) in
        let same = ap length (pass-spans_of (plain_marks rank marks) strong initial (IsPlainRow-from_row marks row)) in
        let count = length-map marks (plain_mark rank) in
        omega (arith, most, same, count)
