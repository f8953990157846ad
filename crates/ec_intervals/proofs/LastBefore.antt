-- The last begin of a row before a time.
use Rattle.std.proofs.Common.{◌≡◌, ℕ, ◌-◌, ◌<◌, ◌≤◌, ℤ, true, List, [], ◌∷◌, ◌++◌, length, map, filter, take, Option, Some, None, refl, ap, ap₂, sym, ◌∙◌, append-nil, arith}
use Rattle.std.specs.Prelude.{int_lt, slice_get}
use Rattle.std.specs.List.{last_or}
use Rattle.std.proofs.lemmas.Int.{ints}
use Rattle.std.proofs.lemmas.List.{append_assoc, map-append, nil_from_length}
use Rattle.std.proofs.lemmas.List.Elements.{filter-append}
use Rattle.ec_axioms.specs.Timeline.{Begin, begin_at, Interval as PlainInterval, is_after}
use Rattle.ec_lists.proofs.Filters.{filter-map}
use Rattle.ec_rows.specs.Ordered.{by_time}
use Rattle.ec_rows.specs.Spans.{IsSpanRow, spans_before}
use Rattle.ec_rows.specs.declared.span.End.{End}
use Rattle.ec_rows.specs.declared.span.Span.{Span}
use Rattle.ec_rows.proofs.SpanLemmas.{by_time-from_row}
use Rattle.ec_intervals.specs.Table.{front_members, last_begin_of, plain_interval, plain_intervals, plain_spans, span_interval}
use Rattle.ec_intervals.proofs.SpanCuts.{filter-both, take-cut}
use Rattle.ec_intervals.proofs.TwoRows.{last_or-one_more}
use Rattle.ec_intervals.proofs.Walking.{take-last}

module _ {T : Type 0} (rank : T → ℤ) (t : ℤ) where
  -- the begins of intervals
  abbrev begins : List PlainInterval → List Begin
  begins intervals = map (λ (interval : PlainInterval). interval.from) intervals

  -- the begins of spans
  abbrev starts : List (Span T) → List Begin
  starts spans = map (λ (span : Span T). begin_at (rank span.from)) spans

  begins-spans : (spans : List (Span T)) → begins (plain_spans rank spans) ≡ starts spans
  begins-spans [] = refl
  begins-spans (s ∷ spans) = ap (λ bs. begin_at (rank s.from) ∷ bs) (begins-spans spans)

  -- the begin of a front, if there is one
  abbrev pub front_begin : Option (End T) → Option Begin
  front_begin front = last_or None (begins (plain_intervals rank (front_members front)))

  -- the begin before all events is before each time
  begins-front : (front : Option (End T)) → filter (λ begin. is_after begin t) (begins (plain_intervals rank (front_members front))) ≡ begins (plain_intervals rank (front_members front))
  begins-front None = refl
  begins-front (Some end) = refl

  module _ (front : Option (End T)) (spans : List (Span T)) where
    -- the last begin of a row is that of the spans that start before the time, behind the front
    last-parts : last_begin_of (plain_intervals rank (front_members front ++ map span_interval spans)) t
        ≡ last_or None (begins (plain_intervals rank (front_members front)) ++ starts (spans_before rank t spans))
    last-parts =
        ap (λ is. last_begin_of is t) (map-append (plain_interval rank) (front_members front) (map span_interval spans))
        ∙ ap (λ bs. last_or None (filter (λ begin. is_after begin t) bs))
        (map-append (λ (interval : PlainInterval). interval.from) (plain_intervals rank (front_members front)) (plain_spans rank spans))
        ∙ ap (last_or None)
        (filter-append (λ begin. is_after begin t) (begins (plain_intervals rank (front_members front))) (begins (plain_spans rank spans))
        ∙ ap₂ (λ (xs ys : List Begin). xs ++ ys) (begins-front front)
        (ap (filter (λ begin. is_after begin t)) (begins-spans spans) ∙ filter-map (λ begin. is_after begin t) (λ (span : Span T). begin_at (rank span.from)) spans))

    -- the spans that start before the time stand in front
    taken-before : IsSpanRow rank spans → take (length (spans_before rank t spans)) spans ≡ spans_before rank t spans
    taken-before row =
        take-cut (λ (s : Span T). int_lt (rank s.from) t) spans
        (filter-both (by_time rank (λ (s : Span T). s.from)) (λ (s : Span T). int_lt (rank s.from) t) (λ s other. earlier (rank s.from) (rank other.from)) spans (by_time-from_row rank spans row))
      where
        earlier : (x y : ℤ) → int_lt x y ≡ true → int_lt y t ≡ true → int_lt x t ≡ true
        earlier x y before is = grind (arith, ints)

    -- the last of them
    pub last-started : IsSpanRow rank spans → (count : ℕ) → count ≡ length (spans_before rank t spans) → 0 < count → (span : Span T) → slice_get spans (count - 1) ≡ Some span
        → Some (begin_at (rank span.from)) ≡ last_begin_of (plain_intervals rank (front_members front ++ map span_interval spans)) t
    last-started row count is some span read =
        let own : List Begin = begins (plain_intervals rank (front_members front)) in
        sym (last-parts
        ∙ ap (λ ss. last_or None (own ++ starts ss)) (sym (taken-before row) ∙ ap (λ n. take n spans) (sym is) ∙ take-last spans count some span read)
        ∙ ap (λ bs. last_or None (own ++ bs)) (map-append (λ (s : Span T). begin_at (rank s.from)) (take (count - 1) spans) (span ∷ []))
        ∙ ap (last_or None) (sym (append_assoc own (starts (take (count - 1) spans)) (begin_at (rank span.from) ∷ [])))
        ∙ last_or-one_more None (own ++ starts (take (count - 1) spans)) (begin_at (rank span.from)))

    -- where there is none, the begin is that of the front
    pub last-of_front : (count : ℕ) → count ≡ length (spans_before rank t spans) → count ≤ 0
        → front_begin front ≡ last_begin_of (plain_intervals rank (front_members front ++ map span_interval spans)) t
    last-of_front count is none =
        let own : List Begin = begins (plain_intervals rank (front_members front)) in
        sym (last-parts
        ∙ ap (λ ss. last_or None (own ++ starts ss)) (nil_from_length (spans_before rank t spans) (omega (arith, is, none)))
        ∙ ap (last_or None) (append-nil own))
