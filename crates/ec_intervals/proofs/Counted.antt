-- How many intervals of a row end before a time, and how many begin up to it: the front, and the spans.
use Rattle.std.proofs.Common.{◌≡◌, ℕ, ◌+◌, ◌≤◌, ℤ, Bool, true, not, List, ◌++◌, map, filter, take, drop, length, Option, Some, None, refl, sym, ap, ◌∙◌, subst, arith}
use Rattle.std.specs.Prelude.{int_lt, int_le, slice_get, IsTrue}
use Rattle.std.specs.List.{list_all}
use Rattle.std.specs.Option.{option_map_or}
use Rattle.std.proofs.lemmas.Int.{ints}
use Rattle.std.proofs.lemmas.List.{map-append, length-append, length-map, length-take-le, take-append-drop}
use Rattle.std.proofs.lemmas.List.Elements.{filter-append, filter_agree}
use Rattle.ec_lists.proofs.Filters.{filter-map, length-filter_le}
use Rattle.ec_lists.proofs.Tests.{list_all-slice_get}
use Rattle.ec_axioms.specs.Timeline.{Interval, begin_at, is_after}
use Rattle.ec_rows.specs.Spans.{IsSpanRow, ends_after, is_proper as is_proper_span}
use Rattle.ec_rows.specs.declared.span.End.{End}
use Rattle.ec_rows.specs.declared.span.End.TheVariants.{At, Unended}
use Rattle.ec_rows.specs.declared.span.Span.{Span}
use Rattle.ec_intervals.specs.Steps.{begins_behind, is_proper}
use Rattle.ec_intervals.specs.declared.interval.Interval.{Interval as Kept}
use Rattle.ec_intervals.specs.Table.{front_members, plain_end, plain_interval, plain_intervals, plain_spans, span_interval, spans_up_to}
use Rattle.ec_intervals.proofs.Cut.{filter-front}

-- where the first n members pass and the others do not, n pass
pub length-filter_cut : {X : Type 0} (p : X → Bool) (n : ℕ) (xs : List X) → n ≤ length xs → list_all p (take n xs) ≡ true → list_all (λ x. not (p x)) (drop n xs) ≡ true
    → n ≡ length (filter p xs)
length-filter_cut p n xs within front back =
    sym (length-take-le n xs within) ∙ sym (ap length (filter-front p (take n xs) (drop n xs) xs (take-append-drop n xs) front back))

module _ {T : Type 0} (rank : T → ℤ) where
  -- of a front and spans pass those of the front and those of the spans
  pub length-filter_members : (p : Interval → Bool) (front : Option (End T)) (spans : List (Span T))
      → length (filter p (plain_intervals rank (front_members front ++ map span_interval spans)))
      ≡ length (filter p (plain_intervals rank (front_members front))) + length (filter p (plain_spans rank spans))
  length-filter_members p front spans =
      ap (λ is. length (filter p is)) (map-append (plain_interval rank) (front_members front) (map span_interval spans))
      ∙ ap length (filter-append p (plain_intervals rank (front_members front)) (plain_spans rank spans))
      ∙ length-append (filter p (plain_intervals rank (front_members front))) (filter p (plain_spans rank spans))

  -- they are no more than there are
  pub filter_members-few : (p : Interval → Bool) (front : Option (End T)) (spans : List (Span T))
      → length (filter p (plain_intervals rank (front_members front))) + length (filter p (plain_spans rank spans)) ≤ length (front_members front ++ map span_interval spans)
  filter_members-few p front spans =
      subst (λ n. n ≤ length (front_members front ++ map span_interval spans)) (length-filter_members p front spans)
      (subst (λ n. length (filter p (plain_intervals rank (front_members front ++ map span_interval spans))) ≤ n)
      (length-map (front_members front ++ map span_interval spans) (plain_interval rank))
      (length-filter_le p (plain_intervals rank (front_members front ++ map span_interval spans))))

  -- where of the spans the first n pass and the others do not, n pass
  pub length-filter_spans : (p : Interval → Bool) (n : ℕ) (spans : List (Span T)) → n ≤ length spans
      → (list_all p (take n (plain_spans rank spans)) ≡ true) × (list_all (λ i. not (p i)) (drop n (plain_spans rank spans)) ≡ true) → n ≡ length (filter p (plain_spans rank spans))
  length-filter_spans p n spans within cut =
      length-filter_cut p n (plain_spans rank spans) (subst (λ m. n ≤ m) (sym (length-map (map span_interval spans) (plain_interval rank) ∙ length-map spans span_interval)) within) cut.0 cut.1

  -- the spans that begin up to a time are those that do not begin behind it
  pub length-spans_begun : (t : ℤ) (spans : List (Span T)) → length (spans_up_to rank t spans) ≡ length (filter (λ i. not (begins_behind t i)) (plain_spans rank spans))
  length-spans_begun t spans =
      ap length (filter_agree (λ (s : Span T). int_le (rank s.from) t) (λ s. not (int_lt t (rank s.from))) (λ s. up_to (rank s.from)) spans)
      ∙ sym (length-map (filter (λ (s : Span T). not (int_lt t (rank s.from))) spans) span_interval)
      ∙ sym (length-map (map span_interval (filter (λ (s : Span T). not (int_lt t (rank s.from))) spans)) (plain_interval rank))
      ∙ sym (ap length (filter-map (λ i. not (begins_behind t i)) (plain_interval rank) (map span_interval spans)
      ∙ ap (map (plain_interval rank)) (filter-map (λ i. not (begins_behind t (plain_interval rank i))) span_interval spans)))
    where
      up_to : (x : ℤ) → int_le x t ≡ not (int_lt t x)
      up_to x = grind (arith, ints)

  -- the front begins up to each time
  pub fronts_begun : (t : ℤ) (end : End T) → length (filter (λ i. not (begins_behind t i)) (plain_intervals rank (front_members (Some end)))) ≡ 1
  fronts_begun t end = refl

  -- so where there is a front, and where there is none
  pub begun-front : (t : ℤ) (front : Option (End T)) (end : End T) (spans : List (Span T)) (count : ℕ) → front ≡ Some end → count ≡ length (spans_up_to rank t spans)
      → count + 1 ≡ length (filter (λ i. not (begins_behind t i)) (plain_intervals rank (front_members front ++ map span_interval spans)))
  begun-front t front end spans count is counted =
      let both = length-filter_members (λ i. not (begins_behind t i)) front spans in
      let one = ap (λ f. length (filter (λ i. not (begins_behind t i)) (plain_intervals rank (front_members f)))) is in
      let there = length-spans_begun t spans in
      omega (arith, both, one, there, counted)

  pub begun-alone : (t : ℤ) (front : Option (End T)) (spans : List (Span T)) (count : ℕ) → front ≡ None → count ≡ length (spans_up_to rank t spans)
      → count ≡ length (filter (λ i. not (begins_behind t i)) (plain_intervals rank (front_members front ++ map span_interval spans)))
  begun-alone t front spans count is counted =
      let both = length-filter_members (λ i. not (begins_behind t i)) front spans in
      let none = ap (λ f. length (filter (λ i. not (begins_behind t i)) (plain_intervals rank (front_members f)))) is in
      let there = length-spans_begun t spans in
      omega (arith, both, none, there, counted)

  -- ---- one span

  -- a span of a row is proper
  pub proper-span : (spans : List (Span T)) (i : ℕ) (span : Span T) → IsSpanRow rank spans → slice_get spans i ≡ Some span → is_proper (plain_interval rank (span_interval span)) ≡ true
  proper-span spans i span row read = one span.end (list_all-slice_get (is_proper_span rank) spans i span row.proper read)
    where
      one : (end : End T) → ends_after rank (rank span.from) end ≡ true → option_map_or (is_after (begin_at (rank span.from))) (plain_end rank end) true ≡ true
      one (At x) after = after
      one Unended after = refl

  pub proper-is : (span : Span T) (interval : Kept T) → interval ≡ span_interval span → is_proper (plain_interval rank (span_interval span)) ≡ true → IsTrue (is_proper (plain_interval rank interval))
  proper-is span interval is proper = ap (λ i. is_proper (plain_interval rank i)) is ∙ proper
