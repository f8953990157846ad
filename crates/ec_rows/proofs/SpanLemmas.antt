-- Rows of spans: the empty one, their order by starts, and where no span covers a time.
use Rattle.std.proofs.Common.{◌≡◌, ℕ, ◌<◌, zero, suc, ℤ, true, false, ◌&&◌, List, [], ◌∷◌, refl, sym, subst, length, get_or, ap, ◌∙◌, arith}
use Rattle.std.specs.Prelude.{int_lt, int_le}
use Rattle.std.specs.List.{list_all, list_any}
use Rattle.std.proofs.lemmas.Int.{ints}
use Rattle.std.proofs.lemmas.List.Sums.{AllPass-from_list_all}
use Rattle.ec_rows.specs.declared.span.End.{End}
use Rattle.ec_rows.specs.declared.span.End.TheVariants.{At, Unended}
use Rattle.ec_rows.specs.declared.span.Span.{Span}
use Rattle.ec_rows.specs.Ordered.{is_ascending, by_time}
use Rattle.ec_rows.specs.Spans.{IsSpanRow, ends_after, ends_by, reaches, is_proper, span_before, is_covering}
use Rattle.ec_lists.proofs.Booleans.{and-left, and-right}
use Rattle.ec_rows.proofs.OrderedLemmas.{ascending-first, ascending-rest}
use Rattle.ec_rows.proofs.TimedLemmas.{IsCutBefore}
use Rattle.ec_lists.proofs.Integers.{int_lt_le-trans}
use Rattle.ec_lists.proofs.Tests.{list_all-weaker}

-- an end that comes no later than s, which is before t
ended : (x s t : ℤ) → int_le x s ≡ true → int_lt s t ≡ true → int_le t x ≡ false
ended x s t = grind (arith, ints)

module _ {T : Type 0} (rank : T → ℤ) where
  -- no spans
  pub IsSpanRow-nil : (spans : List (Span T)) → spans ≡ [] → IsSpanRow rank spans
  unfolding is_ascending
  IsSpanRow-nil spans empty = subst (IsSpanRow rank) (sym empty) (record { proper = refl; ascending = refl })

  -- the rest of a row
  pub IsSpanRow-rest : (span : Span T) (spans : List (Span T)) → IsSpanRow rank (span ∷ spans) → IsSpanRow rank spans
  IsSpanRow-rest span spans row = record {
    proper = and-right (is_proper rank span) (list_all (is_proper rank) spans) row.proper;
    ascending = ascending-rest (span_before rank) span spans row.ascending;
  }

  -- where an end is after s and no later than t
  passes : (s t : ℤ) (end : End T) → ends_after rank s end ≡ true → ends_by rank t end ≡ true → int_lt s t ≡ true
  passes s t (At x) after by = int_lt_le-trans s (rank x) t after by
  passes s t Unended after by = cc

  -- a span that ends no later than s does not reach t
  falls_short : (s t : ℤ) (end : End T) → ends_by rank s end ≡ true → int_lt s t ≡ true → reaches rank t end ≡ false
  falls_short s t (At x) by before = ended (rank x) s t by before
  falls_short s t Unended by before = cc

  -- the spans are in the order of their starts
  pub by_time-from_row : (spans : List (Span T)) → IsSpanRow rank spans → is_ascending (by_time rank (λ (s : Span T). s.from)) spans ≡ true
  unfolding is_ascending
  by_time-from_row [] row = refl
  by_time-from_row (span ∷ spans) row =
      let ih : is_ascending (by_time rank (λ (s : Span T). s.from)) spans ≡ true = by_time-from_row spans (IsSpanRow-rest span spans row) in
      let proper : is_proper rank span ≡ true = and-left (is_proper rank span) (list_all (is_proper rank) spans) row.proper in
      let front : list_all (by_time rank (λ (s : Span T). s.from) span) spans ≡ true =
      list_all-weaker (span_before rank span) (by_time rank (λ (s : Span T). s.from) span) (λ s by. passes (rank span.from) (rank s.from) span.end proper by) spans
      (ascending-first (span_before rank) span spans row.ascending) in
      ap (λ b. b && is_ascending (by_time rank (λ (s : Span T). s.from)) spans) front ∙ ih

  -- no span starts before t
  pub uncovered-from_start : (t : ℤ) (spans : List (Span T)) → IsCutBefore rank (λ (s : Span T). s.from) t spans zero → list_any (is_covering rank t) spans ≡ false
  uncovered-from_start t [] cut = refl
  uncovered-from_start t (span ∷ spans) cut =
      let here : int_lt (rank span.from) t ≡ false = cut.1 zero span (omega arith) (omega arith) in
      let ih : list_any (is_covering rank t) spans ≡ false =
      uncovered-from_start t spans (λ k d low high. absurd (omega arith), λ k d low high. cut.1 (suc k) d (omega arith) (omega arith)) in grind arith

  -- the last span that starts before t ends before it
  pub uncovered-from_last : (t : ℤ) (spans : List (Span T)) (i : ℕ) (d : Span T) → IsSpanRow rank spans → IsCutBefore rank (λ (s : Span T). s.from) t spans (suc i) →
      i < length spans → reaches rank t (get_or spans i d).end ≡ false → list_any (is_covering rank t) spans ≡ false
  uncovered-from_last t [] i d row cut within short = refl
  uncovered-from_last t (span ∷ spans) zero d row cut within short =
      let rest : list_any (is_covering rank t) spans ≡ false =
      uncovered-from_start t spans (λ k e low high. absurd (omega arith), λ k e low high. cut.1 (suc k) e (omega arith) (omega arith)) in grind arith
  uncovered-from_last t (span ∷ spans) (suc i) d row cut within short =
      let ih : list_any (is_covering rank t) spans ≡ false =
      uncovered-from_last t spans i d (IsSpanRow-rest span spans row)
      (λ k e low high. cut.0 (suc k) e (omega arith) (omega arith), λ k e low high. cut.1 (suc k) e (omega arith) (omega arith)) (omega arith) short in
      let by : ends_by rank (rank (get_or spans i d).from) span.end ≡ true =
      AllPass-from_list_all (span_before rank span) spans (ascending-first (span_before rank) span spans row.ascending) i d (omega arith) in
      let before : int_lt (rank (get_or spans i d).from) t ≡ true = cut.0 (suc i) d (omega arith) (omega arith) in
      let here : reaches rank t span.end ≡ false = falls_short (rank (get_or spans i d).from) t span.end by before in grind arith
