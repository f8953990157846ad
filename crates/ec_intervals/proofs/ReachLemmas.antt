-- A row of intervals holds at no time outside its reach, and the reaches of all rows stay theirs where one is written.
use Rattle.std.proofs.Common.{◌≡◌, ◌≢◌, ◌<◌, ◌≤◌, ℕ, zero, suc, ℤ, Bool, true, false, not, ◌&&◌, ◌||◌, List, [], ◌∷◌, ◌++◌, map, length, Option, Some, None, is_some, IsTrue, refl, ap, ap₂, sym, subst, ◌∙◌, ⊎_elim, arith}
use Rattle.std.specs.Prelude.{◌==◌, ◌^◌, int_lt, int_le, option_map, slice_get, slice_set}
use Rattle.std.specs.List.{list_any}
use Rattle.std.proofs.lemmas.Bool.{false≢true, not-true, cases_Bool, eqb-true}
use Rattle.std.proofs.lemmas.Int.{ints}
use Rattle.std.proofs.Math.Bool.{or-false}
use Rattle.ec_rows.specs.Ordered.{by_time}
use Rattle.ec_rows.specs.Spans.{IsSpanRow, is_covering, reaches, ends_after, ends_by, is_proper, span_before}
use Rattle.ec_rows.specs.declared.span.End.{End}
use Rattle.ec_rows.specs.declared.span.End.TheVariants.{At, Unended}
use Rattle.ec_rows.specs.declared.span.Span.{Span}
use Rattle.ec_rows.proofs.OrderedLemmas.{ascending-first}
use Rattle.ec_rows.proofs.SpanLemmas.{by_time-from_row, IsSpanRow-rest}
use Rattle.ec_numbered.specs.ByNumber.{kept_at}
use Rattle.ec_axioms.specs.Timeline.{is_held_at}
use Rattle.ec_intervals.specs.Reach.{AreKept, IsReachOf, IsReachOfSpans, PlacedReaches, is_outside, reach_between}
use Rattle.ec_intervals.specs.Table.{AreFew, IntervalRow, IsGrown, front_in, front_members, members_in, plain_intervals, span_interval, spans_in}
use Rattle.ec_intervals.specs.declared.reach.Reach.{Reach}
use Rattle.ec_intervals.proofs.Covering.{held-none}
use Rattle.ec_intervals.specs.RowViews.{rows_seen, seen, seen_at}
use Rattle.ec_intervals.specs.declared.row.KeptRow.{KeptRow}
use Rattle.ec_intervals.proofs.KeptRows.{AreFew-grown, kept_at-found, kept_at-seen, kept_at-set, kept_at-set_other, members_in-grown}
use Rattle.ec_lists.proofs.Booleans.{or_second}
use Rattle.ec_lists.proofs.Integers.{int_lt-not_le}
use Rattle.ec_lists.proofs.Numbers.{eqb-apart}
use Rattle.ec_lists.proofs.Tests.{list_all-weaker, list_all-slice_get, list_any-none}

module _ {T : Type 0} (rank : T → ℤ) where
  module _ (t : ℤ) where
    not_started : (x : ℤ) (reached : Bool) → int_le t x ≡ true → (int_lt x t && reached) ≡ false
    not_started x reached early = grind (arith, ints)

    starts_later : (x y : ℤ) (reached : Bool) → int_lt x y ≡ true → int_le t x ≡ true → not (int_lt y t && reached) ≡ true
    starts_later x y reached later early = grind (arith, ints)

    -- up to the first start
    uncovered-early : (first : Span T) (spans : List (Span T)) → IsSpanRow rank spans → slice_get spans 0 ≡ Some first → int_le t (rank first.from) ≡ true →
        list_any (is_covering rank t) spans ≡ false
    uncovered-early first [] row read early = refl
    uncovered-early first (s ∷ spans) row read early =
        let same : first ≡ s = cc in
        let here : int_le t (rank s.from) ≡ true = ap (λ (other : Span T). int_le t (rank other.from)) (sym same) ∙ early in
        ap₂ (λ a b. a || b) (not_started (rank s.from) (reaches rank t s.end) here)
        (list_any-none (is_covering rank t) spans
        (list_all-weaker (by_time rank (λ (o : Span T). o.from) s) (λ o. not (is_covering rank t o)) (λ o later. starts_later (rank s.from) (rank o.from) (reaches rank t o.end) later here) spans
        (ascending-first (by_time rank (λ (o : Span T). o.from)) s spans (by_time-from_row rank (s ∷ spans) row))))

    falls_short_too : (x : ℤ) (end last : End T) → ends_by rank x end ≡ true → ends_after rank x last ≡ true → reaches rank t last ≡ false → reaches rank t end ≡ false
    falls_short_too x (At u) (At v) by after short = ended x (rank u) (rank v) by after short
      where
        ended : (x u v : ℤ) → int_le u x ≡ true → int_lt x v ≡ true → int_le t v ≡ false → int_le t u ≡ false
        ended x u v by after short = grind (arith, ints)
    falls_short_too x end Unended by after short = absurd (false≢true (sym short))
    falls_short_too x Unended last by after short = absurd (false≢true by)

    not_reached : (started : Bool) (reached : Bool) → reached ≡ false → (started && reached) ≡ false
    not_reached true reached short = short
    not_reached false reached short = refl

    -- behind the last end
    uncovered-late : (last : Span T) (spans : List (Span T)) (i : ℕ) → IsSpanRow rank spans → length spans ≡ suc i → slice_get spans i ≡ Some last → reaches rank t last.end ≡ false →
        list_any (is_covering rank t) spans ≡ false
    uncovered-late last [] i row count read short = refl
    uncovered-late last (s ∷ []) zero row count read short =
        let same : last ≡ s = cc in
        ap (λ b. b || false) (not_reached (int_lt (rank s.from) t) (reaches rank t s.end) (ap (λ (other : Span T). reaches rank t other.end) (sym same) ∙ short))
    uncovered-late last (s ∷ (r ∷ spans)) zero row count read short = absurd (omega (arith, count))
    uncovered-late last (s ∷ spans) (suc i) row count read short =
        let by = list_all-slice_get (span_before rank s) spans i last (ascending-first (span_before rank) s spans row.ascending) read in
        let proper = list_all-slice_get (is_proper rank) (s ∷ spans) (suc i) last row.proper read in
        ap₂ (λ a b. a || b) (not_reached (int_lt (rank s.from) t) (reaches rank t s.end) (falls_short_too (rank last.from) s.end last.end by proper short))
        (uncovered-late last spans i (IsSpanRow-rest rank s spans row) (omega (arith, count)) read short)

  -- from the first start up to the last end is a reach
  pub IsReachOfSpans-ends : (spans : List (Span T)) (first last : Span T) (i : ℕ) → IsSpanRow rank spans → length spans ≡ suc i → slice_get spans 0 ≡ Some first → slice_get spans i ≡ Some last →
      IsReachOfSpans rank (Some (reach_between first.from last.end)) spans
  IsReachOfSpans-ends spans first last i row count first_read last_read t out =
      ⊎_elim (λ early. uncovered-early t first spans row first_read early)
      (λ other. uncovered-late t last spans i row count last_read
      (not-true (reaches rank t last.end) (or_second (int_le t (rank first.from)) (not (reaches rank t last.end)) other (sym (by_end first.from last.end) ∙ out))))
      (cases_Bool (int_le t (rank first.from)))
    where
      by_end : (from : T) (end : End T) → is_outside rank (Some (reach_between from end)) t ≡ (int_le t (rank from) || not (reaches rank t end))
      by_end from (At x) = ap (λ b. int_le t (rank from) || b) (int_lt-not_le (rank x) t)
      by_end from Unended = sym (or-false (int_le t (rank from)))

  -- no spans have no reach
  pub IsReachOfSpans-none : (spans : List (Span T)) → spans ≡ [] → IsReachOfSpans rank None spans
  IsReachOfSpans-none spans empty t out = ap (list_any (is_covering rank t)) empty

  -- without a front, the reach of the spans is that of the row
  pub IsReachOf-spans : (reach : Option (Reach T)) (spans : List (Span T)) → IsReachOfSpans rank reach spans → IsReachOf rank reach (front_members None ++ map span_interval spans)
  IsReachOf-spans reach spans reached t out = sym (held-none rank t None spans refl (reached t out))

  -- no intervals have no reach
  pub IsReachOf-emptied : (row : Option (IntervalRow T)) (reach : Option (Reach T)) → front_in row ≡ None → spans_in row ≡ [] → IsReachOf rank reach (members_in row)
  IsReachOf-emptied row reach no_front no_spans t out =
      ap₂ (λ front spans. is_held_at (plain_intervals rank (front_members front ++ map span_interval spans)) t) no_front no_spans

  -- where one row is written with its reach, all have theirs
  pub AreKept-written : (reaches new_reaches : PlacedReaches T) (now new : List (Option (IntervalRow T))) (p : ℕ) → AreKept rank reaches now → AreFew new →
      ((n : ℕ) → n ≢ p → kept_at n new ≡ kept_at n now) → ((n : ℕ) → n ≢ p → kept_at n new_reaches.items ≡ kept_at n reaches.items) → reaches.places ≤ new_reaches.places →
      p < new_reaches.places → IsReachOf rank (kept_at p new_reaches.items) (members_in (kept_at p new)) → AreKept rank new_reaches new
  AreKept-written reaches new_reaches now new p kept few rows same places here reach = record {
    few = few;
    reached = λ n.
        ⊎_elim (λ e. subst (λ k. IsReachOf rank (kept_at k new_reaches.items) (members_in (kept_at k new))) (eqb-true p n e) reach)
        (λ e. subst (λ row. IsReachOf rank (kept_at n new_reaches.items) (members_in row)) (sym (rows n (eqb-apart p n e)))
        (subst (λ other. IsReachOf rank other (members_in (kept_at n now))) (sym (same n (eqb-apart p n e))) (kept.reached n)))
        (cases_Bool (p == n));
    placed = λ n there.
        ⊎_elim (λ e. subst (λ k. k < new_reaches.places) (eqb-true p n e) here)
        (λ e. let within : n < reaches.places = kept.placed n (subst (λ row. IsTrue (is_some row)) (rows n (eqb-apart p n e)) there) in omega (arith, within, places))
        (cases_Bool (p == n));
  }

  -- no rows have their reaches
  pub AreKept-none : (reaches : PlacedReaches T) (rows : List (Option (IntervalRow T))) → ((n : ℕ) → kept_at n rows ≡ None) → AreKept rank reaches rows
  AreKept-none reaches rows none = record {
    few = λ n. subst (λ row. length (members_in row) < 2 ^ 64) (sym (none n)) (omega arith);
    reached = λ n t out. ap (λ row. is_held_at (plain_intervals rank (members_in row)) t) (none n);
    placed = λ n there. absurd (false≢true (ap is_some (sym (none n)) ∙ there));
  }

module _ {T I : Type 0} (spans : I → List (Span T)) (spare : I → ℕ) (rank : T → ℤ) (reaches new_reaches : PlacedReaches T) (now : List (Option (KeptRow T I))) (n : ℕ) (kept : AreKept rank reaches (rows_seen spans spare now)) where
  -- the others are seen as they were
  others_seen : (new : List (Option (KeptRow T I))) → ((m : ℕ) → m ≢ n → kept_at m new ≡ kept_at m now) → (m : ℕ) → m ≢ n → kept_at m (rows_seen spans spare new) ≡ kept_at m (rows_seen spans spare now)
  others_seen new others m other = kept_at-seen spans spare new m ∙ ap (option_map (seen spans spare)) (others m other) ∙ sym (kept_at-seen spans spare now m)

  -- a row that grows has its reach still
  pub AreKept-grown : (new : List (Option (KeptRow T I))) → ((m : ℕ) → kept_at m new_reaches.items ≡ kept_at m reaches.items) → reaches.places ≤ new_reaches.places → n < new_reaches.places →
      ((m : ℕ) → m ≢ n → kept_at m new ≡ kept_at m now) → IsGrown (seen_at spans spare n now) (seen_at spans spare n new) → AreKept rank new_reaches (rows_seen spans spare new)
  AreKept-grown new same places here others grown =
      AreKept-written rank reaches new_reaches (rows_seen spans spare now) (rows_seen spans spare new) n kept (AreFew-grown spans spare now new n kept.few others grown)
      (others_seen new others) (λ m other. same m) places here
      (subst (λ reach. IsReachOf rank reach (members_in (kept_at n (rows_seen spans spare new)))) (sym (same n))
      (subst (IsReachOf rank (kept_at n reaches.items))
      (ap members_in (kept_at-seen spans spare now n) ∙ sym (members_in-grown (seen_at spans spare n now) (seen_at spans spare n new) grown) ∙ sym (ap members_in (kept_at-seen spans spare new n)))
      (kept.reached n)))

  module _ (old new : KeptRow T I) (found : Some old ≡ kept_at n now) where
    -- a row has a place for its reach
    pub has_place : n < reaches.places
    has_place = kept.placed n (ap is_some (kept_at-found spans spare now n old found))

    -- a row that is written with its reach
    pub AreKept-rewritten : (reach : Option (Reach T)) → AreFew (rows_seen spans spare (slice_set now n (Some new))) → kept_at n new_reaches.items ≡ reach → ((m : ℕ) → m ≢ n → kept_at m new_reaches.items ≡ kept_at m reaches.items) →
        new_reaches.places ≡ reaches.places → IsReachOf rank reach (members_in (Some (seen spans spare new))) → AreKept rank new_reaches (rows_seen spans spare (slice_set now n (Some new)))
    AreKept-rewritten reach few here others places reached =
        AreKept-written rank reaches new_reaches (rows_seen spans spare now) (rows_seen spans spare (slice_set now n (Some new))) n kept few
        (others_seen (slice_set now n (Some new)) (λ m other. kept_at-set_other now n m (Some new) other)) others (omega (arith, places)) (let place = has_place in omega (arith, place, places))
        (subst (λ row. IsReachOf rank (kept_at n new_reaches.items) (members_in row)) (sym (kept_at-found spans spare (slice_set now n (Some new)) n new (sym (kept_at-set now n old new found))))
        (subst (λ other. IsReachOf rank other (members_in (Some (seen spans spare new)))) (sym here) reached))
