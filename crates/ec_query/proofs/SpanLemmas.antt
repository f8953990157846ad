-- Spans as intervals: which of them covers a time, and which begins at one.
use Rattle.std.proofs.Common.{◌≡◌, ℕ, zero, suc, ℤ, Bool, true, false, cond, ◌&&◌, ◌||◌, List, [], ◌∷◌, ◌++◌, map, length, Option, Some, None, IsTrue, Contains, refl, sym, ap, ap₂, subst, ◌∙◌, inl, arith}
use Rattle.std.specs.Prelude.{int_lt, int_le, slice_get, IfSome, IfNone}
use Rattle.std.specs.List.{list_any, list_all, HoldsAt}
use Rattle.std.specs.Ordering.{int_cmp, int_eq, is_le}
use Rattle.std.proofs.lemmas.Bool.{false≢true}
use Rattle.std.proofs.lemmas.List.Folds.{list_any-append}
use Rattle.std.proofs.lemmas.Option.{get_or_from_slice_get}
use Rattle.std.proofs.Math.Bool.{or-false}
use Rattle.ec_axioms.specs.Timeline.{Interval, before_all, begins_at, covers, has_begin, is_held_at, is_within_end}
use Rattle.ec_axioms.proofs.Members.{IsMember, list_all-member, Contains-from_member, IsMember-from_contains, IsMember-map, IsMember-append_right, IsMember-slice_get}
use Rattle.ec_rows.specs.Spans.{IsSpanRow, is_covering, is_proper, reaches, ends_after, spans_before}
use Rattle.ec_rows.specs.Ordered.{is_ascending, by_time}
use Rattle.ec_rows.specs.declared.span.End.{End}
use Rattle.ec_rows.specs.declared.span.End.TheVariants.{At, Unended}
use Rattle.ec_rows.specs.declared.span.Span.{Span}
use Rattle.ec_lists.proofs.Booleans.{and-left, and-right}
use Rattle.ec_rows.proofs.OrderedLemmas.{ascending-first, ascending-rest}
use Rattle.ec_intervals.specs.Table.{front_members, span_interval, plain_end, plain_interval, plain_intervals, plain_spans}
use Rattle.ec_intervals.proofs.Spliced.{plain-members}
use Rattle.ec_lists.proofs.Integers.{int_lt-not_after, int_lt-behind, int_eq-same, int_eq-from_gt, int_eq-from_lt}
use Rattle.ec_lists.proofs.Tests.{list_all-weaker}
use Rattle.std.proofs.lemmas.Int.{ints}
use Rattle.ec_query.specs.Stretches.{IsEndOver, IsEndFrom}

-- what is said where there is no value, by what is said of it otherwise
pub IfNone-weaker : {X P Q : Type 0} (o : Option X) → (P → Q) → IfNone o P → IfNone o Q
IfNone-weaker None weaker holds = weaker holds
IfNone-weaker (Some x) weaker holds = holds

-- nothing stands behind the last
pub slice_get-end : {X : Type 0} (xs : List X) (i : ℕ) → i ≡ length xs → slice_get xs i ≡ None
slice_get-end [] i end = refl
slice_get-end (x ∷ xs) zero end = absurd (omega arith)
slice_get-end (x ∷ xs) (suc i) end = slice_get-end xs i (omega arith)

module _ {T : Type 0} (rank : T → ℤ) where
  -- a span as an interval with its times as whole numbers
  abbrev plain : Span T → Interval
  plain span = plain_interval rank (span_interval span)

  within-reaches : (end : End T) (t : ℤ) → is_within_end (plain_end rank end) t ≡ reaches rank t end
  within-reaches (At x) t = refl
  within-reaches Unended t = refl

  covers-span : (span : Span T) (t : ℤ) → covers t (plain span) ≡ is_covering rank t span
  covers-span span t = ap (λ b. int_lt (rank span.from) t && b) (within-reaches span.end t)

  held-spans : (spans : List (Span T)) (t : ℤ) → is_held_at (plain_spans rank spans) t ≡ list_any (is_covering rank t) spans
  held-spans [] t = refl
  held-spans (s ∷ spans) t = ap₂ (λ a b. a || b) (covers-span s t) (held-spans spans t)

  member-span : (spans : List (Span T)) (span : Span T) → IsMember spans span → IsMember (plain_spans rank spans) (plain span)
  member-span spans span member = IsMember-map (plain_interval rank) (map span_interval spans) (span_interval span) (IsMember-map span_interval spans span member)

  -- the span at a place covers t
  pub over-span : (spans : List (Span T)) (i : ℕ) (span : Span T) (t : ℤ) → slice_get spans i ≡ Some span → HoldsAt (λ s. IsTrue (is_covering rank t s)) spans i
      → IsEndOver (plain_spans rank spans) t (plain_end rank span.end)
  over-span spans i span t is covering = record {
    interval = plain span;
    member = Contains-from_member (plain_spans rank spans) (plain span) (member-span spans span (IsMember-slice_get spans i span is));
    covering = covers-span span t ∙ subst (λ s. is_covering rank t s ≡ true) (get_or_from_slice_get spans i span span is) (covering span);
    until = refl;
  }

  pub over-none : (spans : List (Span T)) (t : ℤ) → list_any (is_covering rank t) spans ≡ false → is_held_at (plain_spans rank spans) t ≡ false
  over-none spans t none = held-spans spans t ∙ none

  -- ---- the front and the spans

  -- an end of one of the spans is one of all
  pub over-later : (front : Option (End T)) (spans : List (Span T)) (t : ℤ) (end : Option ℤ) → IsEndOver (plain_spans rank spans) t end
      → IsEndOver (plain_intervals rank (front_members front ++ map span_interval spans)) t end
  over-later front spans t end over = record {
    interval = over.interval;
    member =
        subst (λ (all : List Interval). Contains all over.interval) (sym (plain-members rank front spans))
        (Contains-from_member (plain_intervals rank (front_members front) ++ plain_spans rank spans) over.interval
        (IsMember-append_right (plain_intervals rank (front_members front)) (plain_spans rank spans) over.interval
        (IsMember-from_contains (plain_spans rank spans) over.interval over.member)));
    covering = over.covering;
    until = over.until;
  }

  -- that of the front, where it covers t
  pub over-front : (front : Option (End T)) (spans : List (Span T)) (t : ℤ) → is_held_at (plain_intervals rank (front_members front)) t ≡ true
      → IfSome front (λ end. IsEndOver (plain_intervals rank (front_members front ++ map span_interval spans)) t (plain_end rank end))
  over-front None spans t held = absurd (false≢true held)
  over-front (Some end) spans t held = record {
    interval = record { from = before_all; until = plain_end rank end };
    member = Contains-from_member (plain_intervals rank (front_members (Some end) ++ map span_interval spans)) (record { from = before_all; until = plain_end rank end }) (inl refl);
    covering = sym (or-false (is_within_end (plain_end rank end) t)) ∙ held;
    until = refl;
  }

  pub held-parts : (front : Option (End T)) (spans : List (Span T)) (t : ℤ) → is_held_at (plain_intervals rank (front_members front)) t ≡ false
      → is_held_at (plain_spans rank spans) t ≡ false → is_held_at (plain_intervals rank (front_members front ++ map span_interval spans)) t ≡ false
  held-parts front spans t first rest =
      ap (list_any (covers t)) (plain-members rank front spans)
      ∙ list_any-append (covers t) (plain_intervals rank (front_members front)) (plain_spans rank spans)
      ∙ ap₂ (λ a b. a || b) first rest

  -- ---- which begins at a time

  -- a front begins at no time
  no_begin-front : (front : Option (End T)) (t : ℤ) → has_begin (plain_intervals rank (front_members front)) t ≡ false
  no_begin-front None t = refl
  no_begin-front (Some end) t = refl

  pub has_begin-parts : (front : Option (End T)) (spans : List (Span T)) (t : ℤ)
      → has_begin (plain_intervals rank (front_members front ++ map span_interval spans)) t ≡ list_any (λ (s : Span T). int_eq (rank s.from) t) spans
  has_begin-parts front spans t =
      ap (list_any (λ interval. begins_at t interval.from)) (plain-members rank front spans)
      ∙ list_any-append (λ interval. begins_at t interval.from) (plain_intervals rank (front_members front)) (plain_spans rank spans)
      ∙ ap₂ (λ a b. a || b) (no_begin-front front t) (each spans)
    where
      each : (ss : List (Span T)) → has_begin (plain_spans rank ss) t ≡ list_any (λ (s : Span T). int_eq (rank s.from) t) ss
      each [] = refl
      each (s ∷ ss) = ap (λ b. int_eq (rank s.from) t || b) (each ss)

  -- what starts behind a span that does not start before t starts behind t
  all_behind : (span : Span T) (spans : List (Span T)) (t : ℤ) → is_ascending (by_time rank (λ (s : Span T). s.from)) (span ∷ spans) ≡ true → int_lt (rank span.from) t ≡ false
      → list_all (λ (s : Span T). int_lt t (rank s.from)) spans ≡ true
  all_behind span spans t ascending not_before =
      list_all-weaker (by_time rank (λ (s : Span T). s.from) span) (λ (s : Span T). int_lt t (rank s.from)) (λ s later. int_lt-behind (rank span.from) (rank s.from) t later not_before) spans
      (ascending-first (by_time rank (λ (s : Span T). s.from)) span spans ascending)

  none_at : (spans : List (Span T)) (t : ℤ) → list_all (λ (s : Span T). int_lt t (rank s.from)) spans ≡ true → list_any (λ (s : Span T). int_eq (rank s.from) t) spans ≡ false
  none_at [] t all = refl
  none_at (s ∷ spans) t all = ap₂ (λ a b. a || b) (int_eq-from_gt (rank s.from) t (and-left _ _ all)) (none_at spans t (and-right _ _ all))

  none_before : (spans : List (Span T)) (t : ℤ) → list_all (λ (s : Span T). int_lt t (rank s.from)) spans ≡ true → spans_before rank t spans ≡ []
  none_before [] t all = refl
  none_before (s ∷ spans) t all =
      ap (λ b. cond b (s ∷ spans_before rank t spans) (spans_before rank t spans)) (int_lt-not_after t (rank s.from) (and-left _ _ all)) ∙ none_before spans t (and-right _ _ all)

  -- where the first span from t on does not begin at t, none does
  pub no_begin-at : (spans : List (Span T)) (t : ℤ) → is_ascending (by_time rank (λ (s : Span T). s.from)) spans ≡ true
      → IfSome (slice_get spans (length (spans_before rank t spans))) (λ span. int_eq (rank span.from) t ≡ false) → list_any (λ (s : Span T). int_eq (rank s.from) t) spans ≡ false
  no_begin-at [] t ascending apart = refl
  no_begin-at (s ∷ spans) t ascending apart =
      by_case (int_lt (rank s.from) t) refl apart (no_begin-at spans t (ascending-rest (by_time rank (λ (s : Span T). s.from)) s spans ascending))
    where
      by_case : (b : Bool) → int_lt (rank s.from) t ≡ b → IfSome (slice_get (s ∷ spans) (length (cond b (s ∷ spans_before rank t spans) (spans_before rank t spans)))) (λ span. int_eq (rank span.from) t ≡ false)
          → (IfSome (slice_get spans (length (spans_before rank t spans))) (λ span. int_eq (rank span.from) t ≡ false) → list_any (λ (s : Span T). int_eq (rank s.from) t) spans ≡ false)
          → list_any (λ (s : Span T). int_eq (rank s.from) t) (s ∷ spans) ≡ false
      by_case true before apart rest = ap₂ (λ a b. a || b) (int_eq-from_lt (rank s.from) t before) (rest apart)
      by_case false not_before apart rest =
          let later = all_behind s spans t ascending not_before in
          let here : int_eq (rank s.from) t ≡ false = subst (λ (ss : List (Span T)). IfSome (slice_get (s ∷ spans) (length ss)) (λ span. int_eq (rank span.from) t ≡ false)) (none_before spans t later) apart in
          ap₂ (λ a b. a || b) here (none_at spans t later)

  -- the span at a place begins at t
  pub from-span : (front : Option (End T)) (spans : List (Span T)) (i : ℕ) (span : Span T) (t : ℤ) → IsSpanRow rank spans → slice_get spans i ≡ Some span → rank span.from ≡ t
      → IsEndFrom (plain_intervals rank (front_members front ++ map span_interval spans)) t (plain_end rank span.end)
  from-span front spans i span t row is starts =
      let member = IsMember-slice_get spans i span is in record {
        interval = plain span;
        member =
            subst (λ (all : List Interval). Contains all (plain span)) (sym (plain-members rank front spans))
            (Contains-from_member (plain_intervals rank (front_members front) ++ plain_spans rank spans) (plain span)
            (IsMember-append_right (plain_intervals rank (front_members front)) (plain_spans rank spans) (plain span) (member-span spans span member)));
        begins = subst (λ u. int_eq (rank span.from) u ≡ true) starts (int_eq-same (rank span.from));
        until = refl;
        after = λ x ends. subst (λ u. int_lt u x ≡ true) starts (end-after (rank span.from) span.end x (list_all-member (is_proper rank) spans span row.proper member) ends);
      }
    where
      end-after : (s : ℤ) (end : End T) (x : ℤ) → ends_after rank s end ≡ true → plain_end rank end ≡ Some x → int_lt s x ≡ true
      end-after s (At y) x proper ends = let same : rank y ≡ x = cc in subst (λ u. int_lt s u ≡ true) same proper
      end-after s Unended x proper ends = let no = ends in absurd (cc)

-- the test that code makes of two times
pub is_le-int_le : (s t : ℤ) → is_le (int_cmp s t) ≡ int_le s t
is_le-int_le s t = grind (arith, ints)
