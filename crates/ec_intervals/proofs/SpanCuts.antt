-- Where a row of spans is cut by a time: which of its spans end before it, and which start up to it.
use Rattle.std.proofs.Common.{◌≡◌, ℕ, ◌+◌, ◌<◌, ◌≤◌, zero, suc, ℤ, Bool, true, false, cond, not, ◌&&◌, List, [], ◌∷◌, ◌++◌, map, filter, take, drop, length, Some, refl, ap, ap₂, sym, subst, ◌∙◌, inl, inr, ◌⊎◌, ⊎_elim, get_or, arith}
use Rattle.std.specs.Prelude.{int_lt, int_le, slice_get, IsTrue}
use Rattle.std.specs.List.{list_all, list_any, HoldsAt, take-map, drop-map}
use Rattle.std.specs.Option.{option_map_or}
use Rattle.std.specs.Ordering.{int_eq}
use Rattle.std.proofs.lemmas.Bool.{or_parts, false≢true, cases_Bool, not-true}
use Rattle.std.proofs.lemmas.Int.{ints}
use Rattle.std.proofs.lemmas.Option.{slice_get_past}
use Rattle.std.proofs.lemmas.List.Filters.{length-filter_both}
use Rattle.std.proofs.lemmas.List.Sums.{AllPass-from_list_all}
use Rattle.std.proofs.Math.Seq.{take-append_seam, drop-append_seam}
use Rattle.ec_rows.specs.Ordered.{is_ascending, by_time}
use Rattle.ec_rows.specs.Spans.{IsSpanRow, is_covering, reaches, ends_by, ends_after, span_before, spans_before, is_proper}
use Rattle.ec_rows.specs.declared.span.End.{End}
use Rattle.ec_rows.specs.declared.span.End.TheVariants.{At, Unended}
use Rattle.ec_rows.specs.declared.span.Span.{Span}
use Rattle.ec_lists.proofs.Booleans.{and-left, and-right}
use Rattle.ec_lists.proofs.Integers.{int_le_lt-trans, int_le-from_lt}
use Rattle.ec_rows.proofs.OrderedLemmas.{ascending-first, ascending-rest}
use Rattle.ec_rows.proofs.SpanLemmas.{by_time-from_row, IsSpanRow-rest}
use Rattle.ec_intervals.specs.Steps.{ends_before, begins_behind}
use Rattle.ec_intervals.specs.Table.{plain_spans, plain_interval, plain_end, span_interval, spans_up_to}
use Rattle.ec_lists.proofs.Tests.{list_any-none, list_all-weaker}
use Rattle.ec_lists.proofs.Filters.{filter-none, list_all-kept}

-- ---- lists

-- a list in order, of which what stands before a member that passes passes, is cut in two
pub filter-both : {X : Type 0} (stands_before : X → X → Bool) (p : X → Bool) → ((x y : X) → stands_before x y ≡ true → p y ≡ true → p x ≡ true) → (xs : List X) →
    is_ascending stands_before xs ≡ true → filter p xs ++ filter (λ x. not (p x)) xs ≡ xs
unfolding is_ascending
filter-both {X} stands_before p keeps [] ascending = refl
filter-both {X} stands_before p keeps (x ∷ xs) ascending =
    here (p x) refl (λ failing. filter-none p xs (list_any-none p xs (list_all-weaker (stands_before x) (λ y. not (p y)) (λ y before. fails y before failing (cases_Bool (p y))) xs (ascending-first stands_before x xs ascending))))
    (filter-both stands_before p keeps xs (ascending-rest stands_before x xs ascending))
  where
    fails : (y : X) → stands_before x y ≡ true → p x ≡ false → (p y ≡ true) ⊎ (p y ≡ false) → not (p y) ≡ true
    fails y before failing (inl passing) = absurd (false≢true (sym failing ∙ keeps x y before passing))
    fails y before failing (inr failing_too) = ap not failing_too

    here : (b : Bool) → p x ≡ b → (p x ≡ false → filter p xs ≡ []) → filter p xs ++ filter (λ y. not (p y)) xs ≡ xs →
        cond b (x ∷ filter p xs) (filter p xs) ++ cond (not b) (x ∷ filter (λ y. not (p y)) xs) (filter (λ y. not (p y)) xs) ≡ x ∷ xs
    here true is none rest = ap (λ ys. x ∷ ys) rest
    here false is none rest = ap (λ ys. ys ++ x ∷ filter (λ y. not (p y)) xs) (none is) ∙ ap (λ ys. x ∷ ys) (ap (λ ys. ys ++ filter (λ y. not (p y)) xs) (sym (none is)) ∙ rest)

pub take-cut : {X : Type 0} (p : X → Bool) (xs : List X) → filter p xs ++ filter (λ x. not (p x)) xs ≡ xs → take (length (filter p xs)) xs ≡ filter p xs
take-cut p xs both = ap (take (length (filter p xs))) (sym both) ∙ take-append_seam (filter p xs) (filter (λ x. not (p x)) xs)

pub drop-cut : {X : Type 0} (p : X → Bool) (xs : List X) → filter p xs ++ filter (λ x. not (p x)) xs ≡ xs → drop (length (filter p xs)) xs ≡ filter (λ x. not (p x)) xs
drop-cut p xs both = ap (drop (length (filter p xs))) (sym both) ∙ drop-append_seam (filter p xs) (filter (λ x. not (p x)) xs)

length-kept : {X : Type 0} (p : X → Bool) (n : ℕ) (xs : List X) → n ≤ length xs → list_all p (take n xs) ≡ true → n ≤ length (filter p xs)
length-kept p zero xs within all = omega arith
length-kept p (suc n) [] within all = absurd (omega arith)
length-kept p (suc n) (x ∷ xs) within all =
    let rest : n ≤ length (filter p xs) = length-kept p n xs (omega arith) (and-right (p x) (list_all p (take n xs)) all) in
    subst (λ b. suc n ≤ length (cond b (x ∷ filter p xs) (filter p xs))) (sym (and-left (p x) (list_all p (take n xs)) all)) (omega (arith, rest))

module _ {T : Type 0} (rank : T → ℤ) where
  pub plain-take : (n : ℕ) (spans : List (Span T)) → take n (plain_spans rank spans) ≡ plain_spans rank (take n spans)
  plain-take n spans = take-map (plain_interval rank) n (map span_interval spans) ∙ ap (map (plain_interval rank)) (take-map span_interval n spans)

  pub plain-drop : (n : ℕ) (spans : List (Span T)) → drop n (plain_spans rank spans) ≡ plain_spans rank (drop n spans)
  plain-drop n spans = drop-map (plain_interval rank) n (map span_interval spans) ∙ ap (map (plain_interval rank)) (drop-map span_interval n spans)

  -- ---- one span

  short-ends : (a : ℤ) (span : Span T) → reaches rank a span.end ≡ false → ends_before a (plain_interval rank (span_interval span)) ≡ true
  short-ends a span short = one span.end short
    where
      before : (x y : ℤ) → int_le x y ≡ false → int_lt y x ≡ true
      before x y is = grind (arith, ints)

      one : (end : End T) → reaches rank a end ≡ false → option_map_or (λ x. int_lt x a) (plain_end rank end) false ≡ true
      one (At x) short = before a (rank x) short
      one Unended short = absurd (false≢true (sym short))

  lasts : (a s : ℤ) (span : Span T) → ends_after rank s span.end ≡ true → int_lt s a ≡ false → not (ends_before a (plain_interval rank (span_interval span))) ≡ true
  lasts a s span after from = one span.end after
    where
      not_before : (s a x : ℤ) → int_lt s x ≡ true → int_lt s a ≡ false → not (int_lt x a) ≡ true
      not_before s a x after from = grind (arith, ints)

      one : (end : End T) → ends_after rank s end ≡ true → not (option_map_or (λ x. int_lt x a) (plain_end rank end) false) ≡ true
      one (At x) after = not_before s a (rank x) after from
      one Unended after = refl

  pub reaching-lasts : (a : ℤ) (span : Span T) → reaches rank a span.end ≡ true → not (ends_before a (plain_interval rank (span_interval span))) ≡ true
  reaching-lasts a span is = one span.end is
    where
      not_before : (a x : ℤ) → int_le a x ≡ true → not (int_lt x a) ≡ true
      not_before a x is = grind (arith, ints)

      one : (end : End T) → reaches rank a end ≡ true → not (option_map_or (λ x. int_lt x a) (plain_end rank end) false) ≡ true
      one (At x) is = not_before a (rank x) is
      one Unended is = refl

  ends_by-ends : (a t : ℤ) (span : Span T) → ends_by rank t span.end ≡ true → int_lt t a ≡ true → ends_before a (plain_interval rank (span_interval span)) ≡ true
  ends_by-ends a t span by before = one span.end by
    where
      one : (end : End T) → ends_by rank t end ≡ true → option_map_or (λ x. int_lt x a) (plain_end rank end) false ≡ true
      one (At x) by = int_le_lt-trans (rank x) t a by before
      one Unended by = absurd (false≢true by)

  -- a span that comes behind one which reaches a starts from a on
  behind-reaching : (a : ℤ) (span other : Span T) → reaches rank a span.end ≡ true → span_before rank span other ≡ true → int_lt (rank other.from) a ≡ false
  behind-reaching a span other is before = one span.end is before
    where
      not_before : (a x s : ℤ) → int_le a x ≡ true → int_le x s ≡ true → int_lt s a ≡ false
      not_before a x s is by = grind (arith, ints)

      one : (end : End T) → reaches rank a end ≡ true → ends_by rank (rank other.from) end ≡ true → int_lt (rank other.from) a ≡ false
      one (At x) is by = not_before a (rank x) (rank other.from) is by
      one Unended is by = absurd (false≢true by)

  -- ---- the spans that end before a time

  -- spans that start from a on do not end before it
  from-last : (a : ℤ) (spans : List (Span T)) → list_all (is_proper rank) spans ≡ true → list_all (λ (s : Span T). not (int_lt (rank s.from) a)) spans ≡ true →
      list_all (λ i. not (ends_before a i)) (plain_spans rank spans) ≡ true
  from-last a [] proper from = refl
  from-last a (s ∷ spans) proper from =
      ap₂ (λ x y. x && y) (lasts a (rank s.from) s (and-left (is_proper rank s) (list_all (is_proper rank) spans) proper) (not-true (int_lt (rank s.from) a) (and-left (not (int_lt (rank s.from) a)) _ from)))
      (from-last a spans (and-right (is_proper rank s) (list_all (is_proper rank) spans) proper) (and-right (not (int_lt (rank s.from) a)) _ from))

  -- where a span covers a time, those in front of it end before the time, and the others do not
  pub covering-cut : (a : ℤ) (spans : List (Span T)) (i : ℕ) → IsSpanRow rank spans → i < length spans → HoldsAt (λ s. IsTrue (is_covering rank a s)) spans i →
      (list_all (ends_before a) (take i (plain_spans rank spans)) ≡ true) × (list_all (λ j. not (ends_before a j)) (drop i (plain_spans rank spans)) ≡ true)
  covering-cut a [] i row within covers = absurd (omega arith)
  covering-cut a (s ∷ spans) zero row within covers =
      let reaching : reaches rank a s.end ≡ true = and-right (int_lt (rank s.from) a) (reaches rank a s.end) (covers s) in (
        refl,
        ap₂ (λ x y. x && y) (reaching-lasts a s reaching)
            (from-last a spans (and-right (is_proper rank s) (list_all (is_proper rank) spans) row.proper)
            (list_all-weaker (span_before rank s) (λ (other : Span T). not (int_lt (rank other.from) a)) (λ other before. ap not (behind-reaching a s other reaching before)) spans
            (ascending-first (span_before rank) s spans row.ascending))),
      )
  covering-cut a (s ∷ spans) (suc i) row within covers =
      let rest = covering-cut a spans i (IsSpanRow-rest rank s spans row) (omega arith) (λ d. covers d) in
      let by : ends_by rank (rank (get_or spans i s).from) s.end ≡ true =
      AllPass-from_list_all (span_before rank s) spans (ascending-first (span_before rank) s spans row.ascending) i s (omega arith) in
      (ap₂ (λ x y. x && y) (ends_by-ends a (rank (get_or spans i s).from) s by (and-left (int_lt (rank (get_or spans i s).from) a) (reaches rank a (get_or spans i s).end) (covers s))) rest.0, rest.1)

  -- where none does, those that start before it end before it
  pub uncovered-cut : (a : ℤ) (spans : List (Span T)) → IsSpanRow rank spans → list_any (is_covering rank a) spans ≡ false →
      (list_all (ends_before a) (take (length (spans_before rank a spans)) (plain_spans rank spans)) ≡ true)
      × (list_all (λ j. not (ends_before a j)) (drop (length (spans_before rank a spans)) (plain_spans rank spans)) ≡ true)
  uncovered-cut a [] row none = (refl, refl)
  uncovered-cut a (s ∷ spans) row none =
      let rest = uncovered-cut a spans (IsSpanRow-rest rank s spans row) (or_parts (is_covering rank a s) (list_any (is_covering rank a) spans) none).1 in
      ⊎_elim (λ earlier. subst (Is (s ∷ spans)) (sym (ap (λ b. cond b (s ∷ spans_before rank a spans) (spans_before rank a spans)) earlier))
      (ap₂ (λ x y. x && y) (short-ends a s (short earlier (or_parts (is_covering rank a s) (list_any (is_covering rank a) spans) none).0)) rest.0, rest.1))
      (λ from. subst (Is (s ∷ spans)) (sym (ap (λ b. cond b (s ∷ spans_before rank a spans) (spans_before rank a spans)) from ∙ filter-none (λ (other : Span T). int_lt (rank other.from) a) spans (list_any-none (λ (other : Span T). int_lt (rank other.from) a) spans (later from))))
      (refl, from-last a (s ∷ spans) row.proper (ap₂ (λ x y. not x && y) from (later from))))
      (cases_Bool (int_lt (rank s.from) a))
    where
      Is : List (Span T) → List (Span T) → Type 0
      Is whole front = (list_all (ends_before a) (take (length front) (plain_spans rank whole)) ≡ true) × (list_all (λ j. not (ends_before a j)) (drop (length front) (plain_spans rank whole)) ≡ true)

      short : int_lt (rank s.from) a ≡ true → is_covering rank a s ≡ false → reaches rank a s.end ≡ false
      short earlier uncovered = sym (ap (λ b. b && reaches rank a s.end) earlier) ∙ uncovered

      later : int_lt (rank s.from) a ≡ false → list_all (λ (other : Span T). not (int_lt (rank other.from) a)) spans ≡ true
      later from =
          list_all-weaker (by_time rank (λ (other : Span T). other.from) s) (λ (other : Span T). not (int_lt (rank other.from) a)) (λ other before. after (rank s.from) (rank other.from) from before) spans
          (ascending-first (by_time rank (λ (other : Span T). other.from)) s spans (by_time-from_row rank (s ∷ spans) row))
        where
          after : (x y : ℤ) → int_lt x a ≡ false → int_lt x y ≡ true → not (int_lt y a) ≡ true
          after x y from before = grind (arith, ints)

  -- no more start before a time than there are
  pub before-within : (t : ℤ) (spans : List (Span T)) (n : ℕ) → n ≡ length (spans_before rank t spans) → n ≤ length spans
  before-within t spans n count =
      let both = length-filter_both (λ (s : Span T). int_lt (rank s.from) t) (λ (s : Span T). not (int_lt (rank s.from) t)) (λ s. refl) spans in
      omega (arith, both, count)

  -- ---- the spans that start up to a time

  -- as many as start before it, and one more where the next one starts at it
  pub length-spans_up_to : (t : ℤ) (spans : List (Span T)) → IsSpanRow rank spans →
      length (spans_up_to rank t spans) ≡ length (spans_before rank t spans) + cond (option_map_or (λ (s : Span T). int_eq (rank s.from) t) (slice_get spans (length (spans_before rank t spans))) false) 1 0
  length-spans_up_to t [] row = refl
  length-spans_up_to t (s ∷ spans) row =
      ⊎_elim (earlier (length-spans_up_to t spans (IsSpanRow-rest rank s spans row))) from (cases_Bool (int_lt (rank s.from) t))
    where
      IsCount : List (Span T) → List (Span T) → Type 0
      IsCount before up_to = length up_to ≡ length before + cond (option_map_or (λ (other : Span T). int_eq (rank other.from) t) (slice_get (s ∷ spans) (length before)) false) 1 0

      earlier : length (spans_up_to rank t spans) ≡ length (spans_before rank t spans) + cond (option_map_or (λ (other : Span T). int_eq (rank other.from) t) (slice_get spans (length (spans_before rank t spans))) false) 1 0 →
          int_lt (rank s.from) t ≡ true → IsCount (spans_before rank t (s ∷ spans)) (spans_up_to rank t (s ∷ spans))
      earlier rest before =
          subst (λ b. IsCount (cond b (s ∷ spans_before rank t spans) (spans_before rank t spans)) (spans_up_to rank t (s ∷ spans))) (sym before)
          (subst (λ b. IsCount (s ∷ spans_before rank t spans) (cond b (s ∷ spans_up_to rank t spans) (spans_up_to rank t spans))) (sym (int_le-from_lt (rank s.from) t before))
          (omega (arith, rest)))

      later : int_lt (rank s.from) t ≡ false → list_all (λ (other : Span T). int_lt t (rank other.from)) spans ≡ true
      later at_least =
          list_all-weaker (by_time rank (λ (other : Span T). other.from) s) (λ (other : Span T). int_lt t (rank other.from)) (λ other before. after (rank s.from) (rank other.from) at_least before) spans
          (ascending-first (by_time rank (λ (other : Span T). other.from)) s spans (by_time-from_row rank (s ∷ spans) row))
        where
          after : (x y : ℤ) → int_lt x t ≡ false → int_lt x y ≡ true → int_lt t y ≡ true
          after x y at_least before = grind (arith, ints)

      from : int_lt (rank s.from) t ≡ false → IsCount (spans_before rank t (s ∷ spans)) (spans_up_to rank t (s ∷ spans))
      from at_least =
          subst (λ xs. IsCount xs (spans_up_to rank t (s ∷ spans)))
          (sym (ap (λ b. cond b (s ∷ spans_before rank t spans) (spans_before rank t spans)) at_least
          ∙ filter-none (λ (other : Span T). int_lt (rank other.from) t) spans (list_any-none (λ (other : Span T). int_lt (rank other.from) t) spans (list_all-weaker (λ (other : Span T). int_lt t (rank other.from)) (λ (other : Span T). not (int_lt (rank other.from) t)) (λ other. not_before (rank other.from)) spans (later at_least)))))
          (ap (λ xs. length (cond (int_le (rank s.from) t) (s ∷ xs) xs))
          (filter-none (λ (other : Span T). int_le (rank other.from) t) spans (list_any-none (λ (other : Span T). int_le (rank other.from) t) spans (list_all-weaker (λ (other : Span T). int_lt t (rank other.from)) (λ (other : Span T). not (int_le (rank other.from) t)) (λ other. not_up_to (rank other.from)) spans (later at_least))))
          ∙ ap (λ b. length (cond {A = List (Span T)} b (s ∷ []) [])) (equal (rank s.from) at_least) ∙ one (int_eq (rank s.from) t))
        where
          not_before : (y : ℤ) → int_lt t y ≡ true → not (int_lt y t) ≡ true
          not_before y after = grind (arith, ints)

          not_up_to : (y : ℤ) → int_lt t y ≡ true → not (int_le y t) ≡ true
          not_up_to y after = grind (arith, ints)

          equal : (x : ℤ) → int_lt x t ≡ false → int_le x t ≡ int_eq x t
          equal x at_least = grind (arith, ints)

          one : (b : Bool) → length (cond {A = List (Span T)} b (s ∷ []) []) ≡ 0 + cond b 1 0
          one true = refl
          one false = refl

  -- so where the next one does, and where it does not
  module _ (t : ℤ) (spans : List (Span T)) (row : IsSpanRow rank spans) where
    pub up_to-end : length (spans_before rank t spans) ≡ length spans → length (spans_before rank t spans) ≡ length (spans_up_to rank t spans)
    up_to-end end =
        let count = length-spans_up_to t spans row
        ∙ ap (λ o. length (spans_before rank t spans) + cond (option_map_or (λ (s : Span T). int_eq (rank s.from) t) o false) 1 0) (slice_get_past spans (length (spans_before rank t spans)) (omega arith)) in
        omega (arith, count)

    module _ (span : Span T) (read : slice_get spans (length (spans_before rank t spans)) ≡ Some span) where
      pub up_to-at : int_eq (rank span.from) t ≡ true → length (spans_before rank t spans) + 1 ≡ length (spans_up_to rank t spans)
      up_to-at at = sym (length-spans_up_to t spans row ∙ ap (λ o. length (spans_before rank t spans) + cond (option_map_or (λ (s : Span T). int_eq (rank s.from) t) o false) 1 0) read ∙ ap (λ b. length (spans_before rank t spans) + cond b 1 0) at)

      pub up_to-other : int_eq (rank span.from) t ≡ false → length (spans_before rank t spans) ≡ length (spans_up_to rank t spans)
      up_to-other other =
          let count = length-spans_up_to t spans row ∙ ap (λ o. length (spans_before rank t spans) + cond (option_map_or (λ (s : Span T). int_eq (rank s.from) t) o false) 1 0) read ∙ ap (λ b. length (spans_before rank t spans) + cond b 1 0) other in
          omega (arith, count)

  -- ---- in order

  -- no more spans end before a time than start up to a later one
  pub ended-up_to : (a t : ℤ) (spans : List (Span T)) (n : ℕ) → IsSpanRow rank spans → int_le a t ≡ true → n ≤ length spans → list_all (ends_before a) (take n (plain_spans rank spans)) ≡ true →
      n ≤ length (spans_up_to rank t spans)
  ended-up_to a t spans n row later within ended =
      length-kept (λ (s : Span T). int_le (rank s.from) t) n spans within (each n spans row.proper ended)
    where
      each : (n : ℕ) (spans : List (Span T)) → list_all (is_proper rank) spans ≡ true → list_all (ends_before a) (take n (plain_spans rank spans)) ≡ true →
          list_all (λ (s : Span T). int_le (rank s.from) t) (take n spans) ≡ true
      each zero spans proper ended = refl
      each (suc n) [] proper ended = refl
      each (suc n) (s ∷ spans) proper ended =
          ap₂ (λ x y. x && y) (one s.end (and-left _ _ proper) (and-left _ _ ended)) (each n spans (and-right _ _ proper) (and-right _ _ ended))
        where
          between : (s x : ℤ) → int_lt s x ≡ true → int_lt x a ≡ true → int_le s t ≡ true
          between s x after before = grind (arith, ints)

          one : (end : End T) → ends_after rank (rank s.from) end ≡ true → option_map_or (λ x. int_lt x a) (plain_end rank end) false ≡ true → int_le (rank s.from) t ≡ true
          one (At x) after before = between (rank s.from) (rank x) after before
          one Unended after before = absurd (false≢true before)

  -- the spans that start up to a time, and those behind it
  module _ (t : ℤ) (spans : List (Span T)) (row : IsSpanRow rank spans) where
    both-up_to : spans_up_to rank t spans ++ filter (λ (s : Span T). not (int_le (rank s.from) t)) spans ≡ spans
    both-up_to =
        filter-both (by_time rank (λ (s : Span T). s.from)) (λ (s : Span T). int_le (rank s.from) t) (λ s other. up_to_too (rank s.from) (rank other.from)) spans (by_time-from_row rank spans row)
      where
        up_to_too : (x y : ℤ) → int_lt x y ≡ true → int_le y t ≡ true → int_le x t ≡ true
        up_to_too x y before up_to = grind (arith, ints)

    pub taken-up_to : list_all (λ i. not (begins_behind t i)) (take (length (spans_up_to rank t spans)) (plain_spans rank spans)) ≡ true
    taken-up_to =
        ap (λ xs. list_all (λ i. not (begins_behind t i)) xs) (plain-take (length (spans_up_to rank t spans)) spans ∙ ap (plain_spans rank) (take-cut (λ (s : Span T). int_le (rank s.from) t) spans both-up_to))
        ∙ each (spans_up_to rank t spans) (list_all-kept (λ (s : Span T). int_le (rank s.from) t) spans)
      where
        not_behind : (x : ℤ) → int_le x t ≡ true → not (int_lt t x) ≡ true
        not_behind x up_to = grind (arith, ints)

        each : (xs : List (Span T)) → list_all (λ (s : Span T). int_le (rank s.from) t) xs ≡ true → list_all (λ i. not (begins_behind t i)) (plain_spans rank xs) ≡ true
        each [] all = refl
        each (s ∷ xs) all = ap₂ (λ x y. x && y) (not_behind (rank s.from) (and-left (int_le (rank s.from) t) _ all)) (each xs (and-right (int_le (rank s.from) t) _ all))

    pub dropped-up_to : list_all (begins_behind t) (drop (length (spans_up_to rank t spans)) (plain_spans rank spans)) ≡ true
    dropped-up_to =
        ap (list_all (begins_behind t)) (plain-drop (length (spans_up_to rank t spans)) spans ∙ ap (plain_spans rank) (drop-cut (λ (s : Span T). int_le (rank s.from) t) spans both-up_to))
        ∙ each (filter (λ (s : Span T). not (int_le (rank s.from) t)) spans) (list_all-kept (λ (s : Span T). not (int_le (rank s.from) t)) spans)
      where
        behind : (x : ℤ) → not (int_le x t) ≡ true → int_lt t x ≡ true
        behind x after = grind (arith, ints)

        each : (xs : List (Span T)) → list_all (λ (s : Span T). not (int_le (rank s.from) t)) xs ≡ true → list_all (begins_behind t) (plain_spans rank xs) ≡ true
        each [] all = refl
        each (s ∷ xs) all = ap₂ (λ x y. x && y) (behind (rank s.from) (and-left (not (int_le (rank s.from) t)) _ all)) (each xs (and-right (not (int_le (rank s.from) t)) _ all))
