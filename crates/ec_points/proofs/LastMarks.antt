-- The marks of one property: the last before a time, the one at a time, and a row without it.
use Rattle.std.proofs.Common.{◌≡◌, ℕ, ◌+◌, ◌≤◌, ℤ, Bool, true, false, not, cond, List, [], ◌∷◌, length, filter, take, get_or, Some, None, refl, sym, ap, ◌∙◌, ⊎_elim, add-one, arith}
use Rattle.std.specs.Prelude.{slice_get, int_lt}
use Rattle.std.specs.List.{list_all, last_or, remove}
use Rattle.std.specs.List.Sorted.{IsPartitionPoint}
use Rattle.std.specs.Ordering.{int_eq}
use Rattle.std.proofs.lemmas.Bool.{cases_Bool}
use Rattle.std.proofs.lemmas.List.{drop_all, nil_from_length}
use Rattle.std.proofs.lemmas.Option.{slice_get_within, get_or_from_slice_get}
use Rattle.std.proofs.lemmas.List.Elements.{filter_agree}
use Rattle.ec_lists.proofs.Finds.{find-none}
use Rattle.ec_lists.proofs.Filters.{filter-map, filter-none, filter-not_any, length-filter_le}
use Rattle.ec_lists.proofs.Integers.{int_eq-from_lt, int_eq-neither, int_eq-not_lt, int_lt-behind, int_lt-not_after}
use Rattle.ec_lists.proofs.Tests.{list_all-weaker, list_any-none}
use Rattle.ec_axioms.specs.Marks.{PlainMark, last_mark_before}
use Rattle.ec_rows.specs.declared.mark.Mark.{Mark}
use Rattle.ec_rows.specs.Ordered.{is_ascending, by_time}
use Rattle.ec_rows.specs.Marks.{IsMarkRow, mark_at, mark_before, marks_after, marks_before}
use Rattle.ec_rows.specs.PlainMarks.{plain_mark, plain_marks}
use Rattle.ec_rows.proofs.OrderedLemmas.{is_at, ascending-first, ascending-rest, filter-not_at, find-at_cut}
use Rattle.ec_rows.proofs.TimedLemmas.{IsPlace-by_time, IsFreeAt-end, IsFreeAt-other, drop-after_at, drop-after_free, has_member-free}
use Rattle.ec_points.specs.Changes.{without_mark}
use Rattle.ec_points.proofs.Lists.{IsPartitionPoint-from_take, last_or-take, slice_get-dropped}

-- ---- the marks before a time stand in front

module _ {T : Type 0} (rank : T → ℤ) (t : ℤ) where
  -- a mark is before t
  abbrev is_before : Mark T → Bool
  is_before mark = int_lt (rank mark.at) t

  -- where a mark is not before t, none behind it is
  none-behind : (mark : Mark T) (marks : List (Mark T)) → is_before mark ≡ false → list_all (mark_before rank mark) marks ≡ true → filter is_before marks ≡ []
  none-behind mark marks not_before later =
      filter-none is_before marks
      (list_any-none is_before marks
      (list_all-weaker (mark_before rank mark) (λ m. not (is_before m))
      (λ m e. let behind = not_before_too (rank mark.at) (rank m.at) e not_before in ap not behind) marks later))
    where
      not_before_too : (a b : ℤ) → int_lt a b ≡ true → int_lt a t ≡ false → int_lt b t ≡ false
      not_before_too a b e h = int_lt-not_after t b (int_lt-behind a b t e h)

  -- the marks before t are as many as stand in front of the others
  pub take-count_before : (marks : List (Mark T)) → is_ascending (mark_before rank) marks ≡ true →
      take (length (filter is_before marks)) marks ≡ filter is_before marks
  take-count_before [] ascending = refl
  take-count_before (mark ∷ marks) ascending =
      ⊎_elim
      (λ before. ap (λ b. take (length (cond b (mark ∷ filter is_before marks) (filter is_before marks))) (mark ∷ marks)) before
      ∙ ap (λ ms. mark ∷ ms) (take-count_before marks (ascending-rest (mark_before rank) mark marks ascending))
      ∙ sym (ap (λ b. cond b (mark ∷ filter is_before marks) (filter is_before marks)) before))
      (λ not_before.
      let none : filter is_before (mark ∷ marks) ≡ [] =
      ap (λ b. cond b (mark ∷ filter is_before marks) (filter is_before marks)) not_before
      ∙ none-behind mark marks not_before (ascending-first (mark_before rank) mark marks ascending) in
      ap (λ ms. take (length ms) (mark ∷ marks)) none ∙ sym none)
      (cases_Bool (is_before mark))

module _ {T : Type 0} (rank : T → ℤ) (t : ℤ) (marks : List (Mark T)) where
  -- ---- the last mark

  -- the marks before t, as whole numbers
  pub before-plain : filter (λ (mark : PlainMark). int_lt mark.instant t) (plain_marks rank marks) ≡ plain_marks rank (marks_before rank t marks)
  before-plain = filter-map (λ (mark : PlainMark). int_lt mark.instant t) (plain_mark rank) marks

  -- the mark in front of which all others before t stand is the last of them
  pub last_mark_before-some : (i : ℕ) (mark : Mark T) → IsMarkRow rank marks → i + 1 ≡ length (marks_before rank t marks) → slice_get marks i ≡ Some mark →
      Some (plain_mark rank mark) ≡ last_mark_before (plain_marks rank marks) t
  last_mark_before-some i mark row count read =
      sym (ap (last_or None) (before-plain ∙ ap (plain_marks rank) (sym (take-count_before rank t marks row.ascending)
      ∙ ap (λ n. take n marks) (sym count ∙ add-one i)))
      ∙ last_or-take (plain_mark rank) None marks i mark read)

  pub last_mark_before-none : length (marks_before rank t marks) ≡ 0 → None ≡ last_mark_before (plain_marks rank marks) t
  last_mark_before-none none = sym (ap (last_or None) (before-plain ∙ ap (plain_marks rank) (nil_from_length (marks_before rank t marks) none)))

  -- ---- the mark at a time

  -- the times of marks
  abbrev time_of : Mark T → T
  time_of mark = mark.at

  module _ (row : IsMarkRow rank marks) (i : ℕ) (count : i ≡ length (marks_before rank t marks)) where
    -- the row is cut where its marks stop to be before t
    cut : IsPartitionPoint (λ (m : Mark T). int_lt (rank m.at) t ≡ true) (λ m. int_lt (rank m.at) t ≡ false) marks i
    cut =
        let within = length-filter_le (λ (m : Mark T). int_lt (rank m.at) t) marks in
        IsPartitionPoint-from_take (λ (m : Mark T). int_lt (rank m.at) t) marks i (omega (arith, within, count)) (ap (λ n. take n marks) count ∙ take-count_before rank t marks row.ascending)

    -- a mark at t stands behind those before t
    pub without_mark-at : (mark : Mark T) → slice_get marks i ≡ Some mark → int_eq (rank mark.at) t ≡ true → remove marks i ≡ without_mark rank t marks
    without_mark-at mark read here =
        let there : int_lt t (rank (get_or marks i mark).at) ≡ false = rw (get_or_from_slice_get marks i mark mark read) (int_eq-not_lt (rank mark.at) t here) in
        sym (filter_agree (λ (m : Mark T). not (int_eq (rank m.at) t)) (λ m. not (is_at (λ (x : Mark T). int_lt (rank x.at) t) (λ x. int_lt t (rank x.at)) m))
        (λ m. ap not (int_eq-neither (rank m.at) t)) marks
        ∙ filter-not_at (by_time rank time_of) (λ m. int_lt (rank m.at) t) (λ m. int_lt t (rank m.at)) (IsPlace-by_time rank time_of t) marks i mark
        row.ascending cut (slice_get_within marks i mark read) there)

    -- where the row ends there, no mark is at t
    pub without_mark-end : length marks ≤ i → without_mark rank t marks ≡ marks
    without_mark-end end =
        let within = length-filter_le (λ (m : Mark T). int_lt (rank m.at) t) marks in
        filter-not_any (λ m. int_eq (rank m.at) t) marks
        (has_member-free rank time_of t marks i row.ascending cut (IsFreeAt-end rank time_of t marks i (omega (arith, within, count))))

    -- nor where the mark there is at another time
    pub without_mark-other : (mark : Mark T) → slice_get marks i ≡ Some mark → int_eq (rank mark.at) t ≡ false → without_mark rank t marks ≡ marks
    without_mark-other mark read other =
        filter-not_any (λ m. int_eq (rank m.at) t) marks
        (has_member-free rank time_of t marks i row.ascending cut
        (IsFreeAt-other rank time_of t marks i mark (sym (get_or_from_slice_get marks i mark mark read)) other))

    -- ---- what stands at the place and behind it

    -- the mark at t is found, and the first behind t follows it
    pub mark_at-here : (mark : Mark T) → slice_get marks i ≡ Some mark → int_eq (rank mark.at) t ≡ true → Some mark ≡ mark_at rank t marks
    mark_at-here mark read here =
        sym (find-at_cut (λ (m : Mark T). int_lt (rank m.at) t) (λ m. int_eq (rank m.at) t) (λ m. int_eq-from_lt (rank m.at) t) marks i mark cut (slice_get_within marks i mark read)
        (sym (get_or_from_slice_get marks i mark mark read)) here)

    pub after-here : (mark : Mark T) → slice_get marks i ≡ Some mark → int_eq (rank mark.at) t ≡ true → slice_get marks (i + 1) ≡ slice_get (marks_after rank t marks) 0
    after-here mark read here =
        ap (slice_get marks) (let e : i + 1 ≡ i + 1 + 0 = omega arith in e)
        ∙ sym (slice_get-dropped marks (i + 1) 0)
        ∙ ap (λ ms. slice_get ms 0) (drop-after_at rank time_of t marks i mark row.ascending cut (slice_get_within marks i mark read) (sym (get_or_from_slice_get marks i mark mark read)) here)

    -- where another mark stands there, none is at t, and that one is the first behind t
    pub mark_at-other : (mark : Mark T) → slice_get marks i ≡ Some mark → int_eq (rank mark.at) t ≡ false → None ≡ mark_at rank t marks
    mark_at-other mark read other =
        sym (find-none (λ (m : Mark T). int_eq (rank m.at) t) marks
        (has_member-free rank time_of t marks i row.ascending cut (IsFreeAt-other rank time_of t marks i mark (sym (get_or_from_slice_get marks i mark mark read)) other)))

    pub after-other : (mark : Mark T) → slice_get marks i ≡ Some mark → int_eq (rank mark.at) t ≡ false → Some mark ≡ slice_get (marks_after rank t marks) 0
    after-other mark read other =
        sym read
        ∙ ap (slice_get marks) (let e : i ≡ i + 0 = omega arith in e)
        ∙ sym (slice_get-dropped marks i 0)
        ∙ ap (λ ms. slice_get ms 0)
        (drop-after_free rank time_of t marks i row.ascending cut (IsFreeAt-other rank time_of t marks i mark (sym (get_or_from_slice_get marks i mark mark read)) other))

    -- where the row ends there, none is at t or behind
    pub mark_at-end : length marks ≤ i → None ≡ mark_at rank t marks
    mark_at-end end =
        let within = length-filter_le (λ (m : Mark T). int_lt (rank m.at) t) marks in
        sym (find-none (λ (m : Mark T). int_eq (rank m.at) t) marks
        (has_member-free rank time_of t marks i row.ascending cut (IsFreeAt-end rank time_of t marks i (omega (arith, within, count)))))

    pub after-end : length marks ≤ i → None ≡ slice_get (marks_after rank t marks) 0
    after-end end =
        let within = length-filter_le (λ (m : Mark T). int_lt (rank m.at) t) marks in
        sym (ap (λ ms. slice_get ms 0)
        (sym (drop-after_free rank time_of t marks i row.ascending cut (IsFreeAt-end rank time_of t marks i (omega (arith, within, count)))) ∙ drop_all i marks end))
