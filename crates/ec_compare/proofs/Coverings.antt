-- The interval of a row that covers a time is the first that does not end before it, if that begins before it.
use Rattle.std.proofs.Common.{◌≡◌, ℕ, suc, ℤ, Bool, true, false, not, ◌&&◌, cond, List, ◌∷◌, ◌++◌, filter, drop, find, length, Option, Some, None, refl, sym, ap, ◌∙◌, arith}
use Rattle.std.specs.Prelude.{int_lt, int_le, slice_get}
use Rattle.std.specs.List.{list_all}
use Rattle.std.specs.Option.{option_map_or}
use Rattle.std.proofs.lemmas.Int.{ints}
use Rattle.std.proofs.lemmas.List.{drop_all}
use Rattle.ec_lists.proofs.Booleans.{and-left}
use Rattle.ec_lists.proofs.Filters.{list_all-kept}
use Rattle.ec_lists.proofs.Finds.{find_agree, find-filter, find-none}
use Rattle.ec_lists.proofs.Fronts.{drop-slice_get}
use Rattle.ec_lists.proofs.Tests.{list_all-weaker, list_any-none}
use Rattle.ec_axioms.specs.Timeline.{Begin, before_all, begin_at, Interval, is_after, is_within_end, covers}
use Rattle.ec_commands.specs.Relations.{point_lt, begin_point, end_point}
use Rattle.ec_rows.specs.Ordered.{is_ascending}
use Rattle.ec_rows.proofs.OrderedLemmas.{ascending-first, is_ascending-filter}
use Rattle.ec_intervals.specs.Steps.{IsIntervalRow, ends_before}
use Rattle.ec_intervals.proofs.SpanCuts.{filter-both, drop-cut}
use Rattle.ec_compare.proofs.Rows.{begins_first, ends_first, begins-ascend, ends-ascend}

module _ (t : ℤ) where
  -- what covers the time does not end before it
  covers-reaches : (i : Interval) → covers t i ≡ (not (ends_before t i) && covers t i)
  covers-reaches i = by_end (is_after i.from t) i.until
    where
      one : (a : Bool) (x : ℤ) → (a && int_le t x) ≡ (not (int_lt x t) && (a && int_le t x))
      one a x = grind (arith, ints)

      by_end : (a : Bool) (until : Option ℤ) → (a && is_within_end until t) ≡ (not (option_map_or (λ x. int_lt x t) until false) && (a && is_within_end until t))
      by_end a None = refl
      by_end a (Some x) = one a x

  -- an interval that does not end before the time covers it where it begins before it
  reaching-covers : (i : Interval) → not (ends_before t i) ≡ true → covers t i ≡ is_after i.from t
  reaching-covers i lasts = by_end (is_after i.from t) i.until lasts
    where
      one : (a : Bool) (x : ℤ) → not (int_lt x t) ≡ true → (a && int_le t x) ≡ a
      one a x lasts = grind (arith, ints)

      by_end : (a : Bool) (until : Option ℤ) → not (option_map_or (λ x. int_lt x t) until false) ≡ true → (a && is_within_end until t) ≡ a
      by_end true None lasts = refl
      by_end false None lasts = refl
      by_end a (Some x) lasts = one a x lasts

  -- what begins behind one that does not begin before the time does not cover it
  later-misses : (i j : Interval) → is_after i.from t ≡ false → begins_first i j ≡ true → not (covers t j) ≡ true
  later-misses i j late first = by_begins i.from j.from (is_within_end j.until t) late first
    where
      after : (s r : ℤ) → int_lt s t ≡ false → int_lt s r ≡ true → int_lt r t ≡ false
      after s r late first = grind (arith, ints)

      by_begins : (from later : Begin) (within : Bool) → is_after from t ≡ false → point_lt (begin_point from) (begin_point later) ≡ true → not (is_after later t && within) ≡ true
      by_begins before_all later within late first = cc
      by_begins (begin_at s) before_all within late first = cc
      by_begins (begin_at s) (begin_at r) within late first = rw (after s r late first) refl

  module _ (xs : List Interval) (row : IsIntervalRow xs) (n : ℕ) (is : n ≡ length (filter (ends_before t) xs)) where
    abbrev lasting : Interval → Bool
    lasting i = not (ends_before t i)

    -- those that do not end before the time are the last ones
    ends-cut : filter (ends_before t) xs ++ filter lasting xs ≡ xs
    ends-cut = filter-both ends_first (ends_before t) (λ i j first ends. earlier i.until j.until first ends) xs (ends-ascend xs row)
      where
        between : (x y : ℤ) → int_lt x y ≡ true → int_lt y t ≡ true → int_lt x t ≡ true
        between x y first ends = grind (arith, ints)

        earlier : (until later : Option ℤ) → point_lt (end_point until) (end_point later) ≡ true → option_map_or (λ x. int_lt x t) later false ≡ true
            → option_map_or (λ x. int_lt x t) until false ≡ true
        earlier None None first ends = cc
        earlier None (Some y) first ends = cc
        earlier (Some x) None first ends = cc
        earlier (Some x) (Some y) first ends = between x y first ends

    left : drop n xs ≡ filter lasting xs
    left = ap (λ k. drop k xs) is ∙ drop-cut (ends_before t) xs ends-cut

    find-left : find (covers t) xs ≡ find (covers t) (drop n xs)
    find-left = find_agree (covers t) (λ i. lasting i && covers t i) covers-reaches xs ∙ sym (find-filter (covers t) lasting xs) ∙ ap (find (covers t)) (sym left)

    -- where all end before the time, none covers it
    pub find-covers_end : n ≡ length xs → find (covers t) xs ≡ None
    find-covers_end end = find-left ∙ ap (find (covers t)) (drop_all n xs (omega (arith, end)))

    module _ (i : Interval) (read : slice_get xs n ≡ Some i) where
      cons : drop n xs ≡ i ∷ drop (suc n) xs
      cons = drop-slice_get xs n i read

      reaches : lasting i ≡ true
      reaches = and-left (lasting i) (list_all lasting (drop (suc n) xs)) (ap (list_all lasting) (sym cons ∙ left) ∙ list_all-kept lasting xs)

      -- the first of the others covers it where it begins before it
      pub find-covers_at : is_after i.from t ≡ true → find (covers t) xs ≡ Some i
      find-covers_at after =
          find-left ∙ ap (find (covers t)) cons ∙ ap (λ b. cond b (Some i) (find (covers t) (drop (suc n) xs))) (reaching-covers i reaches ∙ after)

      -- and where it does not, none does
      pub find-covers_none : is_after i.from t ≡ false → find (covers t) xs ≡ None
      find-covers_none late =
          let ascending : is_ascending begins_first (i ∷ drop (suc n) xs) ≡ true =
          ap (is_ascending begins_first) (sym cons ∙ left) ∙ is_ascending-filter begins_first lasting xs (begins-ascend xs row) in
          find-left ∙ ap (find (covers t)) cons ∙ ap (λ b. cond b (Some i) (find (covers t) (drop (suc n) xs))) (reaching-covers i reaches ∙ late)
          ∙ find-none (covers t) (drop (suc n) xs)
          (list_any-none (covers t) (drop (suc n) xs)
          (list_all-weaker (begins_first i) (λ j. not (covers t j)) (λ j first. later-misses i j late first) (drop (suc n) xs) (ascending-first begins_first i (drop (suc n) xs) ascending)))
