-- A row of intervals: its begins and its ends ascend.
use Rattle.std.proofs.Common.{◌≡◌, ℤ, Bool, true, false, ◌&&◌, List, [], ◌∷◌, Option, Some, None, refl, sym, ap₂, ◌∙◌, arith}
use Rattle.std.specs.Prelude.{int_lt, int_le}
use Rattle.std.specs.List.{list_all}
use Rattle.std.specs.Option.{option_map_or}
use Rattle.std.proofs.lemmas.Bool.{false≢true}
use Rattle.std.proofs.lemmas.Int.{ints}
use Rattle.ec_lists.proofs.Booleans.{and-left, and-right}
use Rattle.ec_axioms.specs.Timeline.{Begin, before_all, begin_at, Interval, is_after}
use Rattle.ec_commands.specs.Relations.{point_lt, begin_point, end_point, is_proper}
use Rattle.ec_rows.specs.Ordered.{is_ascending}
use Rattle.ec_rows.proofs.OrderedLemmas.{ascending-first, ascending-rest}
use Rattle.ec_intervals.specs.Steps.{IsIntervalRow, begins_from, comes_before, is_proper as is_proper_interval}

-- an interval is proper by its points as it is by its times
pub proper-points : (i : Interval) → is_proper_interval i ≡ is_proper i
proper-points i = by_ends i.from i.until
  where
    by_ends : (from : Begin) (until : Option ℤ) → option_map_or (is_after from) until true ≡ point_lt (begin_point from) (end_point until)
    by_ends before_all None = refl
    by_ends before_all (Some x) = refl
    by_ends (begin_at s) None = refl
    by_ends (begin_at s) (Some x) = refl

-- one that comes before another begins before it, and ends before it
abbrev pub begins_first : Interval → Interval → Bool
begins_first i j = point_lt (begin_point i.from) (begin_point j.from)

abbrev pub ends_first : Interval → Interval → Bool
ends_first i j = point_lt (end_point i.until) (end_point j.until)

comes-begins : (i j : Interval) → is_proper_interval i ≡ true → comes_before i j ≡ true → begins_first i j ≡ true
comes-begins i j proper before = by_ends i.from i.until j.from proper before
  where
    between : (s x t : ℤ) → int_lt s x ≡ true → int_le x t ≡ true → int_lt s t ≡ true
    between s x t before by = grind (arith, ints)

    by_ends : (from : Begin) (until : Option ℤ) (later : Begin) → option_map_or (is_after from) until true ≡ true → option_map_or (λ x. begins_from x later) until false ≡ true
        → point_lt (begin_point from) (begin_point later) ≡ true
    by_ends from None later proper before = absurd (false≢true before)
    by_ends from (Some x) before_all proper before = absurd (false≢true before)
    by_ends before_all (Some x) (begin_at t) proper before = refl
    by_ends (begin_at s) (Some x) (begin_at t) proper before = between s x t proper before

comes-ends : (i j : Interval) → is_proper_interval j ≡ true → comes_before i j ≡ true → ends_first i j ≡ true
comes-ends i j proper before = by_ends i.until j.from j.until proper before
  where
    between : (x t y : ℤ) → int_le x t ≡ true → int_lt t y ≡ true → int_lt x y ≡ true
    between x t y by before = grind (arith, ints)

    by_ends : (until : Option ℤ) (from : Begin) (later : Option ℤ) → option_map_or (is_after from) later true ≡ true → option_map_or (λ x. begins_from x from) until false ≡ true
        → point_lt (end_point until) (end_point later) ≡ true
    by_ends None from later proper before = absurd (false≢true before)
    by_ends (Some x) before_all later proper before = absurd (false≢true before)
    by_ends (Some x) (begin_at t) None proper before = refl
    by_ends (Some x) (begin_at t) (Some y) proper before = between x t y before proper

-- so the begins of a row ascend
pub begins-ascend : (xs : List Interval) → IsIntervalRow xs → is_ascending begins_first xs ≡ true
unfolding is_ascending
begins-ascend [] row = refl
begins-ascend (i ∷ xs) row =
    let proper = and-left (is_proper_interval i) (list_all is_proper_interval xs) row.proper in
    ap₂ (λ a b. a && b) (later proper xs (ascending-first comes_before i xs row.ascending))
    (begins-ascend xs (record { proper = and-right (is_proper_interval i) (list_all is_proper_interval xs) row.proper; ascending = ascending-rest comes_before i xs row.ascending }))
  where
    later : is_proper_interval i ≡ true → (ys : List Interval) → list_all (comes_before i) ys ≡ true → list_all (begins_first i) ys ≡ true
    later proper [] all = refl
    later proper (y ∷ ys) all =
        ap₂ (λ a b. a && b) (comes-begins i y proper (and-left (comes_before i y) (list_all (comes_before i) ys) all))
        (later proper ys (and-right (comes_before i y) (list_all (comes_before i) ys) all))

-- and so do its ends
pub ends-ascend : (xs : List Interval) → IsIntervalRow xs → is_ascending ends_first xs ≡ true
unfolding is_ascending
ends-ascend [] row = refl
ends-ascend (i ∷ xs) row =
    let others = and-right (is_proper_interval i) (list_all is_proper_interval xs) row.proper in
    ap₂ (λ a b. a && b) (later xs others (ascending-first comes_before i xs row.ascending))
    (ends-ascend xs (record { proper = others; ascending = ascending-rest comes_before i xs row.ascending }))
  where
    later : (ys : List Interval) → list_all is_proper_interval ys ≡ true → list_all (comes_before i) ys ≡ true → list_all (ends_first i) ys ≡ true
    later [] proper all = refl
    later (y ∷ ys) proper all =
        ap₂ (λ a b. a && b)
        (comes-ends i y (and-left (is_proper_interval y) (list_all is_proper_interval ys) proper) (and-left (comes_before i y) (list_all (comes_before i) ys) all))
        (later ys (and-right (is_proper_interval y) (list_all is_proper_interval ys) proper) (and-right (comes_before i y) (list_all (comes_before i) ys) all))

-- each interval of a row is proper
pub all-proper : (xs : List Interval) → list_all is_proper_interval xs ≡ true → list_all is_proper xs ≡ true
all-proper [] all = refl
all-proper (i ∷ xs) all =
    ap₂ (λ a b. a && b) (sym (proper-points i) ∙ and-left (is_proper_interval i) (list_all is_proper_interval xs) all)
    (all-proper xs (and-right (is_proper_interval i) (list_all is_proper_interval xs) all))
