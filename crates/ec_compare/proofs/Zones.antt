-- Those of a row that end before an interval begins are its first ones, and those that begin behind its end are its last.
use Rattle.std.proofs.Common.{◌≡◌, ℕ, ◌-◌, ◌≤◌, suc, Bool, true, false, not, cond, List, [], ◌∷◌, ◌++◌, Option, Some, None, map, filter, take, drop, length, refl, sym, ap, subst, ◌∙◌, arith}
use Rattle.std.specs.Prelude.{ℤ}
use Rattle.std.proofs.lemmas.Bool.{false≢true, not-true}
use Rattle.std.proofs.lemmas.List.{length-map, take_rest}
use Rattle.std.proofs.lemmas.List.Elements.{filter_agree}
use Rattle.std.proofs.lemmas.List.Filters.{length-filter_both}
use Rattle.ec_lists.proofs.Filters.{length-filter_le}
use Rattle.ec_axioms.specs.Timeline.{Begin, before_all, begin_at, Interval}
use Rattle.ec_commands.specs.declared.relation.Relation.TheVariants.{Before, After}
use Rattle.ec_commands.specs.Relations.{below, above, point_lt, begin_point, end_point, stands_in}
use Rattle.ec_commands.proofs.RelationLaws.{point_lt-trans}
use Rattle.ec_intervals.specs.Steps.{IsIntervalRow}
use Rattle.ec_intervals.proofs.SpanCuts.{filter-both, take-cut, drop-cut}
use Rattle.ec_compare.specs.Stretches.{stretch}
use Rattle.ec_compare.proofs.Rows.{begins_first, ends_first, begins-ascend, ends-ascend}

-- ---- zones

-- an interval ends before another one, or does not begin behind it
abbrev pub ends_ahead : Interval → Interval → Bool
ends_ahead i j = point_lt (end_point j.until) (begin_point i.from)

abbrev pub begins_by : Interval → Interval → Bool
begins_by i j = not (point_lt (end_point i.until) (begin_point j.from))

-- none ends before what begins before all, and each begins by what does not end
pub none-ended : (xs : List Interval) → 0 ≡ length (filter (λ (j : Interval). point_lt (end_point j.until) below) xs)
none-ended [] = refl
none-ended (j ∷ xs) = none-ended xs ∙ ap (λ b. length (cond b (j ∷ filter (λ (k : Interval). point_lt (end_point k.until) below) xs) (filter (λ (k : Interval). point_lt (end_point k.until) below) xs))) (sym (never j.until))
  where
    never : (until : Option ℤ) → point_lt (end_point until) below ≡ false
    never None = refl
    never (Some x) = refl

pub all-begun : (xs : List Interval) → length xs ≡ length (filter (λ (j : Interval). not (point_lt above (begin_point j.from))) xs)
all-begun [] = refl
all-begun (j ∷ xs) = ap suc (all-begun xs) ∙ ap (λ b. length (cond b (j ∷ filter (λ (k : Interval). not (point_lt above (begin_point k.from))) xs) (filter (λ (k : Interval). not (point_lt above (begin_point k.from))) xs))) (sym (each j.from))
  where
    each : (from : Begin) → not (point_lt above (begin_point from)) ≡ true
    each before_all = refl
    each (begin_at s) = refl

module _ (i : Interval) (xs : List Interval) (row : IsIntervalRow xs) where
  -- those that end before it begins are the first
  pub zone-after : (n : ℕ) → n ≡ length (filter (ends_ahead i) xs) → stretch 0 n xs ≡ filter (stands_in After i) xs
  zone-after n is =
      let whole : n - 0 ≡ length (filter (ends_ahead i) xs) = omega (arith, is) in
      ap (λ m. take m xs) whole ∙ take-cut (ends_ahead i) xs both
    where
      both : filter (ends_ahead i) xs ++ filter (λ j. not (ends_ahead i j)) xs ≡ xs
      both =
          filter-both ends_first (ends_ahead i) (λ j k first is. point_lt-trans (end_point j.until) (end_point k.until) (begin_point i.from) first is) xs (ends-ascend xs row)

  -- and those that begin behind its end are the last
  pub zone-before : (n m : ℕ) → n ≡ length (filter (begins_by i) xs) → m ≡ length xs → stretch n m xs ≡ filter (stands_in Before i) xs
  zone-before n m is end =
      ap (λ k. take (k - n) (drop n xs)) end
      ∙ take_rest xs n ∙ ap (λ k. drop k xs) is ∙ drop-cut (begins_by i) xs both
      ∙ filter_agree (λ j. not (begins_by i j)) (stands_in Before i) (λ j. not-not (point_lt (end_point i.until) (begin_point j.from))) xs
    where
      earlier : (j k : Interval) → begins_first j k ≡ true → (b : Bool) → point_lt (end_point i.until) (begin_point j.from) ≡ b → begins_by i k ≡ true → not b ≡ true
      earlier j k first false behind is = refl
      earlier j k first true behind is =
          absurd (false≢true (sym (not-true (point_lt (end_point i.until) (begin_point k.from)) is)
          ∙ point_lt-trans (end_point i.until) (begin_point j.from) (begin_point k.from) behind first))

      both : filter (begins_by i) xs ++ filter (λ j. not (begins_by i j)) xs ≡ xs
      both = filter-both begins_first (begins_by i) (λ j k first is. earlier j k first (point_lt (end_point i.until) (begin_point j.from)) refl is) xs (begins-ascend xs row)

      not-not : (b : Bool) → not (not b) ≡ b
      not-not true = refl
      not-not false = refl

-- ---- counts

-- those that begin behind it are the others than those that do not
pub count-before : (i : Interval) (xs : List Interval) (n m : ℕ) → n ≡ length (filter (begins_by i) xs) → m ≡ length xs → m - n ≡ length (filter (stands_in Before i) xs)
count-before i xs n m is end =
    let both = length-filter_both (stands_in Before i) (begins_by i) (λ j. refl) xs in
    omega (arith, both, is, end)

pub few-begun : (i : Interval) (xs : List Interval) (n m : ℕ) → n ≡ length (filter (begins_by i) xs) → m ≡ length xs → n ≤ m
few-begun i xs n m is end =
    let both = length-filter_both (stands_in Before i) (begins_by i) (λ j. refl) xs in
    omega (arith, both, is, end)

-- no more members of a kept list pass than there are
pub few-filtered : {X Y : Type 0} (p : Y → Bool) (f : X → Y) (xs : List X) (n : ℕ) → n ≡ length (filter p (map f xs)) → n ≤ length xs
few-filtered p f xs n is = subst (λ m. m ≤ length xs) (sym is) (subst (λ m. length (filter p (map f xs)) ≤ m) (length-map xs f) (length-filter_le p (map f xs)))
