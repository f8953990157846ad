-- A row of marks with another mark at one time, or with none there.
use Rattle.std.proofs.Common.{◌≡◌, ℤ, Bool, true, false, cond, not, ◌&&◌, List, [], ◌∷◌, ◌++◌, filter, find, Option, Some, None, refl, ap, ap₂, sym, ◌∙◌, arith}
use Rattle.std.specs.Prelude.{int_lt}
use Rattle.std.specs.List.{list_all}
use Rattle.std.specs.Option.{option_map_or, option_or, option_to_list}
use Rattle.std.specs.Ordering.{int_eq}
use Rattle.std.proofs.lemmas.Bool.{false≢true}
use Rattle.std.proofs.lemmas.Int.{ints}
use Rattle.std.proofs.lemmas.List.Folds.{find-append}
use Rattle.ec_rows.specs.declared.mark.Mark.{Mark}
use Rattle.ec_rows.specs.Marks.{IsMarkRow, is_counted, mark_before, mark_at, marks_before, marks_after}
use Rattle.ec_rows.specs.Ordered.{is_ascending}
use Rattle.ec_rows.proofs.KnownByTimes.{by_time-ext}
use Rattle.ec_lists.proofs.Booleans.{and-left, and-right}
use Rattle.ec_rows.proofs.OrderedLemmas.{ascending-first, ascending-rest, is_ascending-filter}
use Rattle.ec_intervals.proofs.PassOrder.{list_all-cons, is_ascending-cons}
use Rattle.ec_intervals.proofs.TwoRows.{list_all-both}
use Rattle.ec_lists.proofs.Booleans.{cond-same}
use Rattle.ec_lists.proofs.Finds.{find-filter, find_agree, find-none}
use Rattle.ec_lists.proofs.Integers.{int_eq-is, int_lt-not_after}
use Rattle.ec_lists.proofs.Tests.{list_all-weaker, list_all-each, list_all-filter, list_any-none}
use Rattle.ec_lists.proofs.Filters.{list_all-kept}

-- ---- lists

-- what is found passes the test
find-passes : {X : Type 0} (p : X → Bool) (xs : List X) → option_map_or p (find p xs) true ≡ true
find-passes p [] = refl
find-passes p (x ∷ xs) = here (p x) refl (find-passes p xs)
  where
    here : (b : Bool) → p x ≡ b → option_map_or p (find p xs) true ≡ true → option_map_or p (cond b (Some x) (find p xs)) true ≡ true
    here true is rest = is
    here false is rest = rest

-- and what all pass
find-of_all : {X : Type 0} (p q : X → Bool) (xs : List X) → list_all q xs ≡ true → option_map_or q (find p xs) true ≡ true
find-of_all p q [] all = refl
find-of_all p q (x ∷ xs) all = here (p x) (find-of_all p q xs (and-right (q x) _ all))
  where
    here : (b : Bool) → option_map_or q (find p xs) true ≡ true → option_map_or q (cond b (Some x) (find p xs)) true ≡ true
    here true rest = and-left (q x) _ all
    here false rest = rest

-- a search in a part which has all or none of those that pass
find-part : {X : Type 0} (p q : X → Bool) (b : Bool) → ((x : X) → (q x && p x) ≡ (b && p x)) → (xs : List X) → find p (filter q xs) ≡ cond b (find p xs) None
find-part {X} p q b same xs = find-filter p q xs ∙ find_agree (λ x. q x && p x) (λ x. b && p x) same xs ∙ all_or_none b
  where
    all_or_none : (b : Bool) → find (λ x. b && p x) xs ≡ cond b (find p xs) None
    all_or_none true = refl
    all_or_none false = find-none (λ x. false) xs (list_any-none (λ x. false) xs (list_all-each xs))

-- two lists in order, the first of which stands before the second, are one
is_ascending-append : {X : Type 0} (stands_before : X → X → Bool) (xs ys : List X) → is_ascending stands_before xs ≡ true → is_ascending stands_before ys ≡ true →
    list_all (λ x. list_all (stands_before x) ys) xs ≡ true → is_ascending stands_before (xs ++ ys) ≡ true
unfolding is_ascending
is_ascending-append stands_before [] ys first second before = second
is_ascending-append stands_before (x ∷ xs) ys first second before =
    ap₂ (λ a b. a && b) (list_all-both (stands_before x) xs ys (ascending-first stands_before x xs first) (and-left (list_all (stands_before x) ys) _ before))
    (is_ascending-append stands_before xs ys (ascending-rest stands_before x xs first) second (and-right (list_all (stands_before x) ys) _ before))

-- what is found before a time, at it and behind it, of which one alone can be
joined : {X : Type 0} (earlier here later : Bool) (o found : Option X) → here ≡ (not earlier && not later) → (earlier ≡ true → later ≡ false) →
    option_or (cond earlier found None) (option_or (cond here o None) (cond later found None)) ≡ cond here o found
joined true true later o found apart one = absurd (false≢true (sym apart))
joined true false true o found apart one = absurd (false≢true (sym (one refl)))
joined true false false o None apart one = refl
joined true false false o (Some x) apart one = refl
joined false true true o found apart one = absurd (false≢true (sym apart))
joined false true false None found apart one = refl
joined false true false (Some x) found apart one = refl
joined false false true o found apart one = refl
joined false false false o found apart one = absurd (false≢true apart)

-- ---- rows

module _ {T : Type 0} (rank : T → ℤ) (t : ℤ) where
  -- a row with this mark at t, in place of the one that was there
  abbrev pub changed_at : Option (Mark T) → List (Mark T) → List (Mark T)
  changed_at o marks = marks_before rank t marks ++ (option_to_list o ++ marks_after rank t marks)

  -- the mark is at t
  abbrev pub stands_there : Option (Mark T) → Type 0
  stands_there o = option_map_or (λ (m : Mark T). int_eq (rank m.at) t) o true ≡ true

  pub mark_at-stands : (marks : List (Mark T)) → stands_there (mark_at rank t marks)
  mark_at-stands marks = find-passes (λ (m : Mark T). int_eq (rank m.at) t) marks

  module _ (o : Option (Mark T)) (there : stands_there o) (marks : List (Mark T)) where
    earlier-part : (u x : ℤ) → (int_lt x t && int_eq x u) ≡ (int_lt u t && int_eq x u)
    earlier-part u x = grind (arith, ints)

    later-part : (u x : ℤ) → (int_lt t x && int_eq x u) ≡ (int_lt t u && int_eq x u)
    later-part u x = grind (arith, ints)

    same_time : (x u : ℤ) → int_eq x t ≡ true → int_eq x u ≡ int_eq t u
    same_time x u is = grind (arith, ints)

    at_t : (u : ℤ) (o : Option (Mark T)) → stands_there o → find (λ (m : Mark T). int_eq (rank m.at) u) (option_to_list o) ≡ cond (int_eq t u) o None
    at_t u None there = cond-same (int_eq t u) None
    at_t u (Some m) there = ap (λ b. cond b (Some m) None) (same_time (rank m.at) u there)

    -- at t the mark is found, and at other times what was there
    pub mark_at-changed : (u : ℤ) → mark_at rank u (changed_at o marks) ≡ cond (int_eq t u) o (mark_at rank u marks)
    mark_at-changed u =
        let at_u : Mark T → Bool = λ m. int_eq (rank m.at) u in
        find-append at_u (marks_before rank t marks) (option_to_list o ++ marks_after rank t marks)
        ∙ ap₂ option_or
        (find-part at_u (λ m. int_lt (rank m.at) t) (int_lt u t) (λ m. earlier-part u (rank m.at)) marks)
        (find-append at_u (option_to_list o) (marks_after rank t marks)
        ∙ ap₂ option_or (at_t u o there) (find-part at_u (λ m. int_lt t (rank m.at)) (int_lt t u) (λ m. later-part u (rank m.at)) marks))
        ∙ joined (int_lt u t) (int_eq t u) (int_lt t u) o (mark_at rank u marks) (apart u) (int_lt-not_after u t)
      where
        apart : (u : ℤ) → int_eq t u ≡ (not (int_lt u t) && not (int_lt t u))
        apart u = grind (arith, ints)

    -- it is a row
    pub IsMarkRow-changed : option_map_or is_counted o true ≡ true → IsMarkRow rank marks → IsMarkRow rank (changed_at o marks)
    IsMarkRow-changed counts row = record {
      ascending = is_ascending-append (mark_before rank) (marks_before rank t marks) (option_to_list o ++ marks_after rank t marks)
          (is_ascending-filter (mark_before rank) (λ m. int_lt (rank m.at) t) marks row.ascending)
          (is_ascending-cons (mark_before rank) o (marks_after rank t marks) (o-behind o there)
          (is_ascending-filter (mark_before rank) (λ m. int_lt t (rank m.at)) marks row.ascending))
          (list_all-weaker (λ m. int_lt (rank m.at) t) (λ m. list_all (mark_before rank m) (option_to_list o ++ marks_after rank t marks))
          (λ m before. list_all-cons (mark_before rank m) o (marks_after rank t marks) (before-o m o before there)
          (list_all-weaker (λ n. int_lt t (rank n.at)) (mark_before rank m) (λ n behind. before-behind (rank m.at) (rank n.at) before behind) (marks_after rank t marks) behind-t))
          (marks_before rank t marks) (list_all-kept (λ (m : Mark T). int_lt (rank m.at) t) marks));
      counted = list_all-both is_counted (marks_before rank t marks) (option_to_list o ++ marks_after rank t marks)
          (list_all-filter is_counted (λ m. int_lt (rank m.at) t) marks row.counted)
          (list_all-cons is_counted o (marks_after rank t marks) counts (list_all-filter is_counted (λ m. int_lt t (rank m.at)) marks row.counted));
    }
      where
        behind-t : list_all (λ (n : Mark T). int_lt t (rank n.at)) (marks_after rank t marks) ≡ true
        behind-t = list_all-kept (λ (n : Mark T). int_lt t (rank n.at)) marks

        before-behind : (x y : ℤ) → int_lt x t ≡ true → int_lt t y ≡ true → int_lt x y ≡ true
        before-behind x y before behind = grind (arith, ints)

        before-here : (x y : ℤ) → int_lt x t ≡ true → int_eq y t ≡ true → int_lt x y ≡ true
        before-here x y before here = grind (arith, ints)

        here-behind : (x y : ℤ) → int_eq x t ≡ true → int_lt t y ≡ true → int_lt x y ≡ true
        here-behind x y here behind = grind (arith, ints)

        before-o : (m : Mark T) (o : Option (Mark T)) → int_lt (rank m.at) t ≡ true → stands_there o → option_map_or (mark_before rank m) o true ≡ true
        before-o m None before there = refl
        before-o m (Some n) before there = before-here (rank m.at) (rank n.at) before there

        o-behind : (o : Option (Mark T)) → stands_there o → option_map_or (λ (m : Mark T). list_all (mark_before rank m) (marks_after rank t marks)) o true ≡ true
        o-behind None there = refl
        o-behind (Some m) there =
            list_all-weaker (λ n. int_lt t (rank n.at)) (mark_before rank m) (λ n behind. here-behind (rank m.at) (rank n.at) there behind) (marks_after rank t marks) behind-t

  -- a row with the mark that it has at t is itself
  pub changed_at-itself : (marks : List (Mark T)) → IsMarkRow rank marks → changed_at (mark_at rank t marks) marks ≡ marks
  changed_at-itself marks row =
      by_time-ext rank (λ (m : Mark T). m.at) (changed_at (mark_at rank t marks) marks) marks
      (IsMarkRow-changed (mark_at rank t marks) (mark_at-stands marks) marks (find-of_all (λ (m : Mark T). int_eq (rank m.at) t) is_counted marks row.counted) row).ascending row.ascending
      (λ u. mark_at-changed (mark_at rank t marks) (mark_at-stands marks) marks u ∙ itself u (int_eq t u) refl)
    where
      itself : (u : ℤ) (b : Bool) → int_eq t u ≡ b → cond b (mark_at rank t marks) (mark_at rank u marks) ≡ mark_at rank u marks
      itself u true is = ap (λ v. mark_at rank v marks) (int_eq-is t u is)
      itself u false is = refl

  -- a row with the mark of another at t
  pub IsMarkRow-towards : (marks new : List (Mark T)) → IsMarkRow rank marks → IsMarkRow rank new → IsMarkRow rank (changed_at (mark_at rank t new) marks)
  IsMarkRow-towards marks new row new_row =
      IsMarkRow-changed (mark_at rank t new) (mark_at-stands new) marks (find-of_all (λ (m : Mark T). int_eq (rank m.at) t) is_counted new new_row.counted) row

  -- agrees with that at t, and where the row did
  pub mark_at-towards : (marks new : List (Mark T)) (u : ℤ) → (int_eq t u ≡ false → mark_at rank u marks ≡ mark_at rank u new) →
      mark_at rank u (changed_at (mark_at rank t new) marks) ≡ mark_at rank u new
  mark_at-towards marks new u same = mark_at-changed (mark_at rank t new) (mark_at-stands new) marks u ∙ by_time (int_eq t u) refl
    where
      by_time : (b : Bool) → int_eq t u ≡ b → cond b (mark_at rank t new) (mark_at rank u marks) ≡ mark_at rank u new
      by_time true is = ap (λ v. mark_at rank v new) (int_eq-is t u is)
      by_time false is = same is
