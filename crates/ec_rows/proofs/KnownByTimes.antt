-- Lists in order by time are known by what stands in them at each time.
use Rattle.std.proofs.Common.{◌≡◌, ℤ, true, false, cond, ◌&&◌, List, [], ◌∷◌, find, Option, Some, None, refl, sym, ap, ap₂, ◌∙◌, ⊎_elim, arith}
use Rattle.std.specs.Prelude.{int_lt}
use Rattle.std.specs.List.{list_all}
use Rattle.std.specs.Ordering.{int_eq}
use Rattle.std.proofs.lemmas.Bool.{cases_Bool}
use Rattle.std.proofs.lemmas.Int.{ints}
use Rattle.ec_rows.specs.Ordered.{is_ascending, by_time}
use Rattle.ec_lists.proofs.Booleans.{and-left, and-right}
use Rattle.ec_rows.proofs.OrderedLemmas.{ascending-first, ascending-rest}
use Rattle.ec_lists.proofs.Integers.{int_eq-same, int_lt-trans, int_eq-from_gt}
use Rattle.ec_lists.proofs.Tests.{list_all-weaker}

later-same : (s t a : ℤ) → int_eq s t ≡ true → int_lt s a ≡ true → int_lt t a ≡ true
later-same s t a = grind (arith, ints)

later-other : (a b : ℤ) → int_eq b a ≡ false → int_lt a b ≡ false → int_lt b a ≡ true
later-other a b = grind (arith, ints)

module _ {T X : Type 0} (rank : T → ℤ) (time : X → T) where
  -- what stands at a time
  abbrev found : ℤ → List X → Option X
  found t xs = find (λ x. int_eq (rank (time x)) t) xs

  -- behind a time nothing stands at it
  none-later : (t : ℤ) (xs : List X) → list_all (λ x. int_lt t (rank (time x))) xs ≡ true → found t xs ≡ None
  none-later t [] later = refl
  none-later t (x ∷ xs) later =
      ap₂ (λ b o. cond b (Some x) o) (int_eq-from_gt (rank (time x)) t (and-left _ _ later)) (none-later t xs (and-right _ _ later))

  -- the first member stands at its time
  found-first : (x : X) (xs : List X) → found (rank (time x)) (x ∷ xs) ≡ Some x
  found-first x xs = ap (λ b. cond b (Some x) (found (rank (time x)) xs)) (int_eq-same (rank (time x)))

  -- nothing stands at a time before the first member
  none-before_first : (t : ℤ) (x : X) (xs : List X) → int_lt t (rank (time x)) ≡ true → is_ascending (by_time rank time) (x ∷ xs) ≡ true → found t (x ∷ xs) ≡ None
  none-before_first t x xs before ascending =
      none-later t (x ∷ xs) (ap₂ (λ a b. a && b) before
      (list_all-weaker (by_time rank time x) (λ y. int_lt t (rank (time y))) (λ y e. int_lt-trans t (rank (time x)) (rank (time y)) before e) xs
      (ascending-first (by_time rank time) x xs ascending)))

  -- nothing stands at the time of the first member behind it
  none-behind_first : (t : ℤ) (x : X) (xs : List X) → int_eq (rank (time x)) t ≡ true → is_ascending (by_time rank time) (x ∷ xs) ≡ true → found t xs ≡ None
  none-behind_first t x xs here ascending =
      none-later t xs (list_all-weaker (by_time rank time x) (λ y. int_lt t (rank (time y))) (λ y e. later-same (rank (time x)) t (rank (time y)) here e) xs
      (ascending-first (by_time rank time) x xs ascending))

  -- the first members are the same
  first-same : (x y : X) (xs ys : List X) → is_ascending (by_time rank time) (x ∷ xs) ≡ true → is_ascending (by_time rank time) (y ∷ ys) ≡ true →
      ((t : ℤ) → found t (x ∷ xs) ≡ found t (y ∷ ys)) → x ≡ y
  first-same x y xs ys ascending others same =
      ⊎_elim
      (λ at. let e : Some x ≡ cond true (Some y) (found (rank (time x)) ys) =
      sym (found-first x xs) ∙ same (rank (time x)) ∙ ap (λ b. cond b (Some y) (found (rank (time x)) ys)) at in (cc))
      (λ apart. ⊎_elim
      (λ before. let e : Some x ≡ None = sym (found-first x xs) ∙ same (rank (time x)) ∙ none-before_first (rank (time x)) y ys before others in (cc))
      (λ behind. let e : None ≡ Some y =
      sym (none-before_first (rank (time y)) x xs (later-other (rank (time x)) (rank (time y)) apart behind) ascending) ∙ same (rank (time y)) ∙ found-first y ys in (cc))
      (cases_Bool (int_lt (rank (time x)) (rank (time y)))))
      (cases_Bool (int_eq (rank (time y)) (rank (time x))))

  -- and what follows them stands at the same times
  rest-same : (x : X) (xs ys : List X) → is_ascending (by_time rank time) (x ∷ xs) ≡ true → is_ascending (by_time rank time) (x ∷ ys) ≡ true →
      ((t : ℤ) → found t (x ∷ xs) ≡ found t (x ∷ ys)) → (t : ℤ) → found t xs ≡ found t ys
  rest-same x xs ys ascending others same t =
      ⊎_elim (λ here. none-behind_first t x xs here ascending ∙ sym (none-behind_first t x ys here others))
      (λ apart. sym (ap (λ b. cond b (Some x) (found t xs)) apart) ∙ same t ∙ ap (λ b. cond b (Some x) (found t ys)) apart)
      (cases_Bool (int_eq (rank (time x)) t))

  -- two lists with the same members at each time are equal
  pub by_time-ext : (xs ys : List X) → is_ascending (by_time rank time) xs ≡ true → is_ascending (by_time rank time) ys ≡ true →
      ((t : ℤ) → found t xs ≡ found t ys) → xs ≡ ys
  by_time-ext [] [] ascending others same = refl
  by_time-ext [] (y ∷ ys) ascending others same = let e : None ≡ Some y = same (rank (time y)) ∙ found-first y ys in cc
  by_time-ext (x ∷ xs) [] ascending others same = let e : Some x ≡ None = sym (found-first x xs) ∙ same (rank (time x)) in cc
  by_time-ext (x ∷ xs) (y ∷ ys) ascending others same =
      let first : y ≡ x = sym (first-same x y xs ys ascending others same) in
      let others' : is_ascending (by_time rank time) (x ∷ ys) ≡ true = ap (λ z. is_ascending (by_time rank time) (z ∷ ys)) (sym first) ∙ others in
      let same' : (t : ℤ) → found t (x ∷ xs) ≡ found t (x ∷ ys) = λ t. same t ∙ ap (λ z. found t (z ∷ ys)) first in
      ap₂ (λ z zs. z ∷ zs) (sym first)
      (by_time-ext xs ys (ascending-rest (by_time rank time) x xs ascending) (ascending-rest (by_time rank time) y ys others) (rest-same x xs ys ascending others' same'))
