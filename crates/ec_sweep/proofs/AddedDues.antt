-- An agenda with one property more that is due.
use Rattle.std.proofs.Common.{◌≡◌, ℕ, ℤ, Bool, true, false, ◌&&◌, ◌||◌, List, [], ◌∷◌, filter, IsTrue, refl, ap, ap₂, subst, ◌∙◌, ⊎_elim, arith}
use Rattle.std.specs.Prelude.{◌==◌, int_lt, nat_lt}
use Rattle.std.specs.List.{list_any}
use Rattle.std.specs.Ordering.{int_eq}
use Rattle.std.proofs.lemmas.Bool.{cases_Bool, and_parts, eqb-true}
use Rattle.std.proofs.lemmas.Int.{ints}
use Rattle.std.proofs.lemmas.List.Folds.{list_any-append}
use Rattle.ec_lists.proofs.Integers.{int_eq-is}
use Rattle.ec_lists.proofs.Tests.{list_any-filter}
use Rattle.ec_numbered.specs.Due.{Due, comes_before, has_due, is_due, with_due}

-- of two pairs of whole numbers one comes before the other, or they are the same
apart-or_same : (a b u : ℤ) (m k n : ℕ) → (int_eq a u && (m == n)) ≡ true
    → ((int_lt a b || (int_eq a b && nat_lt m k)) || ((int_lt b a || (int_eq b a && nat_lt k m)) || (int_eq b u && (k == n)))) ≡ true
apart-or_same a b u m k n is = grind (arith, ints)

module _ {T : Type 0} (rank : T → ℤ) (x : Due T) (u : ℤ) (n : ℕ) where
  -- what is due with one more is what was due, and that one
  pub has_due-with_due : (dues : List (Due T)) → has_due rank u n (with_due rank x dues) ≡ (is_due rank u n x || has_due rank u n dues)
  has_due-with_due dues =
      list_any-append (is_due rank u n) (filter (λ y. comes_before rank y x) dues) (x ∷ filter (λ y. comes_before rank x y) dues)
      ∙ ap₂ (λ a b. a || (is_due rank u n x || b)) (list_any-filter (is_due rank u n) (λ y. comes_before rank y x) dues) (list_any-filter (is_due rank u n) (λ y. comes_before rank x y) dues)
      ∙ by dues
    where
      step : (here before behind there a b c : Bool) → (there ≡ true → (before || (behind || here)) ≡ true) → (a || (here || b)) ≡ (here || c)
          → (((before && there) || a) || (here || ((behind && there) || b))) ≡ (here || (there || c))
      step here before behind true a b c one rest = let some = one refl in grind arith
      step here before behind false a b c one rest = grind arith

      by : (ys : List (Due T)) → (list_any (λ y. comes_before rank y x && is_due rank u n y) ys || (is_due rank u n x || list_any (λ y. comes_before rank x y && is_due rank u n y) ys))
          ≡ (is_due rank u n x || list_any (is_due rank u n) ys)
      by [] = or_none (is_due rank u n x)
        where
          or_none : (b : Bool) → (false || (b || false)) ≡ (b || false)
          or_none b = refl
      by (y ∷ ys) =
          step (is_due rank u n x) (comes_before rank y x) (comes_before rank x y) (is_due rank u n y) _ _ _
          (λ is. apart-or_same (rank y.0) (rank x.0) u y.1.0 x.1.0 n is) (by ys)

  -- also where it was due already, and all stays
  pub has_due-added : (dues more : List (Due T)) → (IsTrue (has_due rank (rank x.0) x.1.0 dues) → more ≡ dues) → (has_due rank (rank x.0) x.1.0 dues ≡ false → more ≡ with_due rank x dues)
      → has_due rank u n more ≡ (is_due rank u n x || has_due rank u n dues)
  has_due-added dues more there new =
      ⊎_elim
      (λ is. ap (has_due rank u n) (there is) ∙ of (is_due rank u n x) refl is)
      (λ not_there. ap (has_due rank u n) (new not_there) ∙ has_due-with_due dues)
      (cases_Bool (has_due rank (rank x.0) x.1.0 dues))
    where
      of : (b : Bool) → is_due rank u n x ≡ b → has_due rank (rank x.0) x.1.0 dues ≡ true → has_due rank u n dues ≡ (b || has_due rank u n dues)
      of false not_it is = refl
      of true it is =
          let both = and_parts (int_eq (rank x.0) u) (x.1.0 == n) it in
          subst (λ s. has_due rank s n dues ≡ true) (int_eq-is (rank x.0) u both.0) (subst (λ k. has_due rank (rank x.0) k dues ≡ true) (eqb-true x.1.0 n both.1) is)
