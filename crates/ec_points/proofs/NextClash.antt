-- The first clash behind a time is the one at the place where those behind it begin.
use Rattle.std.proofs.Common.{◌≡◌, ℕ, ℤ, ◌≤◌, suc, Bool, true, false, not, ◌&&◌, ◌||◌, List, ◌∷◌, length, filter, drop, Option, Some, refl, sym, ap, subst, ◌∙◌, arith}
use Rattle.std.specs.Prelude.{◌==◌, int_lt, slice_get}
use Rattle.std.specs.declared.cmp.Ordering.{Ordering}
use Rattle.std.specs.Ordering.{int_cmp, nat_cmp, int_eq, is_lt, ordering_then}
use Rattle.std.specs.List.{list_all}
use Rattle.std.proofs.lemmas.Bool.{and_parts}
use Rattle.std.proofs.lemmas.Int.{ints}
use Rattle.std.proofs.lemmas.List.Elements.{filter_passes}
use Rattle.std.proofs.lemmas.List.Sums.{list_all-from_AllPass}
use Rattle.std.proofs.Math.ListN.{drop_of_length-le}
use Rattle.ec_lists.proofs.Fronts.{drop-slice_get}
use Rattle.ec_lists.proofs.Integers.{int_eq-is, int_eq-same}
use Rattle.ec_lists.proofs.Numbers.{eqb-same}
use Rattle.ec_lists.proofs.Tests.{list_any-same, list_any-filter, list_any-none, list_all-weaker}
use Rattle.ec_rows.proofs.OrderedLemmas.{ascending-first}
use Rattle.ec_points.specs.declared.clashes.Clash.{Clash}
use Rattle.ec_points.specs.Clashes.{are_clashes, clash_cmp, has_clash, is_behind, is_clash_of}
use Rattle.ec_points.proofs.Lists.{is_ascending-drop}

-- what a clash stands before is of no earlier time
later-not_of : (a b t : ℤ) (o : Ordering) (m n : ℕ) → is_lt (ordering_then (int_cmp a b) o) ≡ true → int_lt t a ≡ true → not ((m == n) && int_eq b t) ≡ true
later-not_of a b t o m n = grind (arith, ints)

itself-not_of : (a t : ℤ) (m n : ℕ) → int_lt t a ≡ true → not ((m == n) && int_eq a t) ≡ true
itself-not_of a t m n = grind (arith, ints)

module _ {T : Type 0} (rank : T → ℤ) (after : Option T) (cs : List (Clash T)) (i : ℕ) (cut : drop i cs ≡ filter (λ c. is_behind rank after (rank c.at)) cs) where
  of-behind : (n : ℕ) (t : ℤ) → is_behind rank after t ≡ true → (c : Clash T) → is_clash_of rank n t c ≡ (is_behind rank after (rank c.at) && is_clash_of rank n t c)
  of-behind n t behind c = from_case (is_behind rank after (rank c.at)) (c.p.0 == n) (int_eq (rank c.at) t) (λ e. ap (is_behind rank after) (int_eq-is (rank c.at) t e) ∙ behind)
    where
      from_case : (a b s : Bool) → (s ≡ true → a ≡ true) → (b && s) ≡ (a && (b && s))
      from_case a b true f = ap (λ x. x && (b && true)) (sym (f refl))
      from_case a b false f = grind arith

  -- a clash behind the time is one of those from the place on
  pub any-behind : (n : ℕ) (t : ℤ) → is_behind rank after t ≡ true → has_clash rank n t cs ≡ has_clash rank n t (drop i cs)
  any-behind n t behind =
      list_any-same (is_clash_of rank n t) (λ c. is_behind rank after (rank c.at) && is_clash_of rank n t c) (of-behind n t behind) cs
      ∙ sym (list_any-filter (is_clash_of rank n t) (λ c. is_behind rank after (rank c.at)) cs) ∙ ap (has_clash rank n t) (sym cut)

  -- where none are, no clash is behind the time
  pub none-behind : length cs ≤ i → (n : ℕ) (t : ℤ) → is_behind rank after t ≡ true → has_clash rank n t cs ≡ false
  none-behind end n t behind = any-behind n t behind ∙ ap (has_clash rank n t) (drop_of_length-le cs end)

  module _ (c : Clash T) (read : slice_get cs i ≡ Some c) where
    rest : drop i cs ≡ c ∷ drop (suc i) cs
    rest = drop-slice_get cs i c read

    -- the first of them is behind the time
    pub next-behind : is_behind rank after (rank c.at) ≡ true
    next-behind =
        (and_parts (is_behind rank after (rank c.at)) (list_all (λ d. is_behind rank after (rank d.at)) (drop (suc i) cs))
        (ap (list_all (λ d. is_behind rank after (rank d.at))) (sym rest ∙ cut)
        ∙ list_all-from_AllPass (λ d. is_behind rank after (rank d.at)) _ (filter_passes (λ d. is_behind rank after (rank d.at)) cs))).0

    pub next-there : has_clash rank c.p.0 (rank c.at) cs ≡ true
    next-there =
        any-behind c.p.0 (rank c.at) next-behind ∙ ap (has_clash rank c.p.0 (rank c.at)) rest
        ∙ here (c.p.0 == c.p.0) (int_eq (rank c.at) (rank c.at)) (has_clash rank c.p.0 (rank c.at) (drop (suc i) cs)) (eqb-same c.p.0) (int_eq-same (rank c.at))
      where
        here : (a b r : Bool) → a ≡ true → b ≡ true → ((a && b) || r) ≡ true
        here a b r = grind arith

    -- and no clash lies between
    pub next-least : are_clashes rank cs ≡ true → (n : ℕ) (t : ℤ) → is_behind rank after t ≡ true → int_lt t (rank c.at) ≡ true → has_clash rank n t cs ≡ false
    next-least order n t behind earlier =
        any-behind n t behind ∙ ap (has_clash rank n t) rest ∙ list_any-none (is_clash_of rank n t) (c ∷ drop (suc i) cs) all
      where
        ascending : are_clashes rank (c ∷ drop (suc i) cs) ≡ true
        ascending = subst (λ ds. are_clashes rank ds ≡ true) rest (is_ascending-drop (λ a b. is_lt (clash_cmp rank a b)) i cs order)

        later : list_all (λ d. not (is_clash_of rank n t d)) (drop (suc i) cs) ≡ true
        later =
            list_all-weaker (λ d. is_lt (clash_cmp rank c d)) (λ d. not (is_clash_of rank n t d))
            (λ d e. later-not_of (rank c.at) (rank d.at) t (nat_cmp c.p.0 d.p.0) d.p.0 n e earlier) (drop (suc i) cs)
            (ascending-first (λ a b. is_lt (clash_cmp rank a b)) c (drop (suc i) cs) ascending)

        all : list_all (λ d. not (is_clash_of rank n t d)) (c ∷ drop (suc i) cs) ≡ true
        all = ap (λ b. b && list_all (λ d. not (is_clash_of rank n t d)) (drop (suc i) cs)) (itself-not_of (rank c.at) t c.p.0 n earlier) ∙ later
