-- What the searches of a list of dependents cut out: those after a time, and those at it.
use Rattle.std.proofs.Common.{◌≡◌, ◌+◌, ◌-◌, ◌<◌, ◌≤◌, ℕ, ℤ, zero, suc, Bool, true, false, cond, List, [], ◌∷◌, length, take, drop, None, Some, refl, sym, ap, subst, ◌∙◌, arith}
use Rattle.std.specs.Prelude.{int_lt, int_le, slice_get}
use Rattle.std.specs.List.{list_all}
use Rattle.std.specs.Ordering.{int_eq, nat_cmp, ordering_then}
use Rattle.std.proofs.lemmas.Bool.{and_from}
use Rattle.std.proofs.lemmas.Int.{ints}
use Rattle.std.proofs.lemmas.List.{take-take}
use Rattle.ec_entries.specs.declared.event_entries.Dependent.{Dependent}
use Rattle.ec_entries.specs.Dependents.{AreInOrder, dependent_before, dependents_after, dependents_at}
use Rattle.ec_lists.proofs.Tests.{list_all-weaker}
use Rattle.ec_rows.proofs.OrderedLemmas.{ascending-first, is_ascending-filter}
use Rattle.ec_lists.proofs.Integers.{int_le-same, int_lt-not_le, int_eq-from_lt}
use Rattle.ec_lists.proofs.Partitions.{IsCut, drop-partition}
use Rattle.ec_entries.proofs.Orders.{no_later}

at-from_both : (r t : ℤ) → int_lt r t ≡ false → int_le r t ≡ true → int_eq r t ≡ true
at-from_both r t = grind (arith, ints)

not_at-after : (r t : ℤ) → int_le r t ≡ false → int_eq r t ≡ false
not_at-after r t = grind (arith, ints)

never : (r t : ℤ) → int_lt r t ≡ true → int_le r t ≡ false → ⊥
never r t first second = let both : int_le r t ≡ true = grind (arith, ints) in cc

-- the first of a beginning is the first
pub slice_get-front : {X : Type 0} (xs : List X) (n : ℕ) (x : X) → slice_get (take n xs) 0 ≡ Some x → slice_get xs 0 ≡ Some x
slice_get-front [] zero x first = cc
slice_get-front [] (suc n) x first = cc
slice_get-front (y ∷ xs) zero x first = cc
slice_get-front (y ∷ xs) (suc n) x first = first

-- the members between two places
slice_get-between : {X : Type 0} (xs : List X) (i j k : ℕ) → k < j - i → slice_get (drop i (take j xs)) k ≡ slice_get xs (i + k)
slice_get-between [] zero zero k within = absurd (omega arith)
slice_get-between [] zero (suc j) k within = refl
slice_get-between [] (suc i) zero k within = absurd (omega arith)
slice_get-between [] (suc i) (suc j) k within = refl
slice_get-between (x ∷ xs) zero zero k within = absurd (omega arith)
slice_get-between (x ∷ xs) zero (suc j) zero within = refl
slice_get-between (x ∷ xs) zero (suc j) (suc k) within =
    slice_get-between xs zero j k (omega arith) ∙ ap (slice_get xs) (omega arith) ∙ ap (slice_get (x ∷ xs)) (let e : suc k ≡ zero + suc k = omega arith in e)
slice_get-between (x ∷ xs) (suc i) zero k within = absurd (omega arith)
slice_get-between (x ∷ xs) (suc i) (suc j) k within =
    slice_get-between xs i j k (omega arith) ∙ ap (slice_get (x ∷ xs)) (let e : suc (i + k) ≡ suc i + k = omega arith in e)

-- and none behind them
slice_get-past_between : {X : Type 0} (xs : List X) (i j k : ℕ) → j - i ≤ k → slice_get (drop i (take j xs)) k ≡ None
slice_get-past_between [] zero zero k past = refl
slice_get-past_between [] zero (suc j) k past = refl
slice_get-past_between [] (suc i) zero k past = refl
slice_get-past_between [] (suc i) (suc j) k past = refl
slice_get-past_between (x ∷ xs) zero zero k past = refl
slice_get-past_between (x ∷ xs) zero (suc j) zero past = absurd (omega arith)
slice_get-past_between (x ∷ xs) zero (suc j) (suc k) past = slice_get-past_between xs zero j k (omega arith)
slice_get-past_between (x ∷ xs) (suc i) zero k past = refl
slice_get-past_between (x ∷ xs) (suc i) (suc j) k past = slice_get-past_between xs i j k (omega arith)

-- the members from one place on, up to another
drop-taken : {X : Type 0} (xs : List X) (i n : ℕ) → drop i (take (i + n) xs) ≡ take n (drop i xs)
drop-taken xs zero n = ap (λ m. take m xs) (let e : zero + n ≡ n = omega arith in e)
drop-taken [] (suc i) zero = ap (λ m. drop (suc i) (take m [])) (let e : suc i + zero ≡ suc i = omega arith in e)
drop-taken [] (suc i) (suc n) = ap (λ m. drop (suc i) (take m [])) (let e : suc i + suc n ≡ suc (i + suc n) = omega arith in e)
drop-taken (x ∷ xs) (suc i) n = ap (λ m. drop (suc i) (take m (x ∷ xs))) (let e : suc i + n ≡ suc (i + n) = omega arith in e) ∙ drop-taken xs i n

module _ {T : Type 0} (rank : T → ℤ) (t : ℤ) where
  -- a member is before the time, or up to it
  abbrev pub earlier : Dependent T → Bool
  earlier d = int_lt (rank d.at) t

  abbrev pub up_to : Dependent T → Bool
  up_to d = int_le (rank d.at) t

  -- behind those up to a time are those after it
  pub drop-after : (ds : List (Dependent T)) (i : ℕ) → IsCut up_to ds i → drop i ds ≡ dependents_after rank t ds
  drop-after ds i cut = drop-partition up_to (λ d. int_lt t (rank d.at)) (λ d. int_lt-not_le t (rank d.at)) ds i cut

  rest : (test : Dependent T → Bool) (d : Dependent T) (ds : List (Dependent T)) (i : ℕ) → IsCut test (d ∷ ds) (suc i) → IsCut test ds i
  rest test d ds i cut = (λ k e low high. cut.0 (suc k) e (omega arith) (omega arith), λ k e low high. cut.1 (suc k) e (omega arith) (omega arith))

  none : (test : Dependent T → Bool) (d : Dependent T) (ds : List (Dependent T)) → IsCut test (d ∷ ds) zero → IsCut test ds zero
  none test d ds cut = (λ k e low high. absurd (omega arith), λ k e low high. cut.1 (suc k) e (omega arith) (omega arith))

  -- those at a time stand between those before it and those after it
  pub dependents_at-between : (ds : List (Dependent T)) (i j : ℕ) → IsCut earlier ds i → IsCut up_to ds j → dependents_at rank t ds ≡ drop i (take j ds)
  dependents_at-between [] zero zero low high = refl
  dependents_at-between [] zero (suc j) low high = refl
  dependents_at-between [] (suc i) zero low high = refl
  dependents_at-between [] (suc i) (suc j) low high = refl
  dependents_at-between (d ∷ ds) zero zero low high =
      ap (λ b. cond b (d ∷ dependents_at rank t ds) (dependents_at rank t ds)) (not_at-after (rank d.at) t (high.1 zero d (omega arith) (omega arith)))
      ∙ dependents_at-between ds zero zero (none earlier d ds low) (none up_to d ds high)
  dependents_at-between (d ∷ ds) zero (suc j) low high =
      ap (λ b. cond b (d ∷ dependents_at rank t ds) (dependents_at rank t ds))
      (at-from_both (rank d.at) t (low.1 zero d (omega arith) (omega arith)) (high.0 zero d (omega arith) (omega arith)))
      ∙ ap (λ es. d ∷ es) (dependents_at-between ds zero j (none earlier d ds low) (rest up_to d ds j high))
  dependents_at-between (d ∷ ds) (suc i) zero low high =
      absurd (never (rank d.at) t (low.0 zero d (omega arith) (omega arith)) (high.1 zero d (omega arith) (omega arith)))
  dependents_at-between (d ∷ ds) (suc i) (suc j) low high =
      ap (λ b. cond b (d ∷ dependents_at rank t ds) (dependents_at rank t ds)) (int_eq-from_lt (rank d.at) t (low.0 zero d (omega arith) (omega arith)))
      ∙ dependents_at-between ds i j (rest earlier d ds i low) (rest up_to d ds j high)

  module _ (ds : List (Dependent T)) (i j : ℕ) (ordered : i ≤ j) (low : IsCut earlier ds i) (high : IsCut up_to ds j) where
    -- those at a time are the first of those from it on
    dependents_at-first : dependents_at rank t ds ≡ take (j - i) (drop i ds)
    dependents_at-first =
        dependents_at-between ds i j low high ∙ ap (λ m. drop i (take m ds)) (let e : j ≡ i + (j - i) = omega arith in e) ∙ drop-taken ds i (j - i)

    -- so a run from there on that is long enough begins with them
    pub dependents_at-run : (run : List (Dependent T)) → run ≡ take (length run) (drop i ds) → j - i ≤ length run → take (j - i) run ≡ dependents_at rank t ds
    dependents_at-run run is within =
        ap (take (j - i)) is ∙ take-take (j - i) (length run) (drop i ds) within ∙ sym dependents_at-first

    pub dependents_at-none : j - i ≡ 0 → [] ≡ dependents_at rank t ds
    dependents_at-none no_more = sym (dependents_at-first ∙ ap (λ n. take n (drop i ds)) no_more)

  -- no more are before a time than up to it
  pub earlier-up_to : (ds : List (Dependent T)) (i j : ℕ) → i ≤ length ds → IsCut earlier ds i → IsCut up_to ds j → i ≤ j
  earlier-up_to [] i j within low high = omega (arith, within)
  earlier-up_to (d ∷ ds) zero j within low high = omega arith
  earlier-up_to (d ∷ ds) (suc i) zero within low high =
      absurd (never (rank d.at) t (low.0 zero d (omega arith) (omega arith)) (high.1 zero d (omega arith) (omega arith)))
  earlier-up_to (d ∷ ds) (suc i) (suc j) within low high =
      let ih = earlier-up_to ds i j (omega (arith, within)) (rest earlier d ds i low) (rest up_to d ds j high) in omega (arith, ih)

  module _ (ds : List (Dependent T)) (i j : ℕ) (low : IsCut earlier ds i) (high : IsCut up_to ds j) (k : ℕ) where
    pub slice_get-dependents_at : k < j - i → slice_get (dependents_at rank t ds) k ≡ slice_get ds (i + k)
    slice_get-dependents_at within = ap (λ es. slice_get es k) (dependents_at-between ds i j low high) ∙ slice_get-between ds i j k within

    pub slice_get-past_dependents_at : j - i ≤ k → slice_get (dependents_at rank t ds) k ≡ None
    slice_get-past_dependents_at past = ap (λ es. slice_get es k) (dependents_at-between ds i j low high) ∙ slice_get-past_between ds i j k past

  -- the first of those after a time is the earliest of them
  pub dependents_after-least : (ds : List (Dependent T)) → AreInOrder rank ds → (d : Dependent T) → slice_get (dependents_after rank t ds) 0 ≡ Some d →
      list_all (λ e. int_le (rank d.at) (rank e.at)) (dependents_after rank t ds) ≡ true
  dependents_after-least ds order d first = of (dependents_after rank t ds) (is_ascending-filter (dependent_before rank) (λ e. int_lt t (rank e.at)) ds order) first
    where
      of : (es : List (Dependent T)) → AreInOrder rank es → slice_get es 0 ≡ Some d → list_all (λ e. int_le (rank d.at) (rank e.at)) es ≡ true
      of [] order first = cc
      of (e ∷ es) order first =
          let same : e ≡ d = cc in
          subst (λ x. list_all (λ y. int_le (rank x.at) (rank y.at)) (e ∷ es) ≡ true) same
          (and_from _ _ (int_le-same (rank e.at))
          (list_all-weaker (dependent_before rank e) (λ y. int_le (rank e.at) (rank y.at))
          (λ y. no_later (rank e.at) (rank y.at) (ordering_then (nat_cmp e.slot.0 y.slot.0) (nat_cmp e.place y.place))) es (ascending-first (dependent_before rank) e es order)))
