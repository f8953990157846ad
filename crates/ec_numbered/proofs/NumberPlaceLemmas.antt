-- Rows of numbers with their places: what is found at the place of a number, and what stays where a row is added or set.
use Rattle.std.proofs.Common.{◌≡◌, ◌≢◌, ℕ, ◌<◌, ◌≤◌, zero, suc, true, false, List, [], ◌∷◌, ◌++◌, length, take, take_all, get_or, Option, Some, None, refl, sym, ap, subst, ◌∙◌, ◌⊎◌, inl, inr, ⊎_elim, arith}
use Rattle.std.specs.Prelude.{◌==◌, nat_eq, slice_get, slice_set}
use Rattle.std.specs.List.{IsDistinct}
use Rattle.std.specs.Map.{lookup}
use Rattle.std.specs.Option.{option_map_or}
use Rattle.std.proofs.lemmas.Bool.{cases_Bool, false≢true}
use Rattle.std.proofs.lemmas.Cmp.{nat_eq_equiv}
use Rattle.std.proofs.lemmas.Option.{slice_get-get_or}
use Rattle.ec_lists.proofs.Places.{slice_get-behind}
use Rattle.ec_numbered.specs.NumberPlaces.{ArePlaces}
use Rattle.ec_numbered.specs.KeyedRows.{IsFirst}
use Rattle.ec_numbered.proofs.KeyedRowLemmas.{IsDistinct-push, IsDistinct-set, absent-head, absent-rest, lookup-nowhere}

-- ---- what is found

module _ {V : Type 0} (places : List ℕ) (rows : List (ℕ × V)) (are : ArePlaces places rows) (n : ℕ) where
  -- a row of the number stands at the place of the number
  row-stands : (j : ℕ) (d : ℕ × V) → j < length rows → (n == (get_or rows j d).0) ≡ true → slice_get places n ≡ Some j
  row-stands j d within here =
      let row : ℕ × V = get_or rows j d in
      let same : n ≡ row.0 = grind arith in
      ap (slice_get places) same ∙ are.stands j row.0 row.1 (slice_get-get_or rows j d within)

  -- so where the number has no place, it has no row
  pub lookup-no_place : slice_get places n ≡ None → lookup (nat_eq n) rows ≡ None
  lookup-no_place none =
      lookup-nowhere (nat_eq n) rows (λ j d within.
      ⊎_elim (λ here. let two : None ≡ Some j = sym none ∙ row-stands j d within here in cc) (λ other. other) (cases_Bool (n == (get_or rows j d).0)))

  module _ (place : ℕ) (at : slice_get places n ≡ Some place) where
    -- no other row is of the number
    others : (j : ℕ) (d : ℕ × V) → j < length rows → j ≢ place → (n == (get_or rows j d).0) ≡ false
    others j d within apart =
        ⊎_elim (λ here. let two : Some place ≡ Some j = sym at ∙ row-stands j d within here in let same : j ≡ place = cc in absurd (apart same)) (λ other. other)
        (cases_Bool (n == (get_or rows j d).0))

    -- it has no row where no row stands there
    pub lookup-behind : length rows ≤ place → lookup (nat_eq n) rows ≡ None
    lookup-behind behind = lookup-nowhere (nat_eq n) rows (λ j d within. others j d within (λ same. omega arith))

    -- nor where another number stands there
    pub lookup-other : ((d : ℕ × V) → (n == (get_or rows place d).0) ≡ false) → lookup (nat_eq n) rows ≡ None
    lookup-other other =
        lookup-nowhere (nat_eq n) rows (λ j d within.
        ⊎_elim (λ here. let same : j ≡ place = grind arith in ap (λ k. n == (get_or rows k d).0) same ∙ other d) (λ apart. others j d within (λ same. let no : (j == place) ≡ true = grind arith in false≢true (sym apart ∙ no)))
        (cases_Bool (j == place)))

    -- and a row of the number there is its first
    pub IsFirst-at : place < length rows → ((d : ℕ × V) → (n == (get_or rows place d).0) ≡ true) → IsFirst (nat_eq n) rows place
    IsFirst-at within here = record { within = within; passes = here; first = λ j d before. others j d (omega arith) (λ same. omega arith) }

-- ---- what stays

-- a member that is set, and the others
slice_get-set_same : {X : Type 0} (xs : List X) (i : ℕ) (x : X) → i < length xs → slice_get (slice_set xs i x) i ≡ Some x
slice_get-set_same [] i x within = absurd (omega arith)
slice_get-set_same (y ∷ xs) zero x within = refl
slice_get-set_same (y ∷ xs) (suc i) x within = slice_get-set_same xs i x (omega arith)

slice_get-set_other : {X : Type 0} (xs : List X) (i j : ℕ) (x : X) → (i == j) ≡ false → slice_get (slice_set xs i x) j ≡ slice_get xs j
slice_get-set_other [] zero j x other = refl
slice_get-set_other [] (suc i) j x other = refl
slice_get-set_other (y ∷ xs) zero zero x other = absurd (false≢true (sym other))
slice_get-set_other (y ∷ xs) zero (suc j) x other = refl
slice_get-set_other (y ∷ xs) (suc i) zero x other = refl
slice_get-set_other (y ∷ xs) (suc i) (suc j) x other = let apart : (i == j) ≡ false = grind arith in slice_get-set_other xs i j x apart

-- a member of a list with one more behind it is that one, or was there
slice_get-push : {X : Type 0} (xs : List X) (y : X) (i : ℕ) (x : X) → slice_get (xs ++ y ∷ []) i ≡ Some x → ((i ≡ length xs) × (y ≡ x)) ⊎ (slice_get xs i ≡ Some x)
slice_get-push [] y zero x there = let same : y ≡ x = cc in inl (refl, same)
slice_get-push [] y (suc i) x there = let no : None ≡ Some x = there in cc
slice_get-push (z ∷ xs) y zero x there = inr there
slice_get-push (z ∷ xs) y (suc i) x there = ⊎_elim (λ last. inl (ap suc last.0, last.1)) inr (slice_get-push xs y i x there)

-- places behind the others change none
ArePlaces-more : {V : Type 0} (places more : List ℕ) (rows : List (ℕ × V)) → ArePlaces places rows → ArePlaces (places ++ more) rows
ArePlaces-more places more rows are = record { stands = λ i n v read. slice_get-behind places more n i (are.stands i n v read); once = are.once }

pub ArePlaces-resized : {V : Type 0} (places more new : List ℕ) (rows : List (ℕ × V)) (n : ℕ) → new ≡ take n places ++ more → length places ≤ n → ArePlaces places rows → ArePlaces new rows
ArePlaces-resized places more new rows n is few are =
    subst (λ ps. ArePlaces ps rows) (sym (is ∙ ap (λ front. front ++ more) (take_all n places few))) (ArePlaces-more places more rows are)

-- a number without a value has no row
no_row : {V : Type 0} (n : ℕ) (value : V) (rows : List (ℕ × V)) (i m : ℕ) (v : V) → lookup (nat_eq n) rows ≡ None → slice_get rows i ≡ Some (m, v) → (n == m) ≡ false
no_row n value [] i m v none there = let no : None ≡ Some (m, v) = there in cc
no_row n value (row ∷ rows) zero m v none there =
    let same : row ≡ (m, v) = cc in ap (λ r. n == r.0) (sym same) ∙ absent-head nat_eq nat_eq_equiv n value row rows none
no_row n value (row ∷ rows) (suc i) m v none there = no_row n value rows i m v (absent-rest nat_eq nat_eq_equiv n value row rows none) there

-- no rows are where the places say
pub ArePlaces-none : {V : Type 0} (places : List ℕ) → ArePlaces {V = V} places []
unfolding IsDistinct
ArePlaces-none places = record { stands = λ i n v there. let no : None ≡ Some (n, v) = there in cc; once = tt }

module _ {V : Type 0} (places : List ℕ) (rows : List (ℕ × V)) (n : ℕ) (value : V) (are : ArePlaces places rows) where
  -- a row is added, and its number gets its place
  pub ArePlaces-push : n < length places → lookup (nat_eq n) rows ≡ None → ArePlaces (slice_set places n (length rows)) (rows ++ (n, value) ∷ [])
  ArePlaces-push within none = record {
    stands = λ i m v there.
        ⊎_elim
        (λ last.
        let number : n ≡ m = ap (λ (row : ℕ × V). row.0) last.1 in
        ap (slice_get (slice_set places n (length rows))) (sym number) ∙ slice_get-set_same places n (length rows) within ∙ ap Some (sym last.0))
        (λ before. slice_get-set_other places n m (length rows) (no_row n value rows i m v none before) ∙ are.stands i m v before)
        (slice_get-push rows (n, value) i (m, v) there);
    once = IsDistinct-push nat_eq nat_eq_equiv n value rows are.once none;
  }

  -- the row of a number is set
  pub ArePlaces-set : (place : ℕ) → IsFirst (nat_eq n) rows place → ArePlaces places (slice_set rows place (n, value))
  ArePlaces-set place first = record {
    stands = λ i m v there. ⊎_elim (here i m v there) (λ other. are.stands i m v (sym (slice_get-set_other rows place i (n, value) other) ∙ there)) (cases_Bool (place == i));
    once = IsDistinct-set nat_eq nat_eq_equiv n value rows place first are.once;
  }
    where
      option_row : (n m : ℕ) (value v : V) → ◌≡◌ {A = Option (ℕ × V)} (Some (n, value)) (Some (m, v)) → n ≡ m
      option_row n m value v same = ap (λ (r : Option (ℕ × V)). option_map_or (λ row. row.0) r 0) same

      here : (i m : ℕ) (v : V) → slice_get (slice_set rows place (n, value)) i ≡ Some (m, v) → (place == i) ≡ true → slice_get places m ≡ Some i
      here i m v there same =
          let at : place ≡ i = grind arith in
          let row : ◌≡◌ {A = Option (ℕ × V)} (Some (n, value)) (Some (m, v)) = sym (slice_get-set_same rows place (n, value) first.within) ∙ ap (slice_get (slice_set rows place (n, value))) at ∙ there in
          let number : n ≡ m = option_row n m value v row in
          ap (slice_get places) (sym number) ∙ row-stands places rows are n place (n, value) first.within (first.passes (n, value)) ∙ ap Some at
