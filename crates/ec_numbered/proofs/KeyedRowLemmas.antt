-- Rows in which one is set or added: what is found there, and that no key stands there twice.
use Rattle.std.proofs.Common.{◌≡◌, ℕ, ◌<◌, ◌+◌, zero, suc, Bool, true, false, cond, List, [], ◌∷◌, ◌++◌, length, take, Some, None, refl, sym, ap, subst, ◌∙◌, ⊎_elim, arith}
use Rattle.std.specs.Prelude.{slice_index_or, slice_set}
use Rattle.std.specs.Cmp.{IsEquivalence}
use Rattle.std.specs.List.{AllByRecursion, IsDistinct}
use Rattle.std.specs.Map.{keys_of, lookup}
use Rattle.std.proofs.lemmas.Bool.{cases_Bool, cond-true, cond-false}
use Rattle.std.proofs.lemmas.List.{take_more}
use Rattle.ec_numbered.specs.KeyedRows.{IsFirst}

module _ {K V : Type 0} (test : K → Bool) where
  -- behind a row that does not pass, the first that passes is the first behind it
  pub IsFirst-rest : (row : K × V) (rows : List (K × V)) (i : ℕ) → IsFirst test (row ∷ rows) (suc i) → IsFirst test rows i
  IsFirst-rest row rows i is = record { within = omega (arith, is.within); passes = λ d. is.passes d; first = λ j d below. is.first (suc j) d (omega arith) }

  pub fails-before : (row : K × V) (rows : List (K × V)) (i : ℕ) → IsFirst test (row ∷ rows) (suc i) → test row.0 ≡ false
  fails-before row rows i is = is.first 0 row (omega arith)

  -- the value of the first
  pub lookup-first : (rows : List (K × V)) (i : ℕ) (d : K × V) → IsFirst test rows i → lookup test rows ≡ Some (slice_index_or rows i d).1
  lookup-first [] i d is = absurd (omega (arith, is.within))
  lookup-first (row ∷ rows) zero d is = cond-true (test row.0) (Some row.1) (lookup test rows) (is.passes row)
  lookup-first (row ∷ rows) (suc i) d is =
      cond-false (test row.0) (Some row.1) (lookup test rows) (fails-before row rows i is) ∙ lookup-first rows i d (IsFirst-rest row rows i is)

  -- where none passes, nothing is found
  pub lookup-nowhere : (rows : List (K × V)) → ((j : ℕ) (d : K × V) → j < length rows → test (slice_index_or rows j d).0 ≡ false) → lookup test rows ≡ None
  lookup-nowhere [] fails = refl
  lookup-nowhere (row ∷ rows) fails =
      cond-false (test row.0) (Some row.1) (lookup test rows) (fails 0 row (omega arith)) ∙ lookup-nowhere rows (λ j d below. fails (suc j) d (omega arith))

-- ---- keys that stay apart

AllByRecursion-to : {K V : Type 0} (P Q : K → Type 0) → ((k : K) → P k → Q k) → (rows : List (K × V)) → AllByRecursion P (keys_of rows) → AllByRecursion Q (keys_of rows)
AllByRecursion-to P Q to [] all = all
AllByRecursion-to P Q to (row ∷ rows) all = (to row.0 all.0, AllByRecursion-to P Q to rows all.1)

AllByRecursion-at : {K V : Type 0} (P : K → Type 0) (rows : List (K × V)) (i : ℕ) (d : K × V) → AllByRecursion P (keys_of rows) → i < length rows → P (slice_index_or rows i d).0
AllByRecursion-at P [] i d all within = absurd (omega arith)
AllByRecursion-at P (row ∷ rows) zero d all within = all.0
AllByRecursion-at P (row ∷ rows) (suc i) d all within = AllByRecursion-at P rows i d all.1 (omega arith)

module _ {K V : Type 0} (eq : K → K → Bool) (laws : IsEquivalence eq) (key : K) (value : V) where
  AllByRecursion-set : (P : K → Type 0) (rows : List (K × V)) (i : ℕ) → AllByRecursion P (keys_of rows) → P key → AllByRecursion P (keys_of (slice_set rows i (key, value)))
  AllByRecursion-set P [] zero all here = all
  AllByRecursion-set P [] (suc i) all here = all
  AllByRecursion-set P (row ∷ rows) zero all here = (here, all.1)
  AllByRecursion-set P (row ∷ rows) (suc i) all here = (all.0, AllByRecursion-set P rows i all.1 here)

  -- a key stands in place of an equal one
  pub IsDistinct-set : (rows : List (K × V)) (i : ℕ) → IsFirst (eq key) rows i → IsDistinct eq (keys_of rows) → IsDistinct eq (keys_of (slice_set rows i (key, value)))
  unfolding IsDistinct
  IsDistinct-set [] i is once = absurd (omega (arith, is.within))
  IsDistinct-set (row ∷ rows) zero is once =
      (AllByRecursion-to (λ y. eq row.0 y ≡ false) (λ y. eq key y ≡ false) (λ y apart. laws.congr key row.0 y (is.passes row) ∙ apart) rows once.0, once.1)
  IsDistinct-set (row ∷ rows) (suc i) is once = (
    AllByRecursion-set (λ y. eq row.0 y ≡ false) rows i once.0 (laws.symm row.0 key ∙ fails-before (eq key) row rows i is),
    IsDistinct-set rows i (IsFirst-rest (eq key) row rows i is) once.1,
  )

  -- where a key is k, another key is not
  other_key : (other k : K) → eq k other ≡ true → eq key other ≡ false → eq key k ≡ false
  other_key other k here apart = laws.symm key k ∙ laws.congr k other key here ∙ laws.symm other key ∙ apart

  pub lookup-set : (rows : List (K × V)) (i : ℕ) → IsFirst (eq key) rows i → (k : K)
      → lookup (eq k) (slice_set rows i (key, value)) ≡ cond (eq key k) (Some value) (lookup (eq k) rows)
  lookup-set [] i is k = absurd (omega (arith, is.within))
  lookup-set (row ∷ rows) zero is k =
      ⊎_elim
      (λ here. cond-true (eq k key) (Some value) (lookup (eq k) rows) (laws.symm k key ∙ here) ∙ sym (cond-true (eq key k) (Some value) (lookup (eq k) (row ∷ rows)) here))
      (λ apart.
      let old : eq k row.0 ≡ false = laws.symm k row.0 ∙ sym (laws.congr key row.0 k (is.passes row)) ∙ apart in
      cond-false (eq k key) (Some value) (lookup (eq k) rows) (laws.symm k key ∙ apart)
      ∙ sym (cond-false (eq k row.0) (Some row.1) (lookup (eq k) rows) old)
      ∙ sym (cond-false (eq key k) (Some value) (lookup (eq k) (row ∷ rows)) apart))
      (cases_Bool (eq key k))
  lookup-set (row ∷ rows) (suc i) is k =
      ⊎_elim
      (λ here.
      cond-true (eq k row.0) (Some row.1) (lookup (eq k) (slice_set rows i (key, value))) here
      ∙ sym (cond-true (eq k row.0) (Some row.1) (lookup (eq k) rows) here)
      ∙ sym (cond-false (eq key k) (Some value) (lookup (eq k) (row ∷ rows)) (other_key row.0 k here (fails-before (eq key) row rows i is))))
      (λ apart.
      cond-false (eq k row.0) (Some row.1) (lookup (eq k) (slice_set rows i (key, value))) apart
      ∙ lookup-set rows i (IsFirst-rest (eq key) row rows i is) k
      ∙ ap (λ o. cond (eq key k) (Some value) o) (sym (cond-false (eq k row.0) (Some row.1) (lookup (eq k) rows) apart)))
      (cases_Bool (eq k row.0))

  -- ---- a key that is nowhere

  pub absent-head : (row : K × V) (rows : List (K × V)) → lookup (eq key) (row ∷ rows) ≡ None → eq key row.0 ≡ false
  absent-head row rows none =
      ⊎_elim (λ here. let found : Some row.1 ≡ None = sym (cond-true (eq key row.0) (Some row.1) (lookup (eq key) rows) here) ∙ none in cc) (λ fails. fails)
      (cases_Bool (eq key row.0))

  pub absent-rest : (row : K × V) (rows : List (K × V)) → lookup (eq key) (row ∷ rows) ≡ None → lookup (eq key) rows ≡ None
  absent-rest row rows none = sym (cond-false (eq key row.0) (Some row.1) (lookup (eq key) rows) (absent-head row rows none)) ∙ none

  AllByRecursion-push : (P : K → Type 0) (rows : List (K × V)) → AllByRecursion P (keys_of rows) → P key → AllByRecursion P (keys_of (rows ++ (key, value) ∷ []))
  AllByRecursion-push P [] all here = (here, all)
  AllByRecursion-push P (row ∷ rows) all here = (all.0, AllByRecursion-push P rows all.1 here)

  pub IsDistinct-push : (rows : List (K × V)) → IsDistinct eq (keys_of rows) → lookup (eq key) rows ≡ None → IsDistinct eq (keys_of (rows ++ (key, value) ∷ []))
  unfolding IsDistinct
  IsDistinct-push [] once none = (once, once)
  IsDistinct-push (row ∷ rows) once none =
      (AllByRecursion-push (λ y. eq row.0 y ≡ false) rows once.0 (laws.symm row.0 key ∙ absent-head row rows none), IsDistinct-push rows once.1 (absent-rest row rows none))

  pub lookup-push : (rows : List (K × V)) → lookup (eq key) rows ≡ None → (k : K)
      → lookup (eq k) (rows ++ (key, value) ∷ []) ≡ cond (eq key k) (Some value) (lookup (eq k) rows)
  lookup-push [] none k = ap (λ b. cond b (Some value) None) (laws.symm k key)
  lookup-push (row ∷ rows) none k =
      ⊎_elim
      (λ here.
      cond-true (eq k row.0) (Some row.1) (lookup (eq k) (rows ++ (key, value) ∷ [])) here
      ∙ sym (cond-true (eq k row.0) (Some row.1) (lookup (eq k) rows) here)
      ∙ sym (cond-false (eq key k) (Some value) (lookup (eq k) (row ∷ rows)) (other_key row.0 k here (absent-head row rows none))))
      (λ fails.
      cond-false (eq k row.0) (Some row.1) (lookup (eq k) (rows ++ (key, value) ∷ [])) fails
      ∙ lookup-push rows (absent-rest row rows none) k
      ∙ ap (λ o. cond (eq key k) (Some value) o) (sym (cond-false (eq k row.0) (Some row.1) (lookup (eq k) rows) fails)))
      (cases_Bool (eq k row.0))

module _ {K V : Type 0} (eq : K → K → Bool) (laws : IsEquivalence eq) where
  -- a key is nowhere in front of its own row
  absent-before : (rows : List (K × V)) (i : ℕ) (d : K × V) → i < length rows → IsDistinct eq (keys_of rows) → lookup (eq (slice_index_or rows i d).0) (take i rows) ≡ None
  unfolding IsDistinct
  absent-before [] i d within once = absurd (omega arith)
  absent-before (row ∷ rows) zero d within once = refl
  absent-before (row ∷ rows) (suc i) d within once =
      let apart : eq row.0 (slice_index_or rows i d).0 ≡ false = AllByRecursion-at (λ y. eq row.0 y ≡ false) rows i d once.0 (omega arith) in
      cond-false (eq (slice_index_or rows i d).0 row.0) (Some row.1) (lookup (eq (slice_index_or rows i d).0) (take i rows)) (laws.symm (slice_index_or rows i d).0 row.0 ∙ apart)
      ∙ absent-before rows i d (omega arith) once.1

  -- rows that are put in one by one
  pub lookup-next : (rows : List (K × V)) (i : ℕ) (row : K × V) → i < length rows → row ≡ slice_index_or rows i row → IsDistinct eq (keys_of rows) → (before after : List (K × V))
      → ((k : K) → lookup (eq k) before ≡ lookup (eq k) (take i rows))
      → ((k : K) → lookup (eq k) after ≡ cond (eq row.0 k) (Some row.1) (lookup (eq k) before))
      → (k : K) → lookup (eq k) after ≡ lookup (eq k) (take (i + 1) rows)
  lookup-next rows i row within is once before after was put k =
      let absent : lookup (eq row.0) (take i rows) ≡ None = subst (λ (r : K × V). lookup (eq r.0) (take i rows) ≡ None) (sym is) (absent-before rows i row within once) in
      put k
      ∙ ap (λ o. cond (eq row.0 k) (Some row.1) o) (was k)
      ∙ sym (lookup-push eq laws row.0 row.1 (take i rows) absent k)
      ∙ ap (λ r. lookup (eq k) (take i rows ++ r ∷ [])) is
      ∙ ap (lookup (eq k)) (sym (take_more rows i row within))
