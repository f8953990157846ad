-- The rows of a tally, place by place: each property stands in one of them.
use Rattle.std.proofs.Common.{◌≡◌, ℕ, zero, suc, ◌+◌, Bool, true, false, cond, List, [], ◌∷◌, take, Option, Some, None, refl, sym, ap, ◌∙◌, add-one}
use Rattle.std.specs.Prelude.{◌==◌, nat_eq, slice_get, unwrap_or, if◌then◌else◌}
use Rattle.std.specs.List.{AllByRecursion, IsDistinct}
use Rattle.std.specs.Map.{keys_of}
use Rattle.std.specs.Option.{option_or}
use Rattle.std.proofs.lemmas.Bool.{cond-false, cond-true, eq-eqb}
use Rattle.std.proofs.lemmas.Map.Keys.{IsDistinct-head, IsDistinct-tail}
use Rattle.std.proofs.lemmas.Option.{none-some}
use Rattle.ec_lists.proofs.Numbers.{eqb_comm}
use Rattle.ec_revise.specs.declared.settled.Tallied.{Tallied}
use Rattle.ec_revise.specs.TurnCounts.{row_at}

-- the rows of a tally, each of another property
abbrev pub AreRowsApart : List (ℕ × Tallied) → Type 0
AreRowsApart rows = IsDistinct nat_eq (keys_of rows)

-- a number that no key of the rows is
apart-at : (n m : ℕ) (tallied : Tallied) (rows : List (ℕ × Tallied)) (i : ℕ) → AllByRecursion (λ k. nat_eq n k ≡ false) (keys_of rows) → slice_get rows i ≡ Some (m, tallied) → (m == n) ≡ false
apart-at n m tallied [] i apart there = absurd (none-some (m, tallied) there)
apart-at n m tallied (row ∷ rows) zero apart there =
    let same : row.0 ≡ m = ap (λ o. (unwrap_or o row).0) there in eqb_comm m n ∙ ap (λ k. n == k) (sym same) ∙ apart.0
apart-at n m tallied (row ∷ rows) (suc i) apart there = apart-at n m tallied rows i apart.1 there

-- the property of a row stands in none before it
pub row_at-before : (rows : List (ℕ × Tallied)) (i n : ℕ) (tallied : Tallied) → AreRowsApart rows → slice_get rows i ≡ Some (n, tallied) → row_at n (take i rows) ≡ None
row_at-before [] i n tallied apart there = absurd (none-some (n, tallied) there)
row_at-before (row ∷ rows) zero n tallied apart there = refl
row_at-before (row ∷ rows) (suc i) n tallied apart there =
    cond-false (n == row.0) (Some row.1) (row_at n (take i rows)) (apart-at row.0 n tallied rows i (IsDistinct-head nat_eq row.0 (keys_of rows) apart) there) ∙ row_at-before rows i n tallied (IsDistinct-tail nat_eq row.0 (keys_of rows) apart) there

-- so the row is the one of its property
pub row_at-place : (rows : List (ℕ × Tallied)) (i n : ℕ) (tallied : Tallied) → AreRowsApart rows → slice_get rows i ≡ Some (n, tallied) → row_at n rows ≡ Some tallied
row_at-place [] i n tallied apart there = absurd (none-some (n, tallied) there)
row_at-place (row ∷ rows) zero n tallied apart there =
    let same : row ≡ (n, tallied) = ap (λ o. unwrap_or o row) there in
    ap (λ (r : ℕ × Tallied). cond (n == r.0) (Some r.1) (row_at n rows)) same ∙ cond-true (n == n) (Some tallied) (row_at n rows) (eq-eqb n n refl)
row_at-place (row ∷ rows) (suc i) n tallied apart there =
    cond-false (n == row.0) (Some row.1) (row_at n rows) (apart-at row.0 n tallied rows i (IsDistinct-head nat_eq row.0 (keys_of rows) apart) there) ∙ row_at-place rows i n tallied (IsDistinct-tail nat_eq row.0 (keys_of rows) apart) there

-- with one row more a property has the row that it had, or this one if it is of it
pub row_at-more : (rows : List (ℕ × Tallied)) (i n : ℕ) (tallied : Tallied) (m : ℕ) → slice_get rows i ≡ Some (n, tallied)
    → row_at m (take (i + 1) rows) ≡ option_or (row_at m (take i rows)) (if n == m then Some tallied else None)
row_at-more rows i n tallied m there = ap (λ j. row_at m (take j rows)) (add-one i) ∙ by rows i there
  where
    else_or : (b : Bool) (x : Tallied) (o p : Option Tallied) → cond b (Some x) (option_or o p) ≡ option_or (cond b (Some x) o) p
    else_or true x o p = refl
    else_or false x o p = refl

    by : (rows : List (ℕ × Tallied)) (i : ℕ) → slice_get rows i ≡ Some (n, tallied) → row_at m (take (suc i) rows) ≡ option_or (row_at m (take i rows)) (if n == m then Some tallied else None)
    by [] i there = absurd (none-some (n, tallied) there)
    by (row ∷ rows) zero there =
        let same : row ≡ (n, tallied) = ap (λ o. unwrap_or o row) there in
        ap (λ (r : ℕ × Tallied). cond (m == r.0) (Some r.1) None) same ∙ ap (λ b. cond b (Some tallied) None) (eqb_comm m n)
    by (row ∷ rows) (suc i) there =
        ap (cond (m == row.0) (Some row.1)) (by rows i there) ∙ else_or (m == row.0) row.1 (row_at m (take i rows)) (if n == m then Some tallied else None)
