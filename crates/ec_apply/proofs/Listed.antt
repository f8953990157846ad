-- Touched properties, each of which is listed once.
use Rattle.std.proofs.Common.{◌≡◌, ℕ, zero, suc, Bool, true, false, cond, not, ◌&&◌, ◌||◌, List, [], ◌∷◌, take, Option, Some, IsTrue, refl, sym, ap, ap₂, subst, ◌∙◌, ⊎_elim, slice_get}
use Rattle.std.specs.Prelude.{◌==◌}
use Rattle.std.specs.List.{list_all}
use Rattle.std.specs.Option.{option_map_or}
use Rattle.std.proofs.lemmas.Bool.{cases_Bool, and_parts, eq-eqb, eqb-true, not-true}
use Rattle.std.proofs.Math.Bool.{or-false}
use Rattle.ec_lists.proofs.Tests.{list_all-slice_get}
use Rattle.ec_lists.proofs.Numbers.{eqb-turned}
use Rattle.ec_rows.proofs.OrderedLemmas.{ascending-first, ascending-rest}
use Rattle.ec_delta.specs.declared.touches.Touched.{Touched}
use Rattle.ec_delta.specs.Touched.{Row, are_once, matters_at, touched_at}
use Rattle.ec_apply.specs.Mended.{matters_in}

module _ {T : Type 0} where
  -- the first row is of no number of a later one
  first-other : (row r : Row T) (rows : List (Row T)) (i : ℕ) → IsTrue (are_once (r ∷ rows)) → slice_get rows i ≡ Some row → (r.0 == row.0) ≡ false
  first-other row r rows i once there =
      not-true (r.0 == row.0) (list_all-slice_get (λ (s : Row T). not (r.0 == s.0)) rows i row (ascending-first (λ (a b : Row T). not (a.0 == b.0)) r rows once) there)

  -- what is listed is found by its number
  pub touched_at-listed : (rows : List (Row T)) (i : ℕ) (row : Row T) → IsTrue (are_once rows) → slice_get rows i ≡ Some row → touched_at row.0 rows ≡ Some row.1
  touched_at-listed [] i row once there = cc
  touched_at-listed (r ∷ rows) zero row once there =
      let same : r ≡ row = cc in
      ap (λ b. cond b (Some r.1) (touched_at row.0 rows)) (eq-eqb row.0 r.0 (ap (λ (s : Row T). s.0) (sym same))) ∙ ap (λ (s : Row T). Some s.1) same
  touched_at-listed (r ∷ rows) (suc i) row once there =
      ap (λ b. cond b (Some r.1) (touched_at row.0 rows)) (eqb-turned r.0 row.0 (first-other row r rows i once there))
      ∙ touched_at-listed rows i row (ascending-rest (λ (a b : Row T). not (a.0 == b.0)) r rows once) there

  -- the rows before a place have no row of the number there
  pub matters_in-before : (rows : List (Row T)) (i : ℕ) (row : Row T) → IsTrue (are_once rows) → slice_get rows i ≡ Some row → matters_in row.0 (take i rows) ≡ false
  matters_in-before [] i row once there = cc
  matters_in-before (r ∷ rows) zero row once there = refl
  matters_in-before (r ∷ rows) (suc i) row once there =
      ap₂ (λ a b. (a && r.1.matters) || b) (first-other row r rows i once there) (matters_in-before rows i row (ascending-rest (λ (a b : Row T). not (a.0 == b.0)) r rows once) there)

  -- a number that is not that of any row does not matter
  none-listed : (n : ℕ) (rows : List (Row T)) → list_all (λ (s : Row T). not (n == s.0)) rows ≡ true → matters_in n rows ≡ false
  none-listed n [] none = refl
  none-listed n (r ∷ rows) none =
      let parts = and_parts (not (n == r.0)) _ none in
      ap₂ (λ a b. (a && r.1.matters) || b) (eqb-turned n r.0 (not-true (n == r.0) parts.0)) (none-listed n rows parts.1)

  -- it is all one whether a property is looked for or asked for
  pub matters_in-at : (n : ℕ) (rows : List (Row T)) → IsTrue (are_once rows) → matters_in n rows ≡ matters_at n rows
  matters_in-at n [] once = refl
  matters_in-at n (r ∷ rows) once =
      ⊎_elim
      (λ here.
      let same : r.0 ≡ n = eqb-true r.0 n here in
      let none : matters_in n rows ≡ false = none-listed n rows (subst (λ m. list_all (λ (s : Row T). not (m == s.0)) rows ≡ true) same (ascending-first (λ (a b : Row T). not (a.0 == b.0)) r rows once)) in
      ap₂ (λ a b. (a && r.1.matters) || b) here none ∙ or-false r.1.matters
      ∙ sym (ap (λ b. matters (cond b (Some r.1) (touched_at n rows))) (eq-eqb n r.0 (sym same))))
      (λ elsewhere.
      ap (λ b. (b && r.1.matters) || matters_in n rows) elsewhere ∙ matters_in-at n rows (ascending-rest (λ (a b : Row T). not (a.0 == b.0)) r rows once)
      ∙ sym (ap (λ b. matters (cond b (Some r.1) (touched_at n rows))) (eqb-turned r.0 n elsewhere)))
      (cases_Bool (r.0 == n))
    where
      matters : Option (Touched T) → Bool
      matters o = option_map_or (λ (t : Touched T). t.matters) o false
