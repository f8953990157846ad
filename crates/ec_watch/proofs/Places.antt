-- A property has its row at one place.
use Rattle.std.proofs.Common.{◌≡◌, ℕ, ◌+◌, ◌-◌, ◌≤◌, ◌<◌, true, List, take, drop, get_or, Some, refl, sym, ap, subst, ◌∙◌, ⊎_elim, arith}
use Rattle.std.specs.Prelude.{slice_get}
use Rattle.std.specs.List.{list_all}
use Rattle.std.specs.Ordering.{is_lt}
use Rattle.std.proofs.lemmas.Bool.{cases_lt, false≢true}
use Rattle.std.proofs.lemmas.Option.{get_or_from_slice_get, slice_get_cases}
use Rattle.ec_lists.proofs.Places.{slice_get-take}
use Rattle.ec_lists.proofs.Tests.{list_all-slice_get}
use Rattle.ec_intervals.proofs.Spliced.{slice_get-drop}
use Rattle.ec_terms.specs.declared.ground.Ground.{Ground}
use Rattle.ec_terms.specs.Term.{term_cmp}
use Rattle.ec_terms.proofs.OrderLemmas.{term_cmp-Equal}
use Rattle.ec_watch.specs.declared.row.Row.{Row}
use Rattle.ec_watch.specs.Watched.{HasNoRow, IsFree, IsThere, is_above, is_below}

-- no term comes before itself
not_before_itself : (p : Ground) → is_lt (term_cmp p p) ≡ true → ⊥
not_before_itself p less = false≢true (sym (ap is_lt ((term_cmp-Equal p p).1 refl)) ∙ less)

-- the row of a property is neither below it nor above it
not_below : (p : Ground) (row : Row) → row.prop ≡ p → is_below p row ≡ true → ⊥
not_below p row same below = not_before_itself p (subst (λ q. is_lt (term_cmp q p) ≡ true) same below)

not_above : (p : Ground) (row : Row) → row.prop ≡ p → is_above p row ≡ true → ⊥
not_above p row same above = not_before_itself p (subst (λ q. is_lt (term_cmp p q) ≡ true) same above)

-- a row that stands in front of a place, and one that stands from a place on
in_front : (p : Ground) (rows : List Row) (i j : ℕ) (row : Row) → list_all (is_below p) (take j rows) ≡ true → i < j → slice_get rows i ≡ Some row → row.prop ≡ p → ⊥
in_front p rows i j row below before at same =
    not_below p row same (list_all-slice_get (is_below p) (take j rows) i row below (slice_get-take rows j i before ∙ at))

behind : (p : Ground) (rows : List Row) (i j : ℕ) (row : Row) → list_all (is_above p) (drop j rows) ≡ true → j ≤ i → slice_get rows i ≡ Some row → row.prop ≡ p → ⊥
behind p rows i j row above after at same =
    let sum : i ≡ j + (i - j) = omega (arith, after) in
    not_above p row same (list_all-slice_get (is_above p) (drop j rows) (i - j) row above (slice_get-drop rows j (i - j) row (ap (slice_get rows) (sym sum) ∙ at)))

-- where the place of a property is free it has no row
pub HasNoRow-free : (p : Ground) (rows : List Row) (j : ℕ) → IsFree p rows j → HasNoRow p rows
HasNoRow-free p rows j free i row at same =
    ⊎_elim (λ before. in_front p rows i j row free.front before at same) (λ after. behind p rows i j row free.behind after at same) (cases_lt i j)

-- and where it has one it has no other
pub place-same : (p : Ground) (rows : List Row) (i j : ℕ) (row : Row) → IsThere p rows j → slice_get rows i ≡ Some row → row.prop ≡ p → i ≡ j
place-same p rows i j row there at same =
    ⊎_elim
    (λ before. absurd (in_front p rows i j row there.front before at same))
    (λ from. ⊎_elim (λ upto. omega (arith, from, upto)) (λ after. absurd (behind p rows i (j + 1) row there.behind after at same)) (cases_lt i (j + 1)))
    (cases_lt i j)

-- there stands a row, and it is the property's
pub row-there : (p : Ground) (rows : List Row) (j : ℕ) → IsThere p rows j → (row : Row) × (slice_get rows j ≡ Some row) × (row.prop ≡ p)
row-there p rows j there =
    ⊎_elim (λ found. (found.0, found.2, ap (λ (r : Row). r.prop) (sym found.3) ∙ there.here found.0)) (λ past. absurd (omega (arith, there.within, past.0))) (slice_get_cases rows j).1

-- at one place stands the row of one property
pub property-same : (p q : Ground) (rows : List Row) (i j : ℕ) → IsThere p rows i → IsThere q rows j → i ≡ j → p ≡ q
property-same p q rows i j here there same =
    let row = row-there p rows i here in
    sym row.2 ∙ ap (λ (r : Row). r.prop) (sym (get_or_from_slice_get rows i row.0 row.0 row.1)) ∙ ap (λ n. (get_or rows n row.0).prop) same ∙ there.here row.0
