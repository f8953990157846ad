-- What currency at a time depends on: the marks before that time, and no others.
use Rattle.std.specs.Prelude.{◌≡◌, ℕ, ℤ, int_le, int_lt, List, IsTrue}
use Rattle.ec_rows.specs.declared.mark.Mark.{Mark}
use Rattle.ec_rows.specs.Marks.{IsMarkRow, mark_at, marks_before}
use Rattle.ec_points.specs.Table.{PointTable, is_current_at, is_initial_at, marks_at}

-- Two properties with the same marks before t, both initial or both not, are current at the same times up to t and at it.
abbrev pub CurrencyIsOfThePast : {T : Type 0} → (T → ℤ) → Type 0
CurrencyIsOfThePast {T} rank =
    (points others : PointTable T) (n m : ℕ) (t u : ℤ) → is_initial_at n points ≡ is_initial_at m others
    → marks_before rank t (marks_at n points) ≡ marks_before rank t (marks_at m others) → IsTrue (int_le u t)
    → is_current_at rank points n u ≡ is_current_at rank others m u

-- Two rows with the same mark at each time before t have the same marks before t.
abbrev pub PastIsKnownByTimes : {T : Type 0} → (T → ℤ) → Type 0
PastIsKnownByTimes {T} rank =
    (marks others : List (Mark T)) (t : ℤ) → IsMarkRow rank marks → IsMarkRow rank others
    → ((u : ℤ) → IsTrue (int_lt u t) → mark_at rank u marks ≡ mark_at rank u others)
    → marks_before rank t marks ≡ marks_before rank t others
