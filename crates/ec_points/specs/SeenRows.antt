-- What is seen of rows that are kept by number, and what stays of a row when room is made.
use Rattle.std.specs.Prelude.{◌≡◌, ℕ, ◌≤◌, List, map, Option, option_map, is_some, IsTrue}
use Rattle.ec_numbered.specs.ByNumber.{kept_at}
use Rattle.ec_rows.specs.declared.mark.Mark.{Mark}
use Rattle.ec_points.specs.Table.{PointRow, row_of, marks_in, room_in}

-- what is seen of the row of a number, if there is one
abbrev pub seen_at : {T M : Type 0} → (M → List (Mark T)) → (M → ℕ) → ℕ → List (Option M) → Option (PointRow T)
seen_at marks spare n rows = option_map (row_of marks spare) (kept_at n rows)

-- what is seen of all rows, by number
abbrev pub rows_seen : {T M : Type 0} → (M → List (Mark T)) → (M → ℕ) → List (Option M) → List (Option (PointRow T))
rows_seen marks spare rows = map (option_map (row_of marks spare)) rows

-- the marks stay, no room falls, and a row stays there
pub record IsGrown {T : Type 0} (old new : Option (PointRow T)) : Type 0 where
  pub marks : marks_in new ≡ marks_in old
  pub room : room_in old ≤ room_in new
  pub kept : IsTrue (is_some old) → IsTrue (is_some new)
