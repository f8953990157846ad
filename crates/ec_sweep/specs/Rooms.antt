-- What it is for rows to have grown in their room alone, and for those of touched properties to have the room that they need.
use Rattle.std.specs.Prelude.{◌≡◌, ℕ, ◌+◌, ◌*◌, ◌≤◌, ◌<◌, List, Some, IsTrue, length}
use Rattle.ec_points.specs.Table.{PointTable, marks_at, has_row, room_at}
use Rattle.ec_intervals.specs.Table.{IntervalTable, members_at, has_row as has_intervals, room_at as span_room_at}
use Rattle.ec_delta.specs.declared.touches.Touched.{Touched}
use Rattle.ec_delta.specs.Touched.{Row, touched_at}

-- the marks stay, rows stay there, and no room falls
pub record AreMarksGrown {T : Type 0} (before after : PointTable T) : Type 0 where
  pub marks : (n : ℕ) → marks_at n after ≡ marks_at n before
  pub room : (n : ℕ) → room_at n before ≤ room_at n after
  pub kept : (n : ℕ) → IsTrue (has_row n before) → IsTrue (has_row n after)
  pub initials : after.initials ≡ before.initials

-- a property has a row with room for so many marks
pub record HasRoomIn {T : Type 0} (n more : ℕ) (points : PointTable T) : Type 0 where
  pub row : IsTrue (has_row n points)
  pub room : more ≤ room_at n points

-- each touched property has a row with room for as many marks as are counted of it
abbrev pub HaveRoomIn : {T : Type 0} → (Touched T → ℕ) → List (Row T) → PointTable T → Type 0
HaveRoomIn {T} count rows points = (n : ℕ) (touched : Touched T) → touched_at n rows ≡ Some touched → HasRoomIn n (count touched) points

-- each touched property has room for as many marks as are counted of it
abbrev pub HaveSpareIn : {T : Type 0} → (Touched T → ℕ) → List (Row T) → PointTable T → Type 0
HaveSpareIn {T} count rows points = (n : ℕ) (touched : Touched T) → touched_at n rows ≡ Some touched → count touched ≤ room_at n points

-- the intervals stay, rows stay there, and no room falls
pub record AreIntervalsGrown {T : Type 0} (before after : IntervalTable T) : Type 0 where
  pub members : (n : ℕ) → members_at n after ≡ members_at n before
  pub room : (n : ℕ) → span_room_at n before ≤ span_room_at n after
  pub kept : (n : ℕ) → IsTrue (has_intervals n before) → IsTrue (has_intervals n after)
  pub buffer : before.buffer ≤ after.buffer

-- a property whose intervals may move has a row with room for them, and so has the buffer, where it has so many marks
pub record HasRoomToMove {T : Type 0} (n marks : ℕ) (touched : Touched T) (intervals : IntervalTable T) : Type 0 where
  pub row : IsTrue touched.matters → IsTrue (has_intervals n intervals)
  pub spans : IsTrue touched.matters → 2 * touched.count + 1 ≤ span_room_at n intervals
  pub buffer : IsTrue touched.matters → marks + touched.grows < intervals.buffer

-- so it is for each touched property, by its marks
abbrev pub HaveRoomToMove : {T : Type 0} → List (Row T) → PointTable T → IntervalTable T → Type 0
HaveRoomToMove {T} rows points intervals =
    (n : ℕ) (touched : Touched T) → touched_at n rows ≡ Some touched → HasRoomToMove n (length (marks_at n points)) touched intervals
