-- What it is for the intervals of properties to be mended after their marks changed.
use Rattle.std.specs.Prelude.{◌≡◌, ◌+◌, ◌≤◌, ◌<◌, ◌≤ℤ◌, ℕ, ℤ, ◌==◌, Bool, not, ◌&&◌, List, length, slice_get, Some, IsTrue}
use Rattle.std.specs.List.{list_any}
use Rattle.std.specs.Cmp.Lexicographic.{pointwise}
use Rattle.ec_terms.specs.declared.ground.Ground.{Ground}
use Rattle.ec_terms.specs.declared.theory.Theory.{Theory}
use Rattle.ec_terms.specs.Domain.{is_strong}
use Rattle.ec_axioms.specs.Changes.{interval_eq}
use Rattle.ec_axioms.specs.Marks.{spans_of}
use Rattle.ec_axioms.specs.Timeline.{Interval}
use Rattle.ec_rows.specs.PlainMarks.{plain_marks}
use Rattle.ec_store.specs.Table.{KeptProp, term_at}
use Rattle.ec_exclusive.specs.Added.{is_added}
use Rattle.ec_exclusive.specs.Neighbours.{Neighbourhoods, AreNeighbours}
use Rattle.ec_points.specs.Table.{PointTable, is_initial_at, marks_at, has_row}
use Rattle.ec_intervals.specs.OldMarks.{AreOfOldMarks}
use Rattle.ec_intervals.specs.Table.{IntervalTable, members_at, plain_intervals, spans_at, room_at, has_row as has_intervals}
use Rattle.ec_delta.specs.declared.touches.Touched.{Touched}
use Rattle.ec_delta.specs.Touched.{Row}

-- the intervals that the marks of a property spell
abbrev pub spelt_by : {T : Type 0} → (T → ℤ) → Theory → Ground → ℕ → PointTable T → List Interval
spelt_by rank theory p n points = spans_of (plain_marks rank (marks_at n points)) (is_strong theory p) (is_initial_at n points)

-- the intervals of a property, with their times as whole numbers
abbrev pub intervals_at : {T : Type 0} → (T → ℤ) → ℕ → IntervalTable T → List Interval
intervals_at rank n intervals = plain_intervals rank (members_at n intervals)

-- The intervals of a property are those of its marks before they changed in the window, and its row and the buffer have room
-- for those of the marks as they are.
pub record IsMendable {T : Type 0} (rank : T → ℤ) (around : Neighbourhoods) (points : PointTable T) (n : ℕ) (touched : Touched T) (intervals : IntervalTable T) : Type 0 where
  pub theory : Theory
  pub table : List KeptProp
  pub property : Ground
  pub neighbours : AreNeighbours theory table around
  pub kept : term_at n table ≡ Some property
  pub added : IsTrue (is_added (record { 0 = n }) around.rows)
  pub marks_row : IsTrue (has_row n points)
  pub row : IsTrue (has_intervals n intervals)
  pub ordered : rank touched.from ≤ℤ rank touched.until
  pub old : AreOfOldMarks rank (rank touched.from) (rank touched.until) (is_strong theory property) (is_initial_at n points) (marks_at n points) (intervals_at rank n intervals)
  pub room : length (spelt_by rank theory property n points) ≤ length (spans_at n intervals) + room_at n intervals
  pub buffer : length (marks_at n points) < intervals.buffer

-- each touched property that matters can be mended
abbrev pub AreMendable : {T : Type 0} → (T → ℤ) → Neighbourhoods → PointTable T → List (Row T) → IntervalTable T → Type 0
AreMendable {T} rank around points touched intervals =
    (i : ℕ) (row : Row T) → slice_get touched i ≡ Some row → IsTrue row.1.matters → IsMendable rank around points row.0 row.1 intervals

-- the intervals of a property are those that its marks spell
abbrev pub IsMended : {T : Type 0} → (T → ℤ) → Neighbourhoods → PointTable T → ℕ → IntervalTable T → Type 0
IsMended rank around points n intervals =
    (theory : Theory) (table : List KeptProp) (p : Ground) → AreNeighbours theory table around → term_at n table ≡ Some p
    → intervals_at rank n intervals ≡ spelt_by rank theory p n points

-- some row is of the property of a number, and a change of its marks may move an interval
abbrev pub matters_in : {T : Type 0} → ℕ → List (Row T) → Bool
matters_in n rows = list_any (λ (row : Row _). row.0 == n && row.1.matters) rows

-- the intervals of a property are not the same in two tables
abbrev pub are_moved : {T : Type 0} → (T → ℤ) → ℕ → IntervalTable T → IntervalTable T → Bool
are_moved rank n old new = not (pointwise interval_eq (intervals_at rank n old) (intervals_at rank n new))

-- a touched property matters, and its intervals are not the same
abbrev pub is_moved : {T : Type 0} → (T → ℤ) → IntervalTable T → IntervalTable T → Row T → Bool
is_moved rank old new row = row.1.matters && are_moved rank row.0 old new
