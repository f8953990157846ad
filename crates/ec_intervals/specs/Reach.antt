-- The reach of a row of intervals: which times lie outside it, so that the row need not be read.
use Rattle.std.specs.Prelude.{◌≡◌, ◌<◌, Bool, true, false, ◌||◌, ℕ, ℤ, int_lt, int_le, List, Option, Some, None, is_some, IsTrue}
use Rattle.std.specs.List.{list_any}
use Rattle.ec_axioms.specs.Timeline.{is_held_at}
use Rattle.ec_numbered.specs.ByNumber.{kept_at}
use Rattle.ec_rows.specs.declared.span.End.{End}
use Rattle.ec_rows.specs.declared.span.End.TheVariants.{At as Ended, Unended}
use Rattle.ec_rows.specs.declared.span.Span.{Span}
use Rattle.ec_rows.specs.Spans.{is_covering}
use Rattle.ec_intervals.specs.declared.interval.Interval.{Interval}
use Rattle.ec_intervals.specs.declared.reach.Reach.{Reach}
use Rattle.ec_intervals.specs.declared.reach.Reach.TheVariants.{Within, After, Any}
use Rattle.ec_intervals.specs.Table.{AreFew, IntervalRow, members_in, plain_intervals}

-- a time lies outside: up to the first begin, or behind the last end; where there is no reach, each time does
abbrev pub is_outside : {T : Type 0} → (T → ℤ) → Option (Reach T) → ℤ → Bool
is_outside rank None t = true
is_outside rank (Some (Within first last)) t = int_le t (rank first) || int_lt (rank last) t
is_outside rank (Some (After first)) t = int_le t (rank first)
is_outside rank (Some Any) t = false

-- the reach from a begin up to an end
abbrev pub reach_between : {T : Type 0} → T → End T → Reach T
reach_between first (Ended last) = Within first last
reach_between first Unended = After first

-- a reach of spans: none of them covers a time outside it
abbrev pub IsReachOfSpans : {T : Type 0} → (T → ℤ) → Option (Reach T) → List (Span T) → Type 0
IsReachOfSpans rank reach spans = (t : ℤ) → is_outside rank reach t ≡ true → list_any (is_covering rank t) spans ≡ false

-- a reach of intervals: none of them covers a time outside it
abbrev pub IsReachOf : {T : Type 0} → (T → ℤ) → Option (Reach T) → List (Interval T) → Type 0
IsReachOf rank reach intervals = (t : ℤ) → is_outside rank reach t ≡ true → is_held_at (plain_intervals rank intervals) t ≡ false

-- a reach has another: what lies outside it lies outside the other
abbrev pub HasReach : {T : Type 0} → (T → ℤ) → Option (Reach T) → Option (Reach T) → Type 0
HasReach rank reach other = (t : ℤ) → is_outside rank reach t ≡ true → is_outside rank other t ≡ true

-- reaches by number, and how many numbers have a place for one
pub record PlacedReaches (T : Type 0) : Type 0 where
  pub items : List (Option (Reach T))
  pub places : ℕ

-- Rows by number with their reaches: the intervals of each row are few and have the reach that is kept under its number,
-- and each number that has a row is one of those that have a place for a reach.
pub record AreKept {T : Type 0} (rank : T → ℤ) (reaches : PlacedReaches T) (rows : List (Option (IntervalRow T))) : Type 0 where
  pub few : AreFew rows
  pub reached : (n : ℕ) → IsReachOf rank (kept_at n reaches.items) (members_in (kept_at n rows))
  pub placed : (n : ℕ) → IsTrue (is_some (kept_at n rows)) → n < reaches.places
