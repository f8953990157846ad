-- The intervals of all properties, by number, and how times in them are read as whole numbers.
use Rattle.std.specs.Prelude.{◌≡◌, ◌++◌, ◌<◌, ◌≤◌, ◌^◌, ℕ, ℤ, Bool, List, [], ◌∷◌, map, filter, length, int_le, Option, Some, None, is_some, IsTrue}
use Rattle.std.specs.List.{last_or}
use Rattle.ec_numbered.specs.ByNumber.{kept_at}
use Rattle.ec_axioms.specs.Timeline.{Begin as PlainBegin, before_all, begin_at, Interval as PlainInterval, is_after}
use Rattle.ec_rows.specs.declared.span.End.{End}
use Rattle.ec_rows.specs.declared.span.End.TheVariants.{At as Ended, Unended}
use Rattle.ec_rows.specs.declared.span.Span.{Span}
use Rattle.ec_intervals.specs.declared.interval.Begin.{Begin}
use Rattle.ec_intervals.specs.declared.interval.Begin.TheVariants.{Initial, At}
use Rattle.ec_intervals.specs.declared.interval.Interval.{Interval}

-- the row of a property: the end of its front, which is the interval from before all events, if it has that one;
-- its spans, which are its intervals from a time; and how many further spans it takes without memory
pub record IntervalRow (T : Type 0) : Type 0 where
  pub front : Option (End T)
  pub spans : List (Span T)
  pub room : ℕ

-- the rows by number, where there are some, and how many spans the buffer takes that they share
pub record IntervalTable (T : Type 0) : Type 0 where
  pub rows : List (Option (IntervalRow T))
  pub buffer : ℕ

-- ---- rows

-- the end of the front of a row, if it has one
abbrev pub front_in : {T : Type 0} → Option (IntervalRow T) → Option (End T)
front_in None = None
front_in (Some row) = row.front

-- the spans of a row; where there is none, no spans
abbrev pub spans_in : {T : Type 0} → Option (IntervalRow T) → List (Span T)
spans_in None = []
spans_in (Some row) = row.spans

-- the room of a row; where there is none, no room
abbrev pub room_in : {T : Type 0} → Option (IntervalRow T) → ℕ
room_in None = 0
room_in (Some row) = row.room

-- a span as an interval
abbrev pub span_interval : {T : Type 0} → Span T → Interval T
span_interval span = record { from = At span.from; end = span.end }

-- the interval from before all events, if there is one
abbrev pub front_members : {T : Type 0} → Option (End T) → List (Interval T)
front_members None = []
front_members (Some end) = record { from = Initial; end = end } ∷ []

-- the intervals of a row: the front first, then the spans
abbrev pub members_in : {T : Type 0} → Option (IntervalRow T) → List (Interval T)
members_in row = front_members (front_in row) ++ map span_interval (spans_in row)

-- ---- by number

-- the row of the property of a number, if there is one
abbrev pub row_at : {T : Type 0} → ℕ → IntervalTable T → Option (IntervalRow T)
row_at n table = kept_at n table.rows

-- the property of a number has a row
abbrev pub has_row : {T : Type 0} → ℕ → IntervalTable T → Bool
has_row n table = is_some (row_at n table)

-- the end of the front, the spans, the room and the intervals of the property of a number
abbrev pub front_at : {T : Type 0} → ℕ → IntervalTable T → Option (End T)
front_at n table = front_in (row_at n table)

abbrev pub spans_at : {T : Type 0} → ℕ → IntervalTable T → List (Span T)
spans_at n table = spans_in (row_at n table)

abbrev pub room_at : {T : Type 0} → ℕ → IntervalTable T → ℕ
room_at n table = room_in (row_at n table)

abbrev pub members_at : {T : Type 0} → ℕ → IntervalTable T → List (Interval T)
members_at n table = members_in (row_at n table)

-- each row has so few intervals that a word counts them
abbrev pub AreFew : {T : Type 0} → List (Option (IntervalRow T)) → Type 0
AreFew rows = (n : ℕ) → length (members_in (kept_at n rows)) < 2 ^ 64

-- the front and the spans stay, no room falls, and a row stays there
pub record IsGrown {T : Type 0} (old new : Option (IntervalRow T)) : Type 0 where
  pub front : front_in new ≡ front_in old
  pub spans : spans_in new ≡ spans_in old
  pub room : room_in old ≤ room_in new
  pub kept : IsTrue (is_some old) → IsTrue (is_some new)

-- ---- times as whole numbers

-- a begin, with its time as a whole number
abbrev pub plain_begin : {T : Type 0} → (T → ℤ) → Begin T → PlainBegin
plain_begin rank Initial = before_all
plain_begin rank (At t) = begin_at (rank t)

-- an end, with its time as a whole number
abbrev pub plain_end : {T : Type 0} → (T → ℤ) → End T → Option ℤ
plain_end rank (Ended t) = Some (rank t)
plain_end rank Unended = None

-- an interval, with its times as whole numbers
abbrev pub plain_interval : {T : Type 0} → (T → ℤ) → Interval T → PlainInterval
plain_interval rank interval = record { from = plain_begin rank interval.from; until = plain_end rank interval.end }

-- intervals, with their times as whole numbers
abbrev pub plain_intervals : {T : Type 0} → (T → ℤ) → List (Interval T) → List PlainInterval
plain_intervals rank intervals = map (plain_interval rank) intervals

-- spans as intervals, with their times as whole numbers
abbrev pub plain_spans : {T : Type 0} → (T → ℤ) → List (Span T) → List PlainInterval
plain_spans rank spans = plain_intervals rank (map span_interval spans)

-- the spans that start up to t and at it
abbrev pub spans_up_to : {T : Type 0} → (T → ℤ) → ℤ → List (Span T) → List (Span T)
spans_up_to rank t spans = filter (λ span. int_le (rank span.from) t) spans

-- a broken begin with its break, with their times as whole numbers
abbrev pub plain_broken : {T : Type 0} → (T → ℤ) → Begin T × T → PlainBegin × ℤ
plain_broken rank broken = (plain_begin rank broken.0, rank broken.1)

-- the last begin of some intervals before t
abbrev pub last_begin_of : List PlainInterval → ℤ → Option PlainBegin
last_begin_of intervals t = last_or None (filter (λ begin. is_after begin t) (map (λ (interval : PlainInterval). interval.from) intervals))
