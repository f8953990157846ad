-- A row of marks read from left to right: which begin is open in front of a mark, and what a mark ends, breaks and opens.
use Rattle.std.specs.Prelude.{Bool, true, false, not, ◌&&◌, ◌||◌, if◌then◌else◌, List, [], ◌∷◌, ◌++◌, find, ℤ, int_lt, int_le, Option, Some, None, option_map, is_some, IsTrue}
use Rattle.std.specs.List.{list_all, last_or}
use Rattle.std.specs.Option.{option_map_or, option_and_then, option_to_list}
use Rattle.ec_axioms.specs.Timeline.{Begin, before_all, begin_at, Interval, is_after}
use Rattle.ec_axioms.specs.Marks.{PlainMark, mark_initiates, mark_terminates, mark_breaks}
use Rattle.ec_rows.specs.Ordered.{is_ascending}

-- ---- the open begin

-- in front of all marks that before all events is open, where the property is initial
abbrev pub first_open : Bool → Option Begin
first_open initial = if initial then Some before_all else None

-- a mark opens: it initiates, and it breaks or no begin is open
abbrev pub mark_opens : Bool → Option Begin → PlainMark → Bool
mark_opens strong begun mark = mark_initiates mark && (mark_breaks strong mark || not (is_some begun))

-- the begin that is open behind a mark: that of the mark where it opens, none where it only breaks, else the one before it
abbrev pub open_behind : Bool → Option Begin → PlainMark → Option Begin
open_behind strong begun mark = if mark_opens strong begun mark then Some (begin_at mark.instant) else (if mark_breaks strong mark then None else begun)

-- ---- what becomes of it

-- the interval from a begin up to an instant
abbrev pub interval_up_to : ℤ → Begin → Interval
interval_up_to t begin = record { from = begin; until = Some t }

-- the interval from a begin that has no end
abbrev pub unended_interval : Begin → Interval
unended_interval begin = record { from = begin; until = None }

-- the interval from the open begin up to an end, where there are both
abbrev pub lasting : Option (Option ℤ) → Option Begin → Option Interval
lasting None begun = None
lasting (Some until) begun = option_map (λ begin. record { from = begin; until = until }) begun

-- the interval that a mark ends: from the open begin up to the mark, where the mark terminates
abbrev pub ended_by : Option Begin → PlainMark → Option Interval
ended_by begun mark = if mark_terminates mark then option_map (interval_up_to mark.instant) begun else None

-- the begin that a mark breaks: the open one, where the mark breaks and does not terminate
abbrev pub broken_by : Bool → Option Begin → PlainMark → Option (Begin × ℤ)
broken_by strong begun mark = if mark_breaks strong mark && not (mark_terminates mark) then option_map (λ begin. (begin, mark.instant)) begun else None

-- ---- where an interval begins and ends

-- the begin is an instant that passes a test
abbrev pub begins_where : (ℤ → Bool) → Begin → Bool
begins_where p before_all = false
begins_where p (begin_at s) = p s

-- the interval has an end, and that passes a test
abbrev pub ends_where : (ℤ → Bool) → Interval → Bool
ends_where p interval = option_map_or p interval.until false

-- the interval ends before t
abbrev pub ends_before : ℤ → Interval → Bool
ends_before t interval = ends_where (λ x. int_lt x t) interval

-- the interval begins behind t
abbrev pub begins_behind : ℤ → Interval → Bool
begins_behind t interval = begins_where (λ s. int_lt t s) interval.from

-- the interval ends, and not behind t
abbrev pub ends_by : ℤ → Interval → Bool
ends_by t interval = option_map_or (λ x. int_le x t) interval.until false

-- the end of the last of some intervals, where that goes on behind t
abbrev pub end_behind : ℤ → List Interval → Option (Option ℤ)
end_behind t intervals = option_and_then (λ (interval : Interval). if ends_by t interval then None else Some interval.until) (last_or None intervals)

-- ---- several marks

-- the begin that is open behind some marks
unfoldable pub open_through : Bool → Option Begin → List PlainMark → Option Begin
open_through strong begun [] = begun
open_through strong begun (m ∷ ms) = open_through strong (open_behind strong begun m) ms

-- the intervals that some marks end, one after the other
unfoldable pub ended_through : Bool → Option Begin → List PlainMark → List Interval
ended_through strong begun [] = []
ended_through strong begun (m ∷ ms) = option_to_list (ended_by begun m) ++ ended_through strong (open_behind strong begun m) ms

-- the begins that some marks break, one after the other, each with its break
unfoldable pub broken_through : Bool → Option Begin → List PlainMark → List (Begin × ℤ)
broken_through strong begun [] = []
broken_through strong begun (m ∷ ms) = option_to_list (broken_by strong begun m) ++ broken_through strong (open_behind strong begun m) ms

-- the intervals that some marks spell: those that they end, and that of the begin which is open behind them all
abbrev pub spelt_through : Bool → Option Begin → List PlainMark → List Interval
spelt_through strong begun marks = ended_through strong begun marks ++ option_to_list (option_map unended_interval (open_through strong begun marks))

-- a mark lies behind an instant, if one is given
abbrev pub is_behind : Option ℤ → PlainMark → Bool
is_behind until mark = option_map_or (λ u. int_lt u mark.instant) until false

-- the marks up to an instant and the first one behind it; all marks, where no instant is given
unfoldable pub up_to_first_behind : Option ℤ → List PlainMark → List PlainMark
up_to_first_behind until [] = []
up_to_first_behind until (m ∷ ms) = m ∷ (if is_behind until m then [] else up_to_first_behind until ms)

-- the instant of the first mark behind an instant, if one is given
abbrev pub first_behind : Option ℤ → List PlainMark → Option ℤ
first_behind until marks = option_map (λ (m : PlainMark). m.instant) (find (is_behind until) marks)

-- ---- intervals in order

-- an end lies after its begin
abbrev pub is_proper : Interval → Bool
is_proper interval = option_map_or (is_after interval.from) interval.until true

-- a begin is an instant from x on
abbrev pub begins_from : ℤ → Begin → Bool
begins_from x before_all = false
begins_from x (begin_at s) = int_le x s

-- an interval comes before another where it ends by the begin of the other
abbrev pub comes_before : Interval → Interval → Bool
comes_before interval other = option_map_or (λ x. begins_from x other.from) interval.until false

-- a row of intervals: each is proper and ends by the begin of those behind it
pub record IsIntervalRow (intervals : List Interval) : Type 0 where
  pub proper : IsTrue (list_all is_proper intervals)
  pub ascending : IsTrue (is_ascending comes_before intervals)
