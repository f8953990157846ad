-- The history of one property as a timeline, and what it says: currency, starts, intervals, broken begins, holding, reasons.
-- After Kowalski and Sergot (1986), and Chittaro and Montanari (1996) for maximal validity intervals, in outline.
use Rattle.std.specs.Prelude.{Bool, true, false, not, ◌&&◌, ◌||◌, if◌then◌else◌, List, [], ◌∷◌, ◌++◌, ℤ, int_lt, int_le, Option, Some, None, map, filter, find, filter_map}
use Rattle.std.specs.List.{list_any, list_all, last_or}
use Rattle.std.specs.Ordering.{int_eq}

-- The instants of a history, ascending, and what happens to one property at an instant: whether it is
-- initiated, whether it is terminated, whether it has a break; and whether it is initial.
pub record Timeline : Type 0 where
  pub instants : List ℤ
  pub initiated : ℤ → Bool
  pub terminated : ℤ → Bool
  pub breaks : ℤ → Bool
  pub initial : Bool

-- ---- currency

-- the instants before t
abbrev pub instants_before : Timeline → ℤ → List ℤ
instants_before line t = filter (λ s. int_lt s t) line.instants

-- the instants after s and before t
abbrev pub instants_between : Timeline → ℤ → ℤ → List ℤ
instants_between line s t = filter (λ u. int_lt s u) (instants_before line t)

-- initiated at s, with no break after s and before t
abbrev pub carries : Timeline → ℤ → ℤ → Bool
carries line t s = line.initiated s && not (list_any line.breaks (instants_between line s t))

-- initial, with no break before t
abbrev pub carries_initially : Timeline → ℤ → Bool
carries_initially line t = line.initial && not (list_any line.breaks (instants_before line t))

-- Current at t: some instant before t initiates the property, or it is initial, and no break lies between.
-- An instant does not count for itself: contexts read the strict past.
abbrev pub is_current_on : Timeline → ℤ → Bool
is_current_on line t = list_any (carries line t) (instants_before line t) || carries_initially line t

-- ---- intervals

-- where an interval begins: before all events, or at an instant
pub data Begin : Type 0 where
  before_all : Begin
  begin_at : ℤ → Begin

-- an interval with its begin, and its end unless it is unended
pub record Interval : Type 0 where
  pub from : Begin
  pub until : Option ℤ

-- t lies after the begin
abbrev pub is_after : Begin → ℤ → Bool
is_after before_all t = true
is_after (begin_at s) t = int_lt s t

-- the begin is the instant s
abbrev pub begins_at : ℤ → Begin → Bool
begins_at s before_all = false
begins_at s (begin_at r) = int_eq r s

-- initiated at s, and broken there or not current there
abbrev pub is_start : Timeline → ℤ → Bool
is_start line s = line.initiated s && (line.breaks s || not (is_current_on line s))

-- before all events where the property is initial
abbrev pub initial_begins : Bool → List Begin
initial_begins true = before_all ∷ []
initial_begins false = []

-- the begin before all events, if there is one, and then each start, ascending
abbrev pub begins_of : Timeline → List Begin
begins_of line = initial_begins line.initial ++ map begin_at (filter (is_start line) line.instants)

-- the least break after a begin
abbrev pub next_break : Timeline → Begin → Option ℤ
next_break line begin = find line.breaks (filter (is_after begin) line.instants)

-- the interval from a begin whose next break is given: none where that break is no termination
abbrev pub interval_from : Timeline → Begin → Option ℤ → Option Interval
interval_from line begin None = Some (record { from = begin; until = None })
interval_from line begin (Some x) = if line.terminated x then Some (record { from = begin; until = Some x }) else None

-- the begin with its next break, where that break is no termination
abbrev pub broken_from : Timeline → Begin → Option ℤ → Option (Begin × ℤ)
broken_from line begin None = None
broken_from line begin (Some x) = if line.terminated x then None else Some (begin, x)

-- the maximal validity intervals that begin at the given begins
abbrev pub intervals_from : Timeline → List Begin → List Interval
intervals_from line begins = filter_map (λ begin. interval_from line begin (next_break line begin)) begins

-- the broken ones of the given begins, each with its break
abbrev pub broken_begins_from : Timeline → List Begin → List (Begin × ℤ)
broken_begins_from line begins = filter_map (λ begin. broken_from line begin (next_break line begin)) begins

-- the maximal validity intervals, in order
abbrev pub intervals_on : Timeline → List Interval
intervals_on line = intervals_from line (begins_of line)

-- the begins that are broken, in order, each with its break
abbrev pub broken_on : Timeline → List (Begin × ℤ)
broken_on line = broken_begins_from line (begins_of line)

-- ---- holding

-- t is not after the end
abbrev pub is_within_end : Option ℤ → ℤ → Bool
is_within_end None t = true
is_within_end (Some x) t = int_le t x

-- the interval covers t: t lies after its begin and not after its end
abbrev pub covers : ℤ → Interval → Bool
covers t interval = is_after interval.from t && is_within_end interval.until t

-- some interval covers t
abbrev pub is_held_at : List Interval → ℤ → Bool
is_held_at intervals t = list_any (covers t) intervals

-- some interval begins at the instant
abbrev pub has_begin : List Interval → ℤ → Bool
has_begin intervals x = list_any (λ interval. begins_at x interval.from) intervals

-- an interval whose end lies in the stretch from a up to before b is followed by one that begins there
abbrev pub is_followed : List Interval → ℤ → ℤ → Option ℤ → Bool
is_followed intervals a b None = true
is_followed intervals a b (Some x) = if int_le a x && int_lt x b then has_begin intervals x else true

-- holding through the stretch from a to b
abbrev pub is_held_through : List Interval → ℤ → ℤ → Bool
is_held_through intervals a b = is_held_at intervals a && list_all (λ interval. is_followed intervals a b interval.until) intervals

-- ---- reasons

-- Why a property holds at t or does not: it began and goes on or ended not before t; it never began;
-- it began and ended before t; its last begin is broken.
pub data Reason : Type 0 where
  reason_yes : Begin → Option ℤ → Reason
  reason_never : Reason
  reason_ended : Begin → ℤ → Reason
  reason_broken : Begin → ℤ → Reason

-- the last begin before t
abbrev pub last_begin : Timeline → ℤ → Option Begin
last_begin line t = last_or None (filter (λ begin. is_after begin t) (begins_of line))

-- the reason from the last begin and its next break
abbrev pub reason_from : Timeline → ℤ → Begin → Option ℤ → Reason
reason_from line t begin None = reason_yes begin None
reason_from line t begin (Some x) =
    if line.terminated x then (if int_le t x then reason_yes begin (Some x) else reason_ended begin x) else reason_broken begin x

-- the reason at t, from the last begin before t if there is one
abbrev pub reason_by : Timeline → ℤ → Option Begin → Reason
reason_by line t None = reason_never
reason_by line t (Some begin) = reason_from line t begin (next_break line begin)

-- the reason for the property at t
abbrev pub reason_on : Timeline → ℤ → Reason
reason_on line t = reason_by line t (last_begin line t)
