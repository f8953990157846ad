-- What a change of some marks can do to the intervals that a row spells, as laws. Each is the contract of a function of the module of laws.
use Rattle.std.specs.Prelude.{◌≡◌, ◌+◌, ◌*◌, ◌≤◌, ◌≤ℤ◌, ◌&&◌, ℤ, Bool, false, List, filter, length, None, int_le}
use Rattle.std.specs.List.{list_any}
use Rattle.std.specs.Ordering.{int_eq}
use Rattle.ec_axioms.specs.Marks.{mark_initiates, spans_of}
use Rattle.ec_rows.specs.declared.mark.Mark.{Mark}
use Rattle.ec_rows.specs.Marks.{IsMarkRow, mark_at, marks_before, marks_after}
use Rattle.ec_rows.specs.PlainMarks.{plain_mark, plain_marks}
use Rattle.ec_intervals.specs.Steps.{ends_before, first_open, open_through}

-- two rows have the same mark at each time but at some instants
abbrev pub DifferAtMostAt : {T : Type 0} → (T → ℤ) → List ℤ → List (Mark T) → List (Mark T) → Type 0
DifferAtMostAt rank changed old new = (t : ℤ) → list_any (λ u. int_eq u t) changed ≡ false → mark_at rank t old ≡ mark_at rank t new

-- a row spells at most two intervals more than another for each instant at which they differ
abbrev pub GrowthIsBounded : {T : Type 0} → (T → ℤ) → Type 0
GrowthIsBounded {T} rank =
    (old new : List (Mark T)) (changed : List ℤ) (strong initial : Bool) → IsMarkRow rank old → IsMarkRow rank new → DifferAtMostAt rank changed old new
    → length (spans_of (plain_marks rank new) strong initial) ≤ length (spans_of (plain_marks rank old) strong initial) + 2 * length changed

-- some mark from a to b initiates
abbrev pub initiates_within : {T : Type 0} → (T → ℤ) → ℤ → ℤ → List (Mark T) → Bool
initiates_within rank a b marks = list_any (λ mark. int_le a (rank mark.at) && int_le (rank mark.at) b && mark_initiates (plain_mark rank mark)) marks

-- where no begin is open in front of a window, and neither row initiates in it, two rows that agree outside it spell the same
abbrev pub InertMarksSpellNothing : {T : Type 0} → (T → ℤ) → Type 0
InertMarksSpellNothing {T} rank =
    (old new : List (Mark T)) (a b : ℤ) (strong initial : Bool) → IsMarkRow rank old → IsMarkRow rank new → a ≤ℤ b
    → marks_before rank a old ≡ marks_before rank a new → marks_after rank b old ≡ marks_after rank b new
    → open_through strong (first_open initial) (plain_marks rank (marks_before rank a old)) ≡ None
    → initiates_within rank a b old ≡ false → initiates_within rank a b new ≡ false
    → spans_of (plain_marks rank old) strong initial ≡ spans_of (plain_marks rank new) strong initial

-- two rows that have the same marks before an instant spell the same intervals that end before it
abbrev pub WhatEndsBeforeAChangeStays : {T : Type 0} → (T → ℤ) → Type 0
WhatEndsBeforeAChangeStays {T} rank =
    (old new : List (Mark T)) (a : ℤ) (strong initial : Bool) → IsMarkRow rank old → IsMarkRow rank new → marks_before rank a old ≡ marks_before rank a new
    → filter (ends_before a) (spans_of (plain_marks rank old) strong initial) ≡ filter (ends_before a) (spans_of (plain_marks rank new) strong initial)
