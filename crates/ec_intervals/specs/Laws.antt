-- The laws of rows of intervals, as statements. Each is the contract of a function of the module of laws.
use Rattle.std.specs.Prelude.{◌≡◌, ◌+◌, ◌≤◌, ◌++◌, ℤ, Bool, true, List, length, Option, is_some}
use Rattle.ec_axioms.specs.Timeline.{Begin}
use Rattle.ec_axioms.specs.Marks.{PlainMark, is_marked, mark_initiates, spans_of}
use Rattle.ec_rows.specs.declared.mark.Mark.{Mark}
use Rattle.ec_rows.specs.Marks.{IsMarkRow}
use Rattle.ec_rows.specs.PlainMarks.{plain_marks}
use Rattle.ec_intervals.specs.Steps.{first_open, open_behind, open_through, ended_through, spelt_through}

-- a row spells at most one interval more than it has marks
abbrev pub SpansAreFew : {T : Type 0} → (T → ℤ) → Type 0
SpansAreFew {T} rank = (marks : List (Mark T)) (strong initial : Bool) → IsMarkRow rank marks → length (spans_of (plain_marks rank marks) strong initial) ≤ length marks + 1

-- what a row in two parts spells is what the first part ends, and what the second spells from the begin that is open between them
abbrev pub MarksAreReadInParts : {T : Type 0} → (T → ℤ) → Type 0
MarksAreReadInParts {T} rank =
    (first second : List (Mark T)) (strong initial : Bool) → IsMarkRow rank (first ++ second)
    → spans_of (plain_marks rank (first ++ second)) strong initial
    ≡ ended_through strong (first_open initial) (plain_marks rank first) ++ spelt_through strong (open_through strong (first_open initial) (plain_marks rank first)) (plain_marks rank second)

-- behind a mark with a count a begin is open exactly where the mark initiates
abbrev pub OpenBeginsAreToldByOneMark : Type 0
OpenBeginsAreToldByOneMark = (strong : Bool) (begun : Option Begin) (mark : PlainMark) → is_marked mark ≡ true → is_some (open_behind strong begun mark) ≡ mark_initiates mark
