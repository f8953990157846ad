-- Intervals of a row of marks as it was before some of its marks were changed.
use Rattle.std.specs.Prelude.{◌≡◌, ℤ, Bool, List}
use Rattle.ec_axioms.specs.Timeline.{Interval}
use Rattle.ec_axioms.specs.Marks.{spans_of}
use Rattle.ec_rows.specs.declared.mark.Mark.{Mark}
use Rattle.ec_rows.specs.Marks.{IsMarkRow, marks_before, marks_after}
use Rattle.ec_rows.specs.PlainMarks.{plain_marks}

-- Some intervals are those that an old row spells, which has the same marks as another before a and behind b.
pub record AreOfOldMarks {T : Type 0} (rank : T → ℤ) (a b : ℤ) (strong initial : Bool) (marks : List (Mark T)) (intervals : List Interval) : Type 0 where
  pub old : List (Mark T)
  pub row : IsMarkRow rank old
  pub before : marks_before rank a old ≡ marks_before rank a marks
  pub behind : marks_after rank b old ≡ marks_after rank b marks
  pub spelt : intervals ≡ spans_of (plain_marks rank old) strong initial
