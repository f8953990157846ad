-- Each row spells before the instant what its marks before it end.
use Rattle.std.proofs.Common.{◌≡◌, ℤ, Bool, List, filter, ap, sym, ◌∙◌}
use Rattle.ec_axioms.specs.Marks.{spans_of}
use Rattle.ec_rows.specs.declared.mark.Mark.{Mark}
use Rattle.ec_rows.specs.Marks.{IsMarkRow, marks_before}
use Rattle.ec_rows.specs.PlainMarks.{plain_marks}
use Rattle.ec_intervals.specs.Steps.{ends_before, ended_through, first_open}
use Rattle.ec_intervals.proofs.Pass.{interval_by, pass, pass-spans_of}
use Rattle.ec_intervals.proofs.Spliced.{earlier, earlier-before, earlier-rest, rest, rest-from}
use Rattle.ec_intervals.proofs.TwoRows.{ends_before-pass}
use Rattle.ec_intervals.proofs.Written.{IsPlainRow-from_row}
use Rattle.ec_intervals.proofs.laws.what_ends_before_a_change_stays_law.Goals as goal

-- what a row spells before an instant
told : {T : Type 0} (rank : T → ℤ) (marks : List (Mark T)) (a : ℤ) (strong initial : Bool) → IsMarkRow rank marks
    → filter (ends_before a) (spans_of (plain_marks rank marks) strong initial) ≡ ended_through strong (first_open initial) (plain_marks rank (marks_before rank a marks))
told rank marks a strong initial row =
    ap (filter (ends_before a))
    (sym (pass-spans_of (plain_marks rank marks) strong initial (IsPlainRow-from_row rank marks row)) ∙ ap (pass interval_by strong (first_open initial)) (earlier-rest rank a marks row))
    ∙ ends_before-pass a strong (first_open initial) (earlier rank a marks row) (rest rank a marks row) (earlier-before rank a marks row) (rest-from rank a marks row)

pub returns : goal.returns
returns g c old new a strong initial row new_row before =
    let rank = g.T.Moment.rank in
    told rank old a strong initial row ∙ ap (λ marks. ended_through strong (first_open initial) (plain_marks rank marks)) before ∙ sym (told rank new a strong initial new_row)
