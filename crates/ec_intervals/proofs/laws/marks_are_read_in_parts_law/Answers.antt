-- The pass over two parts.
use Rattle.std.proofs.Common.{◌++◌, ap, sym, ◌∙◌}
use Rattle.std.proofs.lemmas.List.{map-append}
use Rattle.ec_rows.specs.PlainMarks.{plain_mark, plain_marks}
use Rattle.ec_intervals.specs.Steps.{first_open, open_through, ended_through}
use Rattle.ec_intervals.proofs.Cut.{pass-append, pass-spelt_through}
use Rattle.ec_intervals.proofs.Pass.{pass, interval_by, pass-spans_of}
use Rattle.ec_intervals.proofs.Written.{IsPlainRow-from_row}
use Rattle.ec_intervals.proofs.laws.marks_are_read_in_parts_law.Goals as goal

pub returns : goal.returns
returns g c first second strong initial row =
    let rank = g.T.Moment.rank in
    sym (pass-spans_of (plain_marks rank (first ++ second)) strong initial (IsPlainRow-from_row rank (first ++ second) row))
    ∙ ap (pass interval_by strong (first_open initial)) (map-append (plain_mark rank) first second)
    ∙ pass-append strong (first_open initial) (plain_marks rank first) (plain_marks rank second)
    ∙ ap (λ xs. ended_through strong (first_open initial) (plain_marks rank first) ++ xs) (pass-spelt_through strong (open_through strong (first_open initial) (plain_marks rank first)) (plain_marks rank second))
