-- Both rows spell what is ended before the window, and what is spelt behind it where no begin is open.
use Rattle.std.proofs.Common.{◌++◌, None, ap, ap₂, sym, ◌∙◌}
use Rattle.ec_rows.specs.PlainMarks.{plain_marks}
use Rattle.ec_intervals.specs.Steps.{first_open, open_through, ended_through}
use Rattle.ec_intervals.proofs.Pass.{pass, interval_by}
use Rattle.ec_intervals.proofs.Inert.{spans_of-inert}
use Rattle.ec_lists.proofs.Integers.{int_le-from}
use Rattle.ec_intervals.proofs.laws.inert_marks_spell_nothing_law.Goals as goal

pub returns : goal.returns
returns g c old new a b strong initial row new_row ordered before behind none old_inits new_inits =
    let rank = g.T.Moment.rank in
    let window = int_le-from a b ordered in
    spans_of-inert rank strong initial a b window old row none old_inits
    ∙ ap₂ (λ xs ys. ended_through strong (first_open initial) (plain_marks rank xs) ++ pass interval_by strong None (plain_marks rank ys)) before behind
    ∙ sym (spans_of-inert rank strong initial a b window new new_row (ap (λ xs. open_through strong (first_open initial) (plain_marks rank xs)) (sym before) ∙ none) new_inits)
