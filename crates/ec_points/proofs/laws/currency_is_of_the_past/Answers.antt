-- The last mark before a time is one of those before any later time.
use Rattle.std.proofs.Common.{ap₂}
use Rattle.ec_axioms.specs.Marks.{current_after}
use Rattle.ec_points.specs.Table.{marks_at}
use Rattle.ec_points.proofs.PastMarks.{last_mark-past}
use Rattle.ec_points.proofs.laws.currency_is_of_the_past.Goals as goal

pub returns : goal.returns
returns g c = λ points others n m t u initial same past.
    ap₂ current_after initial (last_mark-past g.T.Moment.rank t u (marks_at n points) (marks_at m others) same past)
