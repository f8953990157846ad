-- Rows are known by their times, and so are their parts.
use Rattle.ec_points.proofs.PastMarks.{marks_before-ext}
use Rattle.ec_points.proofs.laws.past_is_known_by_times.Goals as goal

pub returns : goal.returns
returns g c = λ marks others t row other_row same. marks_before-ext g.T.Moment.rank marks others t row other_row same
