-- Rows of marks are in the order of their times.
use Rattle.ec_rows.specs.declared.mark.Mark.{Mark}
use Rattle.ec_rows.proofs.KnownByTimes.{by_time-ext}
use Rattle.ec_rows.proofs.laws.rows_ext.Goals as goal

pub returns : goal.returns
returns g c marks others row other_row same = by_time-ext g.T.Moment.rank (λ (mark : Mark _). mark.at) marks others row.ascending other_row.ascending same
