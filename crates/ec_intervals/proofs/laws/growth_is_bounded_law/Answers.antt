-- One changed instant after the other.
use Rattle.ec_intervals.proofs.Growth.{length-changed}
use Rattle.ec_intervals.proofs.laws.growth_is_bounded_law.Goals as goal

pub returns : goal.returns
returns g c old new changed strong initial row new_row same = length-changed g.T.Moment.rank strong initial new new_row changed old row same
