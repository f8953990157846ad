-- The pass gives one more than there are marks at the most.
use Rattle.ec_intervals.proofs.Written.{length-spans_of}
use Rattle.ec_intervals.proofs.laws.spans_are_few_law.Goals as goal

pub returns : goal.returns
returns g c marks strong initial row = length-spans_of g.T.Moment.rank marks strong initial row
