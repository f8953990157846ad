-- A mark with a count initiates or breaks.
use Rattle.ec_intervals.proofs.Pass.{is_some-open_behind}
use Rattle.ec_intervals.proofs.laws.open_begins_are_told_by_one_mark_law.Goals as goal

pub returns : goal.returns
returns c strong begun mark some = is_some-open_behind strong begun mark some
