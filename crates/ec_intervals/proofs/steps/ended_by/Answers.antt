-- A mark that terminates ends the interval from the open begin.
use Rattle.std.proofs.Common.{rules}
use Rattle.ec_intervals.proofs.steps.ended_by.Goals as goal

pub returns : goal.returns
returns g c = search rules
