-- A property is current as its last mark says, and without a mark where it is initial.
use Rattle.std.proofs.Common.{rules}
use Rattle.ec_points.proofs.points.PointsCurrent.current.Goals as goal

pub returns-in-Some : goal.returns-in-Some
returns-in-Some g c = search rules

pub returns-in-None : goal.returns-in-None
returns-in-None g c = search rules
