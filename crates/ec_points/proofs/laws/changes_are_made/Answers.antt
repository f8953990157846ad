-- One change after the other decides.
use Rattle.ec_points.proofs.MadeChanges.{changes_are_made}
use Rattle.ec_points.proofs.laws.changes_are_made.Goals as goal

pub returns : goal.returns
returns g c = changes_are_made g.T.Moment.rank
