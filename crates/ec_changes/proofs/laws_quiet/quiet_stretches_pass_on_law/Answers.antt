-- Quiet instants one after another.
use Rattle.ec_changes.proofs.Quiet.{QuietStretchesPassOn-law}
use Rattle.ec_changes.proofs.laws_quiet.quiet_stretches_pass_on_law.Goals as goal

pub returns : goal.returns
returns c = QuietStretchesPassOn-law
