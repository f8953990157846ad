-- The next break after a begin is where the property is current.
use Rattle.ec_changes.proofs.Inert.{InertChangesKeepIntervals-law}
use Rattle.ec_changes.proofs.laws_inert.inert_changes_keep_intervals_law.Goals as goal

pub returns : goal.returns
returns c = InertChangesKeepIntervals-law
