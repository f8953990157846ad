-- No entry of a quiet instant reads what differs.
use Rattle.ec_changes.proofs.Quiet.{QuietEntriesStay-law}
use Rattle.ec_changes.proofs.laws_quiet.quiet_entries_stay_law.Goals as goal

pub returns : goal.returns
returns c = QuietEntriesStay-law
