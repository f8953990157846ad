-- Entries at a quiet instant are active alike in both lists.
use Rattle.ec_changes.proofs.Quiet.{QuietInstantsPassOn-law}
use Rattle.ec_changes.proofs.laws_quiet.quiet_instants_pass_on_law.Goals as goal

pub returns : goal.returns
returns c = QuietInstantsPassOn-law
