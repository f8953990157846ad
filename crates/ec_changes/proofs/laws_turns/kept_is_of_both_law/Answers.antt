-- Two lists in one order with the same members are the same.
use Rattle.ec_changes.proofs.KeptEvents.{KeptIsOfBoth-law}
use Rattle.ec_changes.proofs.laws_turns.kept_is_of_both_law.Goals as goal

pub returns : goal.returns
returns c = KeptIsOfBoth-law
