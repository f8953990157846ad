-- No currency differs and no event stands alone.
use Rattle.ec_changes.proofs.SameList.{SameListChangesNothing-law}
use Rattle.ec_changes.proofs.laws_counts.same_list_changes_nothing_law.Goals as goal

pub returns : goal.returns
returns c = SameListChangesNothing-law
