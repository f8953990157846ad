-- A pattern without variables fits one term.
use Rattle.ec_changes.proofs.LiveLists.{FixedInitialsAreListed-law}
use Rattle.ec_changes.proofs.laws_live.fixed_initials_are_listed_law.Goals as goal

pub returns : goal.returns
returns c = FixedInitialsAreListed-law
