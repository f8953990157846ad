-- By induction on the updates.
use Rattle.ec_replies.proofs.Windows.{WindowsAreWidest-law, WindowsNeedNoMore-law}
use Rattle.ec_replies.proofs.laws_past.windows_are_widest_law.Goals as goal

pub returns-clause-widest : goal.returns-clause-widest
returns-clause-widest c = WindowsAreWidest-law

pub returns-clause-no_more : goal.returns-clause-no_more
returns-clause-no_more c = WindowsNeedNoMore-law
