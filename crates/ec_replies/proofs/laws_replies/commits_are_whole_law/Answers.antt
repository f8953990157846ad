-- By cases on the draft, and on what its updates give together.
use Rattle.ec_replies.proofs.StepLaws.{CommitsAreWhole-law}
use Rattle.ec_replies.proofs.laws_replies.commits_are_whole_law.Goals as goal

pub returns : goal.returns
returns c = CommitsAreWhole-law
