-- The new property in its place among the live ones, counted at each mention.
use Rattle.ec_changes.proofs.LinkSteps.{OneMentionMore-law}
use Rattle.ec_changes.proofs.laws_links.one_mention_more_law.Goals as goal

pub returns : goal.returns
returns c = OneMentionMore-law
