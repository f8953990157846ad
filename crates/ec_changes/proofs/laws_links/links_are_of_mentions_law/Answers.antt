-- By definition.
use Rattle.ec_changes.proofs.LinkSteps.{LinksAreOfMentions-law}
use Rattle.ec_changes.proofs.laws_links.links_are_of_mentions_law.Goals as goal

pub returns : goal.returns
returns c = LinksAreOfMentions-law
