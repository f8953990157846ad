-- The order of the live properties follows from which they are, and a sum from its terms.
use Rattle.ec_changes.proofs.LinkSteps.{LinksInAnyOrder-law}
use Rattle.ec_changes.proofs.laws_links.links_in_any_order_law.Goals as goal

pub returns : goal.returns
returns c = LinksInAnyOrder-law
