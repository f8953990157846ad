-- Term order changes no member.
use Rattle.ec_changes.proofs.LiveLists.{LiveIsListed-law}
use Rattle.ec_changes.proofs.laws_live.live_is_listed_law.Goals as goal

pub returns : goal.returns
returns c = LiveIsListed-law
