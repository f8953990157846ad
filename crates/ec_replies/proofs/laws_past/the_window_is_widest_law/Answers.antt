-- What has left a window never comes back.
use Rattle.ec_replies.proofs.PastRuns.{TheWindowIsWidest-law}
use Rattle.ec_replies.proofs.laws_past.the_window_is_widest_law.Goals as goal

pub returns : goal.returns
returns c = TheWindowIsWidest-law
