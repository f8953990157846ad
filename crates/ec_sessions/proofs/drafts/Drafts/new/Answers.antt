-- All drafts are closed.
use Rattle.std.proofs.Common.{List, sym, subst}
use Rattle.ec_replies.specs.State.{Draft}
use Rattle.ec_sessions.specs.Drafts.{AreDrafts}
use Rattle.ec_sessions.proofs.DraftLists.{AreDrafts-closed}
use Rattle.ec_sessions.proofs.drafts.Drafts.new.Goals as goal

pub invariant_of-result : goal.invariant_of-result
invariant_of-result g c = subst (λ (ds : List Draft). AreDrafts ds) (sym c.in_ok-places.ensures) AreDrafts-closed
