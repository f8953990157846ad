-- Each of the copies is closed, and so is what is read past them.
use Rattle.ec_replies.proofs.Drafts.{draft_of-empty_state}
use Rattle.ec_replies.proofs.worked.a_state_has_all_drafts_closed.Goals as goal

pub returns : goal.returns
returns c = draft_of-empty_state
