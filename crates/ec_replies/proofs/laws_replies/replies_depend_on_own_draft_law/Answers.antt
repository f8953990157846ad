-- By cases on the command, and on the draft of the session.
use Rattle.ec_replies.proofs.OwnDraft.{RepliesDependOnOwnDraft-law}
use Rattle.ec_replies.proofs.laws_replies.replies_depend_on_own_draft_law.Goals as goal

pub returns : goal.returns
returns c = RepliesDependOnOwnDraft-law
