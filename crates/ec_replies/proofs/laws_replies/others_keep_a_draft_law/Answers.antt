-- Only the draft of the line's own session is replaced.
use Rattle.ec_replies.proofs.StepLaws.{OthersKeepADraft-law}
use Rattle.ec_replies.proofs.laws_replies.others_keep_a_draft_law.Goals as goal

pub returns : goal.returns
returns c = OthersKeepADraft-law
