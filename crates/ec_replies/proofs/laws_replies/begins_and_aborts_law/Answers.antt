-- By cases on the draft.
use Rattle.ec_replies.proofs.DraftLaws.{AbortsCloseADraft-law, BeginsOpenADraft-law}
use Rattle.ec_replies.proofs.laws_replies.begins_and_aborts_law.Goals as goal

pub returns-clause-begins : goal.returns-clause-begins
returns-clause-begins c = BeginsOpenADraft-law

pub returns-clause-aborts : goal.returns-clause-aborts
returns-clause-aborts c = AbortsCloseADraft-law
