-- What is live in neither list is current in neither.
use Rattle.ec_changes.proofs.LiveMarks.{WhatDiffersIsLive-law}
use Rattle.ec_changes.proofs.laws_live.what_differs_is_live_law.Goals as goal

pub returns : goal.returns
returns c = WhatDiffersIsLive-law
