-- Both are one case for each refusal, and one where they are answered.
use Rattle.ec_replies.proofs.DraftLaws.{UnwatchesEndAWatch-law, WatchesAreKept-law}
use Rattle.ec_replies.proofs.laws_replies.watches_and_unwatches_law.Goals as goal

pub returns-clause-watches : goal.returns-clause-watches
returns-clause-watches c = WatchesAreKept-law

pub returns-clause-unwatches : goal.returns-clause-unwatches
returns-clause-unwatches c = UnwatchesEndAWatch-law
