-- Each outcome that is told by `ok` and may change the events has one accepted update more.
use Rattle.ec_replies.proofs.PastRuns.{AcceptedUpdatesAreCounted-law}
use Rattle.ec_replies.proofs.laws_past.accepted_updates_are_counted_law.Goals as goal

pub returns : goal.returns
returns c = AcceptedUpdatesAreCounted-law
