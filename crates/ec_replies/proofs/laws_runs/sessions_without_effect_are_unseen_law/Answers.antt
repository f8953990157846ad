-- The two states stay the same to all other sessions.
use Rattle.ec_replies.proofs.OtherSessions.{SessionsWithoutEffectAreUnseen-law}
use Rattle.ec_replies.proofs.Unwatching.{SessionsWithoutUpdatesAreUnseen-law}
use Rattle.ec_replies.proofs.laws_runs.sessions_without_effect_are_unseen_law.Goals as goal

pub returns-clause-anywhere : goal.returns-clause-anywhere
returns-clause-anywhere c = SessionsWithoutEffectAreUnseen-law

pub returns-clause-from_the_first_line : goal.returns-clause-from_the_first_line
returns-clause-from_the_first_line c = SessionsWithoutUpdatesAreUnseen-law
