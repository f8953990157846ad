-- Each step has at most one accepted update more, and a window is a front of what was kept.
use Rattle.ec_replies.proofs.PastRuns.{ThePastIsRemembered-law}
use Rattle.ec_replies.proofs.laws_past.the_past_is_remembered_law.Goals as goal

pub returns : goal.returns
returns c = ThePastIsRemembered-law
