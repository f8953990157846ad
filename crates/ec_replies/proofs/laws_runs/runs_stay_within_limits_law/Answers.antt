-- Each step keeps the state within them.
use Rattle.ec_replies.proofs.Limits.{RunsStayWithinLimits-law}
use Rattle.ec_replies.proofs.laws_runs.runs_stay_within_limits_law.Goals as goal

pub returns : goal.returns
returns c = RunsStayWithinLimits-law
