-- By induction on the lines.
use Rattle.ec_replies.proofs.RunParts.{RunsGoOn-law}
use Rattle.ec_replies.proofs.laws_runs.runs_go_on_law.Goals as goal

pub returns : goal.returns
returns c = RunsGoOn-law
