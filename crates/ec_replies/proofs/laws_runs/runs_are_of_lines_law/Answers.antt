-- By induction on the lines.
use Rattle.ec_replies.proofs.AnsweredLines.{RunsAreOfLines-law}
use Rattle.ec_replies.proofs.laws_runs.runs_are_of_lines_law.Goals as goal

pub returns : goal.returns
returns c = RunsAreOfLines-law
