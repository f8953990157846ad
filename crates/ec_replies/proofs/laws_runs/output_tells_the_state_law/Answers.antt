-- No reply to an update is the refusal for memory.
use Rattle.ec_replies.proofs.Told.{OutputTellsTheState-law}
use Rattle.ec_replies.proofs.laws_runs.output_tells_the_state_law.Goals as goal

pub returns : goal.returns
returns c = OutputTellsTheState-law
