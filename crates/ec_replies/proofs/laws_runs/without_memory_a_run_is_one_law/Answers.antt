-- Each step is the reply.
use Rattle.ec_replies.proofs.RunParts.{WithoutMemoryARunIsOne-law}
use Rattle.ec_replies.proofs.laws_runs.without_memory_a_run_is_one_law.Goals as goal

pub returns : goal.returns
returns c = WithoutMemoryARunIsOne-law
