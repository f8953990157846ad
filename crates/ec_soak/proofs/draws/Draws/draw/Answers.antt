-- The upper bits of the next state are drawn.
use Rattle.std.proofs.Common.{rules}
use Rattle.ec_soak.specs.Draws.{draw, next_state}
use Rattle.ec_soak.proofs.StateLemmas.{modulo}
use Rattle.ec_soak.proofs.draws.Draws.draw.Goals as goal

pub returns-clause-value : goal.returns-clause-value
unfolding draw next_state
returns-clause-value c = search (rules, modulo)
