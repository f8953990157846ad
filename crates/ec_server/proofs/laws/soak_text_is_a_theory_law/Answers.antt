-- The text is read, clause by clause.
use Rattle.ec_server.proofs.SoakTheory.{soak_accepted}
use Rattle.ec_server.proofs.laws.soak_text_is_a_theory_law.Goals as goal

pub returns : goal.returns
returns c = soak_accepted
