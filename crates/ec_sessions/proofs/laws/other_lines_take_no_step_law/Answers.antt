-- The law is a lemma.
use Rattle.ec_sessions.proofs.StepLawProofs.{OtherLinesTakeNoStep-law}
use Rattle.ec_sessions.proofs.laws.other_lines_take_no_step_law.Goals as goal

pub returns : goal.returns
returns c = OtherLinesTakeNoStep-law
