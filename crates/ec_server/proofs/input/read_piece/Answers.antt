-- A read that gave a byte does not meet the end, and one does once at the most.
use Rattle.ec_server.proofs.InputTurns.{going-read, once-read}
use Rattle.ec_server.proofs.input.read_piece.Goals as goal

pub returns-clause-going : goal.returns-clause-going
returns-clause-going g c = going-read c.read.result _ _ _ c.read.ensures.ended

pub returns-clause-one_end : goal.returns-clause-one_end
returns-clause-one_end g c = once-read c.read.result _ _ _ c.read.ensures.ended
