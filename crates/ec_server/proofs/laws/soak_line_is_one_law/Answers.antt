-- Each run in which memory ran out for no line has the same counts.
use Rattle.ec_server.proofs.OneSoakLine.{one_soak_line}
use Rattle.ec_server.proofs.laws.soak_line_is_one_law.Goals as goal

pub returns : goal.returns
returns c = one_soak_line
