-- The code compares as the contract does.
use Rattle.std.proofs.Common.{rules}
use Rattle.ec_lines.proofs.line_reading.is_session.Goals as goal

pub returns : goal.returns
returns c = search rules
