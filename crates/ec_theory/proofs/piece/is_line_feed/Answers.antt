-- The code compares as the contract does.
use Rattle.std.proofs.Common.{rules}
use Rattle.ec_theory.proofs.piece.is_line_feed.Goals as goal

pub returns : goal.returns
returns c = search rules
