-- The small letters of the contract are those of the code.
use Rattle.std.proofs.Common.{rules}
use Rattle.ec_terms.specs.Spelling.{is_lower}
use Rattle.ec_theory.proofs.piece.is_lower.Goals as goal

pub returns : goal.returns
unfolding is_lower
returns c = search rules
