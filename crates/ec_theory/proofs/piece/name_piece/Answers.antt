-- A name with more bytes than the longest is none.
use Rattle.std.proofs.Common.{rules}
use Rattle.ec_theory.specs.Tokens.{name_piece}
use Rattle.ec_theory.proofs.piece.name_piece.Goals as goal

pub returns-else-length-le-LONGEST_NAME : goal.returns-else-length-le-LONGEST_NAME
unfolding name_piece
returns-else-length-le-LONGEST_NAME c = search rules
