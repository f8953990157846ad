-- Before `=` the mark that begins with `<` has two bytes.
use Rattle.std.proofs.Common.{rules}
use Rattle.ec_theory.specs.Tokens.{mark_piece}
use Rattle.ec_theory.proofs.piece.mark_piece.Goals as goal

pub returns-then-first_byte-eq61 : goal.returns-then-first_byte-eq61
unfolding mark_piece
returns-then-first_byte-eq61 c = search rules
