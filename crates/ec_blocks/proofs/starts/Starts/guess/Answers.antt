-- The steady place is within the list.
use Rattle.std.proofs.Common.{arith}
use Rattle.ec_blocks.proofs.starts.Starts.guess.Goals as goal

pub get-there-requires : goal.get-there-requires
get-there-requires c =
    omega (arith, c.requires.some, c.min-steady.ensures, c.len-end.ensures)
