-- What follows from the calls and the tests before it.
use Rattle.std.proofs.Common.{arith}
use Rattle.std.proofs.lemmas.Grind.{common_steps}
use Rattle.ec_sweep.proofs.rooms.make_room_to_move.Goals as goal

pub returns-clause-room : goal.returns-clause-room
returns-clause-room c = grind (arith, common_steps)

pub returns-then-not-touched-clause-room : goal.returns-then-not-touched-clause-room
returns-then-not-touched-clause-room c = grind (arith, common_steps)

pub returns-then-not-touched-clause-grown : goal.returns-then-not-touched-clause-grown
returns-then-not-touched-clause-grown c = grind (arith, common_steps)

pub returns-in_err-spans-clause-grown : goal.returns-in_err-spans-clause-grown
returns-in_err-spans-clause-grown c = grind (arith, common_steps)
