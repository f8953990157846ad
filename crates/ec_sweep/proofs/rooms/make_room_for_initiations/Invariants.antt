-- The rows that were passed have their room, and initiations stay.
use Rattle.std.proofs.Common.{◌≤◌}
use Rattle.ec_points.specs.Table.{room_at}
use Rattle.ec_sweep.specs.Rooms.{AreMarksGrown}
use Rattle.ec_sweep.proofs.GrownRooms.{EachUpTo}
use Rattle.ec_sweep.proofs.rooms.make_room_for_initiations.Given as goal

abbrev pub invariant-loop-i : goal.invariant-loop-i
invariant-loop-i g l = record {
  grown : AreMarksGrown l.fn.initiations l.initiations;
  room : EachUpTo (λ n touched. touched.starts ≤ room_at n l.initiations) l.i l.touched;
}
