-- The rows that were passed have their room, and marks stay.
use Rattle.std.proofs.Common.{◌≡◌}
use Rattle.ec_sweep.specs.Rooms.{AreMarksGrown, HasRoomIn}
use Rattle.ec_sweep.proofs.GrownRooms.{EachUpTo}
use Rattle.ec_sweep.proofs.rooms.make_room_for_marks.Given as goal

abbrev pub invariant-loop-i : goal.invariant-loop-i
invariant-loop-i g l = record {
  grown : AreMarksGrown l.fn.points l.points;
  clash_room : l.points.clash_room ≡ l.fn.points.clash_room;
  room : EachUpTo (λ n touched. HasRoomIn n touched.grows l.points) l.i l.touched;
}
