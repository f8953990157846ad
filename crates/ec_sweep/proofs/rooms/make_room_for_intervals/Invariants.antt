-- The rows that were passed have their room, and intervals stay.
use Rattle.std.proofs.Common.{length}
use Rattle.ec_points.specs.Table.{marks_at}
use Rattle.ec_sweep.specs.Rooms.{AreIntervalsGrown, HasRoomToMove}
use Rattle.ec_sweep.proofs.GrownRooms.{EachUpTo}
use Rattle.ec_sweep.proofs.rooms.make_room_for_intervals.Given as goal

abbrev pub invariant-loop-i : goal.invariant-loop-i
invariant-loop-i g l = record {
  grown : AreIntervalsGrown l.fn.intervals l.intervals;
  room : EachUpTo (λ n touched. HasRoomToMove n (length (marks_at n l.points)) touched l.intervals) l.i l.touched;
}
