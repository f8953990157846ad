-- Each row that is passed gets its room, and those that were passed keep theirs.
use Rattle.std.proofs.Common.{◌≤◌, subst, length, lt_of_lt_of_le, arith}
use Rattle.std.proofs.lemmas.Grind.{common_steps}
use Rattle.ec_points.specs.Table.{marks_at}
use Rattle.ec_sweep.specs.Rooms.{HasRoomToMove}
use Rattle.ec_sweep.proofs.GrownRooms.{AreIntervalsGrown-chain, HasRoomToMove-grown, each_up_to-all, each_up_to-more}
use Rattle.ec_sweep.proofs.rooms.make_room_for_intervals.Goals as goal

pub loop-i-preserved : goal.loop-i-preserved
loop-i-preserved g c = record {
  grown = AreIntervalsGrown-chain c.args.intervals.now c.loop-i.intervals c.make_room_to_move.new.intervals c.loop-i.invariant.grown c.make_room_to_move.ensures.grown;
  room = each_up_to-more c.args.touched.now (λ n t. HasRoomToMove n (length (marks_at n c.args.points.now)) t c.loop-i.intervals)
      (λ n t. HasRoomToMove n (length (marks_at n c.args.points.now)) t c.make_room_to_move.new.intervals) c.loop-i.i c.row-row.result.0.0 c.row-row.result.1
      (λ n t. HasRoomToMove-grown n (length (marks_at n c.args.points.now)) t c.loop-i.intervals c.make_room_to_move.new.intervals c.make_room_to_move.ensures.grown)
      c.loop-i.invariant.room c.row-row.ensures
      c.in_ok-make_room_to_move.ensures.room;
}

pub returns-clause-room : goal.returns-clause-room
returns-clause-room g c n touched is =
    each_up_to-all c.args.touched.now (λ m t. HasRoomToMove m (length (marks_at m c.args.points.now)) t c.loop-i.intervals) n touched (λ k m t lt at. c.loop-i.invariant.room k m t (lt_of_lt_of_le lt (subst (λ m. m ≤ c.loop-i.i) c.len-i-end.ensures.len c.loop-i-test.false)) at) is

pub loop-i-init : goal.loop-i-init
loop-i-init c = grind (arith, common_steps)

pub returns-in_err-make_room_to_move-clause-grown : goal.returns-in_err-make_room_to_move-clause-grown
returns-in_err-make_room_to_move-clause-grown c = grind (arith, common_steps)
