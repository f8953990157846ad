-- Each row that is passed gets its room, and those that were passed keep theirs.
use Rattle.std.proofs.Common.{◌≤◌, subst, ◌∙◌, lt_of_lt_of_le, arith}
use Rattle.std.proofs.lemmas.Grind.{common_steps}
use Rattle.ec_sweep.specs.Rooms.{HasRoomIn}
use Rattle.ec_sweep.proofs.GrownRooms.{AreMarksGrown-chain, AreMarksGrown-one, HasRoomIn-grown, each_up_to-all, each_up_to-more}
use Rattle.ec_sweep.proofs.rooms.make_room_for_marks.Goals as goal

pub loop-i-preserved : goal.loop-i-preserved
loop-i-preserved g c =
    let grown = AreMarksGrown-one c.row-row.result.0.0 c.loop-i.points c.reserve.new.self c.reserve.ensures.grown c.reserve.ensures.others c.reserve.ensures.initials in
    record {
      grown = AreMarksGrown-chain c.args.points.now c.loop-i.points c.reserve.new.self c.loop-i.invariant.grown grown;
      clash_room = c.reserve.ensures.clash_room ∙ c.loop-i.invariant.clash_room;
      room = each_up_to-more c.args.touched.now (λ n t. HasRoomIn n t.grows c.loop-i.points) (λ n t. HasRoomIn n t.grows c.reserve.new.self) c.loop-i.i c.row-row.result.0.0 c.row-row.result.1
          (λ n t. HasRoomIn-grown n t.grows c.loop-i.points c.reserve.new.self grown) c.loop-i.invariant.room c.row-row.ensures
          (record { row = c.in_ok-reserve.ensures.row; room = c.in_ok-reserve.ensures.room });
    }

pub returns-clause-room : goal.returns-clause-room
returns-clause-room g c n touched is =
    each_up_to-all c.args.touched.now (λ m t. HasRoomIn m t.grows c.loop-i.points) n touched (λ k m t lt at. c.loop-i.invariant.room k m t (lt_of_lt_of_le lt (subst (λ m. m ≤ c.loop-i.i) c.len-i-end.ensures.len c.loop-i-test.false)) at) is

pub loop-i-init : goal.loop-i-init
loop-i-init c = grind (arith, common_steps)
