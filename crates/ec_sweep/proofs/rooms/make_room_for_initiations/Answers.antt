-- Each row that is passed gets its room, and those that were passed keep theirs.
use Rattle.std.proofs.Common.{◌≤◌, subst, lt_of_lt_of_le, arith}
use Rattle.std.proofs.lemmas.Grind.{common_steps}
use Rattle.ec_points.specs.Table.{room_at}
use Rattle.ec_sweep.proofs.GrownRooms.{AreMarksGrown-chain, each_up_to-all, each_up_to-more, spare-grown}
use Rattle.ec_sweep.proofs.rooms.make_room_for_initiations.Goals as goal

pub loop-i-preserved : goal.loop-i-preserved
loop-i-preserved g c = record {
  grown = AreMarksGrown-chain c.args.initiations.now c.loop-i.initiations c.make_room_to_start.new.initiations c.loop-i.invariant.grown c.make_room_to_start.ensures.grown;
  room = each_up_to-more c.args.touched.now (λ n t. t.starts ≤ room_at n c.loop-i.initiations) (λ n t. t.starts ≤ room_at n c.make_room_to_start.new.initiations) c.loop-i.i c.row-row.result.0.0 c.row-row.result.1
      (λ n t. spare-grown n t.starts c.loop-i.initiations c.make_room_to_start.new.initiations c.make_room_to_start.ensures.grown) c.loop-i.invariant.room c.row-row.ensures
      c.in_ok-make_room_to_start.ensures.room;
}

pub returns-clause-room : goal.returns-clause-room
returns-clause-room g c n touched is =
    each_up_to-all c.args.touched.now (λ m t. t.starts ≤ room_at m c.loop-i.initiations) n touched (λ k m t lt at. c.loop-i.invariant.room k m t (lt_of_lt_of_le lt (subst (λ m. m ≤ c.loop-i.i) c.len-i-end.ensures.len c.loop-i-test.false)) at) is

pub loop-i-init : goal.loop-i-init
loop-i-init c = grind (arith, common_steps)
