-- Once the last room is made, all the room is there.
use Rattle.std.proofs.Common.{◌≤◌, subst, arith}
use Rattle.std.proofs.lemmas.Grind.{common_steps}
use Rattle.indexmap.proofs.MapLemmas.{OnOk-map}
use Rattle.ec_parts.specs.StandFor.{view_of}
use Rattle.ec_sweep.proofs.MadeRooms.{HasRoomForIntervals-made, HasRoomForMarks-made}
use Rattle.ec_sweep.proofs.rooms.make_room.Goals as goal

pub returns-clause-marks : goal.returns-clause-marks
returns-clause-marks g c =
    OnOk-map c.reserve_clashes.result _ _
    (λ clash_room.
    HasRoomForMarks-made g.T.Moment.rank (view_of c.args.parts.now)
    (record {
      store = c.reserve.new.self;
      table = c.args.parts.now.props;
      neighbours = c.args.parts.now.neighbours;
      entries = c.prepare.new.self;
      points = c.reserve_clashes.new.self;
      initiations = c.make_room_for_initiations.new.initiations;
      intervals = c.make_room_for_intervals.new.intervals;
    })
    c.args.planned.now c.requires.windows c.make_room_for_marks.new.points c.make_room_for_marks.ensures.grown c.reserve_clashes.ensures.rows c.in_ok-make_room_for_marks.ensures.room
    (subst (λ n. n ≤ c.reserve_clashes.new.self.clash_room) c.len-2.ensures.len clash_room) c.make_room_for_initiations.ensures.grown c.in_ok-make_room_for_initiations.ensures.room)
    c.reserve_clashes.ensures.room

pub returns-clause-intervals : goal.returns-clause-intervals
returns-clause-intervals g c =
    OnOk-map c.reserve_clashes.result _ _
    (λ clash_room.
    HasRoomForIntervals-made g.T.Moment.rank (view_of c.args.parts.now)
    (record {
      store = c.reserve.new.self;
      table = c.args.parts.now.props;
      neighbours = c.args.parts.now.neighbours;
      entries = c.prepare.new.self;
      points = c.reserve_clashes.new.self;
      initiations = c.make_room_for_initiations.new.initiations;
      intervals = c.make_room_for_intervals.new.intervals;
    })
    c.args.planned.now c.requires.windows c.make_room_for_marks.new.points c.make_room_for_marks.ensures.grown c.reserve_clashes.ensures.rows c.in_ok-make_room_for_marks.ensures.room
    c.in_ok-make_room_for_intervals.ensures.room)
    c.reserve_clashes.ensures.room

pub returns-clause-checked : goal.returns-clause-checked
returns-clause-checked c = grind (arith, common_steps)

pub returns-in_err-make_room_for_initiations-clause-checked : goal.returns-in_err-make_room_for_initiations-clause-checked
returns-in_err-make_room_for_initiations-clause-checked c = grind (arith, common_steps)

pub returns-in_err-reserve-clause-same : goal.returns-in_err-reserve-clause-same
returns-in_err-reserve-clause-same c = grind (arith, common_steps)

pub returns-in_err-make_room_for_marks-clause-checked : goal.returns-in_err-make_room_for_marks-clause-checked
returns-in_err-make_room_for_marks-clause-checked c = grind (arith, common_steps)

pub returns-in_err-make_room_for_intervals-clause-same : goal.returns-in_err-make_room_for_intervals-clause-same
returns-in_err-make_room_for_intervals-clause-same c = grind (arith, common_steps)

pub returns-in_err-prepare-clause-checked : goal.returns-in_err-prepare-clause-checked
returns-in_err-prepare-clause-checked c = grind (arith, common_steps)

pub returns-clause-events : goal.returns-clause-events
returns-clause-events c = grind (arith, common_steps)

pub returns-clause-same : goal.returns-clause-same
returns-clause-same c = grind (arith, common_steps)

pub returns-in_err-make_room_for_initiations-clause-same : goal.returns-in_err-make_room_for_initiations-clause-same
returns-in_err-make_room_for_initiations-clause-same c = grind (arith, common_steps)

pub returns-in_err-make_room_for_intervals-clause-checked : goal.returns-in_err-make_room_for_intervals-clause-checked
returns-in_err-make_room_for_intervals-clause-checked c = grind (arith, common_steps)

pub returns-in_err-make_room_for_marks-clause-same : goal.returns-in_err-make_room_for_marks-clause-same
returns-in_err-make_room_for_marks-clause-same c = grind (arith, common_steps)

pub returns-in_err-prepare-clause-same : goal.returns-in_err-prepare-clause-same
returns-in_err-prepare-clause-same c = grind (arith, common_steps)
