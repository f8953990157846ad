-- Each change finds the room that is kept for it.
use Rattle.std.proofs.Common.{arith}
use Rattle.std.proofs.lemmas.Grind.{common_steps}
use Rattle.ec_points.proofs.AppliedChanges.{room-next, IsApplied-more, marks-applied}
use Rattle.ec_points.proofs.rows.change_rows.Goals as goal

pub change_in-requires : goal.change_in-requires
change_in-requires g c = record {
  room = room-next g.M.MarkRow.marks g.M.MarkRow.spare g.T.Moment.rank c.args.change.now c.loop-i.i c.args.rows.now c.loop-i.rows c.get.result.now c.get.ensures
      c.loop-i.invariant c.requires.room;
}

pub loop-i-preserved : goal.loop-i-preserved
loop-i-preserved g c =
    IsApplied-more g.M.MarkRow.marks g.M.MarkRow.spare g.T.Moment.rank c.args.change.now c.loop-i.i c.args.rows.now c.loop-i.rows c.get.result.now c.get.ensures
    c.loop-i.invariant c.len-i-end.ensures.apart c.change_in.new.rows c.change_in.ensures.others c.change_in.ensures.there c.change_in.ensures.marks c.change_in.ensures.room

pub returns-clause-marks : goal.returns-clause-marks
returns-clause-marks g c = λ n.
    marks-applied g.M.MarkRow.marks g.M.MarkRow.spare g.T.Moment.rank c.args.change.now c.loop-i.i c.args.rows.now c.loop-i.rows n (c.loop-i.invariant n)
    (omega (arith, c.loop-i-test.false, c.len-i-end.ensures.len))

pub returns-clause-room : goal.returns-clause-room
returns-clause-room c = grind (arith, common_steps)

pub returns-clause-others : goal.returns-clause-others
returns-clause-others c = grind (arith, common_steps)

pub loop-i-init : goal.loop-i-init
loop-i-init c = grind (arith, common_steps)
