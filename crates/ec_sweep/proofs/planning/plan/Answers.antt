-- A sweep that is through has planned the change, in no more steps than it may take.
use Rattle.std.proofs.Common.{sym, subst}
use Rattle.ec_parts.specs.StandFor.{StandForBoth, view_of}
use Rattle.ec_sweep.proofs.SameButRoom.{IsPlanned-same, IsReady-planned, StandForBoth-same}
use Rattle.ec_sweep.proofs.StepBound.{steps-apart}
use Rattle.ec_sweep.proofs.Through.{IsPlanned-through}
use Rattle.ec_sweep.proofs.planning.plan.Goals as goal

pub returns-clause-ready : goal.returns-clause-ready
returns-clause-ready g c = λ new tally underway.
    let rank = g.T.Moment.rank in
    let sweeping = c.in-Ok.ensures.swept new tally underway in
    let planned = IsPlanned-through rank c.args.parts.now.checked new (view_of c.args.parts.now) tally c.args.change c.in-Ok.sweep c.len.ensures.order c.len-2.ensures.slots underway sweeping
    c.in-Ok.ensures.done in
    let same = IsPlanned-same rank c.args.parts.now.checked (view_of c.args.parts.now) (view_of c.make_room.new.parts) c.make_room.ensures.same new c.args.change c.in-Ok.sweep.looked c.in-Ok.sweep.planned planned in
    IsReady-planned rank c.args.parts.now.checked new (view_of c.make_room.new.parts) (record { change = c.args.change; looked = c.in-Ok.sweep.looked; planned = c.in-Ok.sweep.planned }) same
    c.in_default.ensures.events c.in_default.ensures.marks c.in_default.ensures.intervals

pub returns-clause-steps : goal.returns-clause-steps
returns-clause-steps g c = λ new tally underway. steps-apart _ _ _ _ (c.sweep_over.ensures.steps new tally underway)

pub returns-in-Err-clause-steps : goal.returns-in-Err-clause-steps
returns-in-Err-clause-steps g c = λ new tally underway. steps-apart _ _ _ _ (c.sweep_over.ensures.steps new tally underway)

pub returns-in-Err-make_room-clause-steps : goal.returns-in-Err-make_room-clause-steps
returns-in-Err-make_room-clause-steps g c = λ new tally underway. steps-apart _ _ _ _ (c.sweep_over.ensures.steps new tally underway)

pub make_room-requires : goal.make_room-requires
make_room-requires g c = record { windows = (c.in-Ok.ensures.swept c.requires.new c.requires.tally c.requires.underway).found.planned_up_to.windows }

pub returns-in-Err-make_room-clause-stands : goal.returns-in-Err-make_room-clause-stands
returns-in-Err-make_room-clause-stands g c = λ now soon tally both.
    subst (λ theory. StandForBoth g.T.Moment.rank theory now soon (view_of c.make_room.new.parts) tally) (sym c.make_room.ensures.checked)
    (StandForBoth-same g.T.Moment.rank c.args.parts.now.checked (view_of c.args.parts.now) (view_of c.make_room.new.parts) c.make_room.ensures.same now soon tally both)

pub returns-clause-stands : goal.returns-clause-stands
returns-clause-stands g c = λ now soon tally both.
    subst (λ theory. StandForBoth g.T.Moment.rank theory now soon (view_of c.make_room.new.parts) tally) (sym c.make_room.ensures.checked)
    (StandForBoth-same g.T.Moment.rank c.args.parts.now.checked (view_of c.args.parts.now) (view_of c.make_room.new.parts) c.make_room.ensures.same now soon tally both)

pub returns-clause-neighbours : goal.returns-clause-neighbours
returns-clause-neighbours g c = c.make_room.ensures.same.neighbours

pub returns-clause-events : goal.returns-clause-events
returns-clause-events g c = c.make_room.ensures.same.events

pub returns-clause-checked : goal.returns-clause-checked
returns-clause-checked g c = c.make_room.ensures.checked

pub returns-clause-table : goal.returns-clause-table
returns-clause-table g c = c.make_room.ensures.same.table

pub returns-in-Err-make_room-clause-events : goal.returns-in-Err-make_room-clause-events
returns-in-Err-make_room-clause-events g c = c.make_room.ensures.same.events

pub returns-in-Err-make_room-clause-table : goal.returns-in-Err-make_room-clause-table
returns-in-Err-make_room-clause-table g c = c.make_room.ensures.same.table

pub returns-in-Err-make_room-clause-neighbours : goal.returns-in-Err-make_room-clause-neighbours
returns-in-Err-make_room-clause-neighbours g c = c.make_room.ensures.same.neighbours

pub returns-in-Err-make_room-clause-checked : goal.returns-in-Err-make_room-clause-checked
returns-in-Err-make_room-clause-checked g c = c.make_room.ensures.checked
