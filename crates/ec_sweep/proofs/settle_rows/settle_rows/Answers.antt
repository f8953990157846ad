-- One row after the other, each of a property that was not settled yet.
use Rattle.std.proofs.Common.{◌∙◌, arith}
use Rattle.std.proofs.lemmas.Grind.{common_steps}
use Rattle.ec_sweep.proofs.OwnChanges.{has_change-same}
use Rattle.ec_sweep.proofs.SettledRows.{LeavesNumber-next, SettlesRows-more}
use Rattle.ec_sweep.proofs.TallyPlaces.{row_at-place}
use Rattle.ec_sweep.proofs.settle_rows.settle_rows.Goals as goal

pub settle_one-requires-clause-added : goal.settle_one-requires-clause-added
settle_one-requires-clause-added g c =
    c.requires.added c.row.result.0 c.row.result.1 (row_at-place c.args.tally.now c.loop-i.i c.row.result.0.0 c.row.result.1 c.len-i-end.ensures.once c.row.ensures)

pub settle_one-requires-clause-room : goal.settle_one-requires-clause-room
settle_one-requires-clause-room g c =
    c.requires.room c.row.result.0.0 c.row.result.1 (row_at-place c.args.tally.now c.loop-i.i c.row.result.0.0 c.row.result.1 c.len-i-end.ensures.once c.row.ensures)

pub settle_one-requires-clause-mark_free : goal.settle_one-requires-clause-mark_free
settle_one-requires-clause-mark_free g c =
    has_change-same g.T.Moment.rank c.row.result.0.0 (g.T.Moment.rank c.args.at) c.args.planned.now.marks c.loop-i.planned.marks
    (LeavesNumber-next g.T.Moment.rank c.args.parts.now.neighbours c.args.parts.now.points c.args.parts.now.entries.slots c.args.at c.args.tally.now c.loop-i.i c.row.result.0 c.row.result.1 c.len-i-end.ensures.once c.row.ensures
    (record { dirty = c.args.dirty.now; agenda = c.args.agenda.now; planned = c.args.planned.now })
    (record { dirty = c.loop-i.dirty; agenda = c.loop-i.agenda; planned = c.loop-i.planned })
    (record { dirty = c.loop-i.dirty; agenda = c.loop-i.agenda; planned = c.loop-i.planned }) c.loop-i.invariant).marks
    ∙ c.requires.marks_free c.row.result.0.0

pub settle_one-requires-clause-initiation_free : goal.settle_one-requires-clause-initiation_free
settle_one-requires-clause-initiation_free g c =
    has_change-same g.T.Moment.rank c.row.result.0.0 (g.T.Moment.rank c.args.at) c.args.planned.now.initiations c.loop-i.planned.initiations
    (LeavesNumber-next g.T.Moment.rank c.args.parts.now.neighbours c.args.parts.now.points c.args.parts.now.entries.slots c.args.at c.args.tally.now c.loop-i.i c.row.result.0 c.row.result.1 c.len-i-end.ensures.once c.row.ensures
    (record { dirty = c.args.dirty.now; agenda = c.args.agenda.now; planned = c.args.planned.now })
    (record { dirty = c.loop-i.dirty; agenda = c.loop-i.agenda; planned = c.loop-i.planned })
    (record { dirty = c.loop-i.dirty; agenda = c.loop-i.agenda; planned = c.loop-i.planned }) c.loop-i.invariant).initiations
    ∙ c.requires.initiations_free c.row.result.0.0

pub loop-i-preserved : goal.loop-i-preserved
loop-i-preserved g c =
    SettlesRows-more g.T.Moment.rank c.args.parts.now.neighbours c.args.parts.now.points c.args.parts.now.entries.slots c.args.at c.args.tally.now c.loop-i.i c.row.result.0 c.row.result.1 c.len-i-end.ensures.once c.row.ensures
    (record { dirty = c.args.dirty.now; agenda = c.args.agenda.now; planned = c.args.planned.now })
    (record { dirty = c.loop-i.dirty; agenda = c.loop-i.agenda; planned = c.loop-i.planned })
    (record { dirty = c.settle_one.new.dirty; agenda = c.settle_one.new.agenda; planned = c.settle_one.new.planned }) c.loop-i.invariant
    c.in_ok-settle_one.ensures.settles c.in_ok-settle_one.ensures.leaves c.in_ok-settle_one.ensures.dues

pub loop-i-init : goal.loop-i-init
loop-i-init c = grind (arith, common_steps)

pub returns : goal.returns
returns c = grind (arith, common_steps)
