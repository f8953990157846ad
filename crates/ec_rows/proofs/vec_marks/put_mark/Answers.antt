-- The place that the search found is the mark's.
use Rattle.std.proofs.Common.{◌∙◌, arith}
use Rattle.ec_rows.proofs.MarkLemmas.{with_mark-at, with_mark-free, IsMarkRow-with_mark}
use Rattle.ec_rows.proofs.vec_marks.put_mark.Goals as goal

pub returns-in-Ok-clause-marks : goal.returns-in-Ok-clause-marks
returns-in-Ok-clause-marks g c =
    with_mark-at g.T.Moment.rank c.args.mark c.args.marks.now.items c.deref.result.now c.in-Ok.place c.deref.ensures.value
    c.in-Ok.ensures.found c.in-Ok.ensures.before c.in-Ok.ensures.after

pub returns-in-Ok-clause-row : goal.returns-in-Ok-clause-row
returns-in-Ok-clause-row g c =
    IsMarkRow-with_mark g.T.Moment.rank c.args.mark c.args.marks.now.items _ c.requires.counted c.requires.row (returns-in-Ok-clause-marks g c)

pub returns-in-Err-clause-marks : goal.returns-in-Err-clause-marks
returns-in-Err-clause-marks g c =
    c.insert_within.ensures.items
    ∙ with_mark-free g.T.Moment.rank c.args.mark c.args.marks.now.items c.deref.result.now c.in-Err.place c.deref.ensures.value
    c.in-Err.ensures.in_front c.in-Err.ensures.behind

pub returns-in-Err-clause-row : goal.returns-in-Err-clause-row
returns-in-Err-clause-row g c =
    IsMarkRow-with_mark g.T.Moment.rank c.args.mark c.args.marks.now.items _ c.requires.counted c.requires.row (returns-in-Err-clause-marks g c)

pub returns-in-Ok-clause-len : goal.returns-in-Ok-clause-len
returns-in-Ok-clause-len g c =
    let there = rw c.deref.ensures.value at c.in-Ok.ensures.present in rw there (omega arith)

pub returns-in-Err-clause-len : goal.returns-in-Err-clause-len
returns-in-Err-clause-len g c =
    let absent = rw c.deref.ensures.value at c.in-Err.ensures.absent in rw absent c.insert_within.ensures.len

pub insert_within-requires-clause-room : goal.insert_within-requires-clause-room
insert_within-requires-clause-room g c =
    let absent = rw c.deref.ensures.value at c.in-Err.ensures.absent in
    let room = rw absent at c.requires.room in
    omega (arith, room)
