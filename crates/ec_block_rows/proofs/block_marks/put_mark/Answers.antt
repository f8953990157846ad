-- The place that the search found is the mark's.
use Rattle.std.proofs.Common.{refl, ◌∙◌}
use Rattle.ec_rows.proofs.MarkLemmas.{with_mark-at, with_mark-free, IsMarkRow-with_mark}
use Rattle.ec_block_rows.proofs.block_marks.put_mark.Goals as goal

pub returns-in-Ok-clause-marks : goal.returns-in-Ok-clause-marks
returns-in-Ok-clause-marks g c =
    c.set.ensures.items ∙ with_mark-at g.T.Moment.rank c.args.mark c.args.marks.now.items c.args.marks.now.items c.in-Ok.place refl
    c.in-Ok.ensures.found c.in-Ok.ensures.before c.in-Ok.ensures.after

pub returns-in-Ok-clause-row : goal.returns-in-Ok-clause-row
returns-in-Ok-clause-row g c =
    IsMarkRow-with_mark g.T.Moment.rank c.args.mark c.args.marks.now.items _ c.requires.counted c.requires.row (returns-in-Ok-clause-marks g c)

pub returns-in-Err-clause-marks : goal.returns-in-Err-clause-marks
returns-in-Err-clause-marks g c =
    c.insert.ensures.items
    ∙ with_mark-free g.T.Moment.rank c.args.mark c.args.marks.now.items c.args.marks.now.items c.in-Err.place refl
    c.in-Err.ensures.in_front c.in-Err.ensures.behind

pub returns-in-Err-clause-row : goal.returns-in-Err-clause-row
returns-in-Err-clause-row g c =
    IsMarkRow-with_mark g.T.Moment.rank c.args.mark c.args.marks.now.items _ c.requires.counted c.requires.row (returns-in-Err-clause-marks g c)
