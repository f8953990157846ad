-- A row without one of its marks is in order.
use Rattle.std.proofs.Common.{refl, rules, arith}
use Rattle.std.proofs.lemmas.Option.{slice_get_read}
use Rattle.ec_rows.proofs.MarkLemmas.{IsMarkRow-remove}
use Rattle.ec_rows.proofs.vec_marks.take_out_mark.Goals as goal

pub returns-clause-row : goal.returns-clause-row
returns-clause-row g c = IsMarkRow-remove g.T.Moment.rank c.args.marks.now.items _ c.args.i c.requires.row c.remove.ensures.items

pub returns-clause-marks : goal.returns-clause-marks
returns-clause-marks g c = search rules

pub returns-clause-len : goal.returns-clause-len
returns-clause-len g c = search rules

pub returns-clause-mark : goal.returns-clause-mark
returns-clause-mark g c =
    slice_get_read c.args.marks.now.items _ c.args.i c.remove.result refl (omega (arith, c.args.marks.now.ok.0)) c.remove.ensures.value
