-- The search finds the mark, where there is one.
use Rattle.std.proofs.Common.{sym}
use Rattle.std.specs.Prelude.{int_lt}
use Rattle.std.specs.Ordering.{int_eq}
use Rattle.ec_rows.proofs.OrderedLemmas.{find-at_cut}
use Rattle.ec_rows.proofs.vec_marks.find_mark.Goals as goal
use Rattle.ec_lists.proofs.Finds.{find-none}
use Rattle.ec_lists.proofs.Integers.{int_eq-from_lt}

pub returns-in-Ok : goal.returns-in-Ok
returns-in-Ok g c =
    sym (find-at_cut (λ mark. int_lt (g.T.Moment.rank mark.at) (g.T.Moment.rank c.args.at)) (λ mark. int_eq (g.T.Moment.rank mark.at) (g.T.Moment.rank c.args.at))
    (λ mark. int_eq-from_lt (g.T.Moment.rank mark.at) (g.T.Moment.rank c.args.at)) c.args.marks.now c.in-Ok.place c.index-marks-place.result
    c.in-Ok.ensures.cut c.in-Ok.ensures.found c.index-marks-place.is (rw c.index-marks-place.is (c.in-Ok.ensures.at c.index-marks-place.result)))

pub returns-in-Err : goal.returns-in-Err
returns-in-Err g c = sym (find-none (λ mark. int_eq (g.T.Moment.rank mark.at) (g.T.Moment.rank c.args.at)) c.args.marks.now c.in-Err.ensures.absent)
