-- The search finds the mark, where there is one.
use Rattle.std.proofs.Common.{◌≡◌, get_or, sym}
use Rattle.std.proofs.lemmas.Option.{get_or_from_slice_get}
use Rattle.std.specs.Prelude.{int_lt}
use Rattle.std.specs.Ordering.{int_eq}
use Rattle.ec_rows.proofs.OrderedLemmas.{find-at_cut}
use Rattle.ec_block_rows.proofs.block_marks.find_mark.Goals as goal
use Rattle.ec_lists.proofs.Finds.{find-none}
use Rattle.ec_lists.proofs.Integers.{int_eq-from_lt}

pub returns-in-Ok : goal.returns-in-Ok
returns-in-Ok g c =
    let read : c.get.result.now ≡ get_or c.args.marks.now.items c.in-Ok.place c.get.result.now = sym (get_or_from_slice_get c.args.marks.now.items c.in-Ok.place c.get.result.now c.get.result.now c.get.ensures) in
    sym (find-at_cut (λ mark. int_lt (g.T.Moment.rank mark.at) (g.T.Moment.rank c.args.at)) (λ mark. int_eq (g.T.Moment.rank mark.at) (g.T.Moment.rank c.args.at))
    (λ mark. int_eq-from_lt (g.T.Moment.rank mark.at) (g.T.Moment.rank c.args.at)) c.args.marks.now.items c.in-Ok.place c.get.result.now
    c.in-Ok.ensures.cut c.in-Ok.ensures.found read (rw read (c.in-Ok.ensures.at c.get.result.now)))

pub returns-in-Err : goal.returns-in-Err
returns-in-Err g c = sym (find-none (λ mark. int_eq (g.T.Moment.rank mark.at) (g.T.Moment.rank c.args.at)) c.args.marks.now.items c.in-Err.ensures.absent)
