-- Behind those up to the time are those after it.
use Rattle.std.proofs.Common.{sym, ap, take, length, ◌∙◌, arith}
use Rattle.std.proofs.lemmas.List.{drop_all}
use Rattle.ec_entries.proofs.Readings.{drop-after}
use Rattle.ec_entries.proofs.ordered.searched_after.Goals as goal

pub returns-then-place-len-clause-run : goal.returns-then-place-len-clause-run
returns-then-place-len-clause-run g c =
    c.run.ensures.run
    ∙ ap (take (length c.run.result.now)) (drop-after g.T.Moment.rank (g.T.Moment.rank c.args.at) c.args.list.now.items c.count_up_to-place.result c.count_up_to-place.ensures.cut)

pub returns-else-place-len-clause-none : goal.returns-else-place-len-clause-none
returns-else-place-len-clause-none g c = λ _.
    sym (drop-after g.T.Moment.rank (g.T.Moment.rank c.args.at) c.args.list.now.items c.count_up_to-place.result c.count_up_to-place.ensures.cut)
    ∙ drop_all c.count_up_to-place.result c.args.list.now.items (omega arith)
