-- It is missing where it is not found.
use Rattle.std.proofs.Common.{length, sym, ap, ◌∙◌, true, false}
use Rattle.ec_intervals.specs.Table.{plain_interval, plain_intervals}
use Rattle.ec_compare.proofs.Found.{missing-one}
use Rattle.ec_compare.proofs.missing.count_one.Goals as goal

pub returns-then-contains-clause-count : goal.returns-then-contains-clause-count
returns-then-contains-clause-count g c = λ row.
    let those = plain_intervals g.T.Moment.rank (g.B.Listed.members c.args.those.now) in
    let interval = plain_interval g.T.Moment.rank c.args.interval.now in
    sym (ap length (missing-one those interval true (sym c.if-contains.true ∙ c.contains.ensures row)))

pub returns-else-contains-clause-count : goal.returns-else-contains-clause-count
returns-else-contains-clause-count g c = λ row.
    let those = plain_intervals g.T.Moment.rank (g.B.Listed.members c.args.those.now) in
    let interval = plain_interval g.T.Moment.rank c.args.interval.now in
    sym (ap length (missing-one those interval false (sym c.if-contains.false ∙ c.contains.ensures row)))
