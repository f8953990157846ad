-- Those that begin behind the interval are the others than those that do not.
use Rattle.std.proofs.Common.{filter, length, ap, sym, ◌∙◌, arith}
use Rattle.std.proofs.lemmas.List.{length-map}
use Rattle.ec_commands.specs.Relations.{stands_in}
use Rattle.ec_intervals.specs.Table.{members_at, plain_interval, plain_intervals}
use Rattle.ec_compare.proofs.Walks.{ahead-first}
use Rattle.ec_compare.proofs.Zones.{few-begun, count-before}
use Rattle.ec_compare.proofs.standing.count_standing.Goals as goal

pub overflow_sub-result : goal.overflow_sub-result
overflow_sub-result g c =
    let members = members_at c.args.id.0 c.args.intervals.now in
    few-begun (plain_interval g.T.Moment.rank c.args.left.now) (plain_intervals g.T.Moment.rank members) c.count_begun.result c.len.result c.count_begun.ensures
    (c.len.ensures ∙ sym (length-map members (plain_interval g.T.Moment.rank)))

pub returns-in-Before-clause-count : goal.returns-in-Before-clause-count
returns-in-Before-clause-count g c = λ row few.
    let members = members_at c.args.id.0 c.args.intervals.now in
    count-before (plain_interval g.T.Moment.rank c.args.left.now) (plain_intervals g.T.Moment.rank members) c.count_begun.result c.len.result c.count_begun.ensures
    (c.len.ensures ∙ sym (length-map members (plain_interval g.T.Moment.rank)))
    ∙ ap (λ r. length (filter (stands_in r (plain_interval g.T.Moment.rank c.args.left.now)) (plain_intervals g.T.Moment.rank members))) (sym c.in-Before.is)

pub returns-in-Before-clause-from : goal.returns-in-Before-clause-from
returns-in-Before-clause-from g c = λ row few.
    let more = ahead-first (plain_interval g.T.Moment.rank c.args.left.now) c.requires.proper (plain_intervals g.T.Moment.rank (members_at c.args.id.0 c.args.intervals.now)) in
    omega (arith, few, more)

pub returns-in-After-clause-from : goal.returns-in-After-clause-from
returns-in-After-clause-from g c = λ row few.
    let more = ahead-first (plain_interval g.T.Moment.rank c.args.left.now) c.requires.proper (plain_intervals g.T.Moment.rank (members_at c.args.id.0 c.args.intervals.now)) in
    omega (arith, few, more)
