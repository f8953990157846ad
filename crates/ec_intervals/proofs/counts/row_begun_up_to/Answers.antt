-- The front begins up to each time.
use Rattle.std.proofs.Common.{not, arith}
use Rattle.ec_intervals.specs.Steps.{begins_behind}
use Rattle.ec_intervals.proofs.Counted.{filter_members-few, length-filter_members, begun-front, begun-alone}
use Rattle.ec_intervals.proofs.counts.row_begun_up_to.Goals as goal

pub overflow_add-result : goal.overflow_add-result
overflow_add-result g c =
    let t = g.T.Moment.rank c.args.at in
    let front = c.args.kept.now.front in
    let spans = g.I.SpanRow.spans c.args.kept.now.spans in
    let few = filter_members-few g.T.Moment.rank (λ i. not (begins_behind t i)) front spans in
    let both = length-filter_members g.T.Moment.rank (λ i. not (begins_behind t i)) front spans in
    let count = begun-front g.T.Moment.rank t front c.in-Some.field-0 spans c.count_up_to-count.result c.in-Some.is c.count_up_to-count.ensures.count in
    omega (arith, few, both, count, c.requires.few)

pub returns-in-Some : goal.returns-in-Some
returns-in-Some g c =
    begun-front g.T.Moment.rank (g.T.Moment.rank c.args.at) c.args.kept.now.front c.in-Some.field-0 (g.I.SpanRow.spans c.args.kept.now.spans) c.count_up_to-count.result c.in-Some.is
    c.count_up_to-count.ensures.count

pub returns-in-None : goal.returns-in-None
returns-in-None g c =
    begun-alone g.T.Moment.rank (g.T.Moment.rank c.args.at) c.args.kept.now.front (g.I.SpanRow.spans c.args.kept.now.spans) c.count_up_to-count.result c.in-None.is
    c.count_up_to-count.ensures.count
