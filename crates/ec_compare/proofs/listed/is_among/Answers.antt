-- It is one of the row where it is the last of those that begin no later, and these are the first.
use Rattle.std.proofs.Common.{rules, ◌≡◌, ◌-◌, length, nat_lt, arith, refl, ap, sym, ◌∙◌}
use Rattle.std.proofs.lemmas.Option.{slice_get_read}
use Rattle.std.proofs.lemmas.List.Sorted.{IsPartitionPoint-from_clause}
use Rattle.ec_lists.proofs.Places.{slice_get-map_at}
use Rattle.ec_intervals.specs.Table.{plain_interval, plain_intervals}
use Rattle.ec_compare.specs.Lists.{begins_no_later}
use Rattle.ec_compare.proofs.Found.{begun-count, begun-partitioned, found-last, found-none}
use Rattle.ec_compare.proofs.Rows.{begins-ascend}
use Rattle.ec_compare.proofs.listed.is_among.Goals as goal

pub returns-then-begun-gt0 : goal.returns-then-begun-gt0
returns-then-begun-gt0 g c = λ row.
    let members = c.args.intervals.now in
    let plain = plain_interval g.T.Moment.rank in
    let ascending = begins-ascend (plain_intervals g.T.Moment.rank members) row in
    let cut = IsPartitionPoint-from_clause (λ m. begins_no_later (plain c.args.interval.now) (plain m)) members c.partition_point-begun.result c.partition_point-begun.ensures.partitioned
    (begun-partitioned plain (plain c.args.interval.now) members ascending) (λ a r f' called. search (rules, called)) in
    let begun = begun-count plain (plain c.args.interval.now) members c.partition_point-begun.result c.partition_point-begun.ensures.bound cut in
    let place = c.partition_point-begun.result - 1 in
    let bound = c.partition_point-begun.ensures.bound in
    let read = slice_get_read members (length members) place c.index-intervals-begun.result refl (omega (arith, bound, c.if-begun-gt0.true)) c.index-intervals-begun.is in
    c.are_same.ensures ∙ sym (found-last (plain c.args.interval.now) (plain_intervals g.T.Moment.rank members) ascending place (plain c.index-intervals-begun.result)
    (omega (arith, begun, c.if-begun-gt0.true)) (slice_get-map_at plain members place c.index-intervals-begun.result read))

pub returns-else-begun-gt0 : goal.returns-else-begun-gt0
returns-else-begun-gt0 g c = λ row.
    let members = c.args.intervals.now in
    let plain = plain_interval g.T.Moment.rank in
    let ascending = begins-ascend (plain_intervals g.T.Moment.rank members) row in
    let cut = IsPartitionPoint-from_clause (λ m. begins_no_later (plain c.args.interval.now) (plain m)) members c.partition_point-begun.result c.partition_point-begun.ensures.partitioned
    (begun-partitioned plain (plain c.args.interval.now) members ascending) (λ a r f' called. search (rules, called)) in
    let begun = begun-count plain (plain c.args.interval.now) members c.partition_point-begun.result c.partition_point-begun.ensures.bound cut in
    let none : c.partition_point-begun.result ≡ 0 = omega (arith, c.if-begun-gt0.false) in
    ap (nat_lt 0) none ∙ sym (found-none (plain c.args.interval.now) (plain_intervals g.T.Moment.rank members) (omega (arith, begun, none)))
