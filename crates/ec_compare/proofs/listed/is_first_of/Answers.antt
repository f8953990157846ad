-- Behind the first of a row all begin at a time.
use Rattle.std.proofs.Common.{◌≡◌, nat_lt, arith, sym, ap, ◌∙◌}
use Rattle.std.proofs.lemmas.List.{length-map}
use Rattle.ec_lists.proofs.Places.{slice_get-map_at}
use Rattle.ec_intervals.specs.Table.{members_at, plain_interval, plain_intervals}
use Rattle.ec_compare.proofs.Found.{found-first, none-passes}
use Rattle.ec_compare.proofs.Rows.{begins-ascend}
use Rattle.ec_compare.proofs.listed.is_first_of.Goals as goal

pub returns-then-count-gt0 : goal.returns-then-count-gt0
returns-then-count-gt0 g c = λ row first.
    let members = members_at c.args.id.0 c.args.intervals.now in
    let plain = plain_interval g.T.Moment.rank in
    c.are_same.ensures ∙ sym (found-first (plain c.args.interval.now) (plain_intervals g.T.Moment.rank members) (begins-ascend (plain_intervals g.T.Moment.rank members) row) first (plain c.member.result)
    (slice_get-map_at plain members 0 c.member.result c.member.ensures.member))

pub returns-else-count-gt0 : goal.returns-else-count-gt0
returns-else-count-gt0 g c = λ row first.
    let members = members_at c.args.id.0 c.args.intervals.now in
    let count = length-map members (plain_interval g.T.Moment.rank) in
    let none : c.len-count.result ≡ 0 = omega (arith, c.if-count-gt0.false) in
    ap (nat_lt 0) none ∙ sym (none-passes (plain_interval g.T.Moment.rank c.args.interval.now) (plain_intervals g.T.Moment.rank members) (omega (arith, count, c.len-count.ensures, none)))
