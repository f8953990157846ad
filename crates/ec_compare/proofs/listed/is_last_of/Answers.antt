-- It is one of the row where it is the last of those that begin no later.
use Rattle.std.proofs.Common.{◌≡◌, ◌-◌, nat_lt, arith, ap, ◌∙◌, sym}
use Rattle.ec_lists.proofs.Places.{slice_get-map_at}
use Rattle.ec_intervals.specs.Table.{members_at, plain_interval, plain_intervals}
use Rattle.ec_compare.proofs.Found.{found-last, found-none}
use Rattle.ec_compare.proofs.Rows.{begins-ascend}
use Rattle.ec_compare.proofs.listed.is_last_of.Goals as goal

pub returns-then-begun-gt0 : goal.returns-then-begun-gt0
returns-then-begun-gt0 g c = λ row begun.
    let members = members_at c.args.id.0 c.args.intervals.now in
    let plain = plain_interval g.T.Moment.rank in
    c.are_same.ensures ∙ sym (found-last (plain c.args.interval.now) (plain_intervals g.T.Moment.rank members) (begins-ascend (plain_intervals g.T.Moment.rank members) row) (c.args.begun - 1) (plain c.member.result)
    (omega (arith, begun, c.if-begun-gt0.true)) (slice_get-map_at plain members (c.args.begun - 1) c.member.result c.member.ensures.member))

pub returns-else-begun-gt0 : goal.returns-else-begun-gt0
returns-else-begun-gt0 g c = λ row begun.
    let none : c.args.begun ≡ 0 = omega (arith, c.if-begun-gt0.false) in
    ap (nat_lt 0) none ∙ sym (found-none (plain_interval g.T.Moment.rank c.args.interval.now) (plain_intervals g.T.Moment.rank (members_at c.args.id.0 c.args.intervals.now)) (omega (arith, begun, none)))
