-- The number stands at the cut, or nowhere.
use Rattle.std.proofs.Common.{sym, arith}
use Rattle.ec_numbered.proofs.Numbers.{has_number-at, has_number-end}
use Rattle.ec_query.proofs.sought.is_listed.Goals as goal

pub returns-then-place-list : goal.returns-then-place-list
returns-then-place-list c =
    sym (has_number-end c.args.p c.args.list.now c.count_before-place.result c.requires c.count_before-place.ensures.cut (omega (arith, c.if-place-list.true)))

pub returns : goal.returns
returns c =
    has_number-at c.args.p c.args.list.now c.count_before-place.result (record { 0 = 0 }) c.requires c.count_before-place.ensures.cut
    (omega (arith, c.count_before-place.ensures.within, c.if-place-list.false))
