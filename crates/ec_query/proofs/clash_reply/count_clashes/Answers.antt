-- Each clash that is found is the first of those that are left.
use Rattle.std.proofs.Common.{length, ap, arith}
use Rattle.ec_query.proofs.ClashSearch.{left_behind-all, left_behind-next, left_behind-none, fewer_behind}
use Rattle.ec_query.proofs.NextOfOrder.{counted_next, fewer_within}
use Rattle.ec_query.proofs.clash_reply.count_clashes.Goals as goal

pub loop-at-init : goal.loop-at-init
loop-at-init g c = λ times are. let all = ap length (left_behind-all g.T.Moment.rank times) in (omega (arith, all), omega (arith, all))

pub loop-at-smaller : goal.loop-at-smaller
loop-at-smaller g c = fewer_behind g.T.Moment.rank c.args.points.now c.loop-at.after c.in-Some.at c.in-Some.ensures.some c.in-Some.ensures.behind

pub loop-at-preserved : goal.loop-at-preserved
loop-at-preserved g c = λ times are.
    let next = ap length (left_behind-next g.T.Moment.rank c.args.points.now times are c.loop-at.after c.in-Some.at
    (record { some = c.in-Some.ensures.some; behind = c.in-Some.ensures.behind; least = c.in-Some.ensures.least })) in
    let so_far = c.loop-at.invariant times are in
    (counted_next c.loop-at.count c.saturating_add-count.result _ _ _ next so_far.0 so_far.1 c.saturating_add-count.ensures, fewer_within _ _ _ next so_far.1)

pub returns : goal.returns
returns g c = λ times are.
    let none = ap length (left_behind-none g.T.Moment.rank c.args.points.now times are c.loop-at.after c.in_default.ensures.none) in
    let so_far = c.loop-at.invariant times are in
    omega (arith, none, so_far.0)
