-- Each interval is counted if it is missing.
use Rattle.std.proofs.Common.{length, ap, arith}
use Rattle.std.proofs.lemmas.List.{length-map}
use Rattle.ec_lists.proofs.Places.{slice_get-map_at}
use Rattle.ec_intervals.specs.Table.{plain_interval, plain_intervals}
use Rattle.ec_compare.proofs.Found.{length-missing_next, missing-end}
use Rattle.ec_compare.proofs.missing.count_missing.Goals as goal

pub loop-place-preserved : goal.loop-place-preserved
loop-place-preserved g c =
    let these = g.A.Listed.members c.args.these.now in
    let those = plain_intervals g.T.Moment.rank (g.B.Listed.members c.args.those.now) in
    let next = length-missing_next those (plain_intervals g.T.Moment.rank these) c.loop-place.place (plain_interval g.T.Moment.rank c.get.result)
    (slice_get-map_at (plain_interval g.T.Moment.rank) these c.loop-place.place c.get.result c.get.ensures) in
    record {
      counted = λ row. omega (arith, next, c.loop-place.invariant.counted row, c.count_one-count.ensures.count row);
      few = omega (arith, c.loop-place.invariant.few, c.count_one-count.ensures.few);
    }

pub returns : goal.returns
returns g c = λ row.
    let these = g.A.Listed.members c.args.these.now in
    let those = plain_intervals g.T.Moment.rank (g.B.Listed.members c.args.those.now) in
    let whole = length-map these (plain_interval g.T.Moment.rank) in
    let none = ap length (missing-end those (plain_intervals g.T.Moment.rank these) c.loop-place.place (omega (arith, whole, c.len-place-end.ensures, c.loop-place-test.false))) in
    omega (arith, none, c.loop-place.invariant.counted row)
