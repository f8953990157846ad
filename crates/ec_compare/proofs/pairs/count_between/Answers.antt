-- Each interval of the first property adds its pairs, and the walk of the next begins where that of this one tells.
use Rattle.std.proofs.Common.{◌≡◌, refl, arith}
use Rattle.ec_lists.proofs.Places.{slice_get-map_at}
use Rattle.ec_commands.specs.declared.limits.TheConstants.{MOST_PAIRS}
use Rattle.ec_intervals.specs.Table.{members_at, plain_interval, plain_intervals}
use Rattle.ec_compare.proofs.Loops.{length-pairs_next}
use Rattle.ec_compare.proofs.Walks.{walk-next}
use Rattle.ec_compare.proofs.pairs.count_between.Goals as goal

pub returns-then-more-count-clause-many : goal.returns-then-more-count-clause-many
returns-then-more-count-clause-many g c = λ left_row row.
    let lefts = members_at c.args.p.0 c.args.intervals.now in
    let rights = plain_intervals g.T.Moment.rank (members_at c.args.q.0 c.args.intervals.now) in
    let left = plain_interval g.T.Moment.rank c.member-left.result in
    let read = slice_get-map_at (plain_interval g.T.Moment.rank) lefts c.loop-place.place c.member-left.result c.member-left.ensures.member in
    let next = length-pairs_next c.args.wanted (plain_intervals g.T.Moment.rank lefts) rights c.loop-place.place left read in
    let start = c.next_start-from.ensures (c.loop-place.invariant.start left_row row left read) in
    let limit : MOST_PAIRS ≡ 65536 = refl in
    omega (arith, next, limit, c.loop-place.invariant.counted left_row row, c.count_standing-more.ensures.count row start, c.if-more-count.true, c.loop-place.invariant.few)

pub loop-place-preserved : goal.loop-place-preserved
loop-place-preserved g c =
    let lefts = members_at c.args.p.0 c.args.intervals.now in
    let rights = plain_intervals g.T.Moment.rank (members_at c.args.q.0 c.args.intervals.now) in
    let left = plain_interval g.T.Moment.rank c.member-left.result in
    let read = slice_get-map_at (plain_interval g.T.Moment.rank) lefts c.loop-place.place c.member-left.result c.member-left.ensures.member in
    let next = length-pairs_next c.args.wanted (plain_intervals g.T.Moment.rank lefts) rights c.loop-place.place left read in
    let limit : MOST_PAIRS ≡ 65536 = refl in
    record {
      counted = λ left_row row. omega (arith, next, c.loop-place.invariant.counted left_row row, c.count_standing-more.ensures.count row (c.next_start-from.ensures (c.loop-place.invariant.start left_row row left read)));
      few = omega (arith, limit, c.if-more-count.false, c.loop-place.invariant.few);
      start = λ left_row row i behind.
          let first = c.count_standing-more.ensures.from row (c.next_start-from.ensures (c.loop-place.invariant.start left_row row left read)) in
          let later = walk-next (plain_intervals g.T.Moment.rank lefts) left_row c.loop-place.place left i read behind rights in
          omega (arith, first, later);
    }
