-- The pairs of each interval of the first property are the next of what is left, and the walk of the next begins where that of this one tells.
use Rattle.std.proofs.Common.{◌+◌, filter, drop, refl, ap, ◌∙◌, arith}
use Rattle.std.proofs.lemmas.List.{length-map}
use Rattle.ec_lists.proofs.Places.{slice_get-map_at}
use Rattle.ec_lists.proofs.Results.{OnErr-anyway}
use Rattle.ec_commands.specs.QueryTexts.{pair_text}
use Rattle.ec_commands.specs.Relations.{stands_in}
use Rattle.ec_compare.specs.declared.fronted.Shown.TheVariants.{Both}
use Rattle.ec_intervals.specs.Table.{members_at, plain_interval, plain_intervals}
use Rattle.ec_query.specs.Members.{members_text}
use Rattle.ec_query.proofs.WritingLemmas.{IsLeft-start, IsLeft-next, IsLeft-part, IsLeft-end}
use Rattle.ec_compare.specs.Stretches.{front_text, fronted_text, pairs_between}
use Rattle.ec_compare.proofs.Loops.{pairs-end, text-pairs_next}
use Rattle.ec_compare.proofs.Walks.{walk-next}
use Rattle.ec_compare.proofs.pairs.write_between.Goals as goal

pub loop-place-init : goal.loop-place-init
loop-place-init g c = record {
  left = λ left_row row. IsLeft-start {faults = g.K.Sink.faults} c.args.out.now _ _ refl;
  quiet = refl;
  start = λ left_row row i read. omega arith;
}

pub returns-in_err-write_standing-clause-part : goal.returns-in_err-write_standing-clause-part
returns-in_err-write_standing-clause-part g c = λ left_row row.
    let lefts = members_at c.args.p.0 c.args.intervals.now in
    let rights = plain_intervals g.T.Moment.rank (members_at c.args.q.0 c.args.intervals.now) in
    let left = plain_interval g.T.Moment.rank c.member-left.result in
    let canon = g.T.Moment.canon in
    let those = filter (stands_in c.args.wanted left) rights in
    let more = members_text (pair_text canon) (pairs_between c.args.wanted (drop (c.loop-place.place + 1) (plain_intervals g.T.Moment.rank lefts)) rights) in
    let read = slice_get-map_at (plain_interval g.T.Moment.rank) lefts c.loop-place.place c.member-left.result c.member-left.ensures.member in
    OnErr-anyway c.from_residual.result
    (IsLeft-part (fronted_text (front_text Both canon left) canon those) more (c.loop-place.invariant.left left_row row)
    (text-pairs_next c.args.wanted (plain_intervals g.T.Moment.rank lefts) rights c.loop-place.place left read canon)
    (c.in_err-write_standing.ensures.part row (c.next_start-from.ensures (c.loop-place.invariant.start left_row row left read))))

pub loop-place-preserved : goal.loop-place-preserved
loop-place-preserved g c =
    let lefts = members_at c.args.p.0 c.args.intervals.now in
    let rights = plain_intervals g.T.Moment.rank (members_at c.args.q.0 c.args.intervals.now) in
    let left = plain_interval g.T.Moment.rank c.member-left.result in
    let canon = g.T.Moment.canon in
    let those = filter (stands_in c.args.wanted left) rights in
    let more = members_text (pair_text canon) (pairs_between c.args.wanted (drop (c.loop-place.place + 1) (plain_intervals g.T.Moment.rank lefts)) rights) in
    let read = slice_get-map_at (plain_interval g.T.Moment.rank) lefts c.loop-place.place c.member-left.result c.member-left.ensures.member in
    record {
      left = λ left_row row. IsLeft-next (fronted_text (front_text Both canon left) canon those) more (c.loop-place.invariant.left left_row row)
          (text-pairs_next c.args.wanted (plain_intervals g.T.Moment.rank lefts) rights c.loop-place.place left read canon)
          (c.in_ok-write_standing.ensures.written row (c.next_start-from.ensures (c.loop-place.invariant.start left_row row left read))) c.in_ok-write_standing.ensures.quiet;
      quiet = c.in_ok-write_standing.ensures.quiet ∙ c.loop-place.invariant.quiet;
      start = λ left_row row i behind.
          let first = c.in_ok-write_standing.ensures.from row (c.next_start-from.ensures (c.loop-place.invariant.start left_row row left read)) in
          let later = walk-next (plain_intervals g.T.Moment.rank lefts) left_row c.loop-place.place left i read behind rights in
          omega (arith, first, later);
    }

pub returns-clause-written : goal.returns-clause-written
returns-clause-written g c = λ left_row row.
    let lefts = members_at c.args.p.0 c.args.intervals.now in
    let count = length-map lefts (plain_interval g.T.Moment.rank) in
    IsLeft-end (c.loop-place.invariant.left left_row row)
    (ap (members_text (pair_text g.T.Moment.canon))
    (pairs-end c.args.wanted (plain_intervals g.T.Moment.rank lefts) (plain_intervals g.T.Moment.rank (members_at c.args.q.0 c.args.intervals.now)) c.loop-place.place
    (omega (arith, count, c.len-place-end.ensures, c.loop-place-test.false))))
