-- Each interval is the next of what is left, if it is missing.
use Rattle.std.proofs.Common.{◌+◌, ◌∷◌, [], refl, ap, ◌∙◌, arith}
use Rattle.std.proofs.lemmas.List.{length-map}
use Rattle.ec_lists.proofs.Places.{slice_get-map_at}
use Rattle.ec_lists.proofs.Results.{OnErr-anyway}
use Rattle.ec_commands.specs.QueryTexts.{interval_text}
use Rattle.ec_intervals.specs.Table.{plain_interval, plain_intervals}
use Rattle.ec_query.specs.Members.{members_text}
use Rattle.ec_query.proofs.WritingLemmas.{IsLeft-start, IsLeft-next, IsLeft-part, IsLeft-end}
use Rattle.ec_replies.specs.Notes.{missing_from}
use Rattle.ec_compare.specs.Lists.{missing_behind}
use Rattle.ec_compare.proofs.Found.{missing-end, text-missing_next}
use Rattle.ec_compare.proofs.missing.write_missing.Goals as goal

pub loop-place-init : goal.loop-place-init
loop-place-init g c = record {
  left = λ row. IsLeft-start {faults = g.K.Sink.faults} c.args.out.now _ _ refl;
  quiet = refl;
}

pub returns-in_err-write_one-clause-part : goal.returns-in_err-write_one-clause-part
returns-in_err-write_one-clause-part g c = λ row.
    let these = g.A.Listed.members c.args.these.now in
    let those = plain_intervals g.T.Moment.rank (g.B.Listed.members c.args.those.now) in
    let interval = plain_interval g.T.Moment.rank c.get.result in
    OnErr-anyway c.from_residual.result
    (IsLeft-part (members_text (interval_text g.T.Moment.canon) (missing_from those (interval ∷ [])))
    (members_text (interval_text g.T.Moment.canon) (missing_behind (c.loop-place.place + 1) those (plain_intervals g.T.Moment.rank these))) (c.loop-place.invariant.left row)
    (text-missing_next g.T.Moment.canon those (plain_intervals g.T.Moment.rank these) c.loop-place.place interval
    (slice_get-map_at (plain_interval g.T.Moment.rank) these c.loop-place.place c.get.result c.get.ensures))
    (c.in_err-write_one.ensures.part row))

pub loop-place-preserved : goal.loop-place-preserved
loop-place-preserved g c =
    let these = g.A.Listed.members c.args.these.now in
    let those = plain_intervals g.T.Moment.rank (g.B.Listed.members c.args.those.now) in
    let interval = plain_interval g.T.Moment.rank c.get.result in
    record {
      left = λ row. IsLeft-next (members_text (interval_text g.T.Moment.canon) (missing_from those (interval ∷ [])))
          (members_text (interval_text g.T.Moment.canon) (missing_behind (c.loop-place.place + 1) those (plain_intervals g.T.Moment.rank these))) (c.loop-place.invariant.left row)
          (text-missing_next g.T.Moment.canon those (plain_intervals g.T.Moment.rank these) c.loop-place.place interval
          (slice_get-map_at (plain_interval g.T.Moment.rank) these c.loop-place.place c.get.result c.get.ensures))
          (c.in_ok-write_one.ensures.written row) c.in_ok-write_one.ensures.quiet;
      quiet = c.in_ok-write_one.ensures.quiet ∙ c.loop-place.invariant.quiet;
    }

pub returns-clause-written : goal.returns-clause-written
returns-clause-written g c = λ row.
    let these = g.A.Listed.members c.args.these.now in
    let those = plain_intervals g.T.Moment.rank (g.B.Listed.members c.args.those.now) in
    let whole = length-map these (plain_interval g.T.Moment.rank) in
    IsLeft-end (c.loop-place.invariant.left row)
    (ap (members_text (interval_text g.T.Moment.canon)) (missing-end those (plain_intervals g.T.Moment.rank these) c.loop-place.place (omega (arith, whole, c.len-place-end.ensures, c.loop-place-test.false))))
