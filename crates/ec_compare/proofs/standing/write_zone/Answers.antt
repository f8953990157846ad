-- Each interval of the zone is the next of what is left.
use Rattle.std.proofs.Common.{◌+◌, ◌∷◌, ◌++◌, refl, sym, ap, ◌∙◌, arith}
use Rattle.ec_lists.proofs.Places.{slice_get-map_at}
use Rattle.ec_lists.proofs.Results.{OnErr-anyway}
use Rattle.ec_commands.specs.QueryTexts.{interval_text}
use Rattle.ec_intervals.specs.Table.{members_at, plain_interval, plain_intervals}
use Rattle.ec_query.proofs.WritingLemmas.{IsLeft-start, IsLeft-next, IsLeft-part, IsLeft-end}
use Rattle.ec_compare.specs.Stretches.{front_text, fronted_text, stretch}
use Rattle.ec_compare.proofs.Loops.{fronted-stretch, stretch-end}
use Rattle.ec_compare.proofs.standing.write_zone.Goals as goal

pub loop-place-init : goal.loop-place-init
loop-place-init g c = IsLeft-start {faults = g.K.Sink.faults} c.args.out.now _ _ refl

pub returns-in_err-write_fronted-clause-part : goal.returns-in_err-write_fronted-clause-part
returns-in_err-write_fronted-clause-part g c =
    let members = members_at c.args.id.0 c.args.intervals.now in
    let front = front_text c.args.shown g.T.Moment.canon (plain_interval g.T.Moment.rank c.args.left.now) in
    let right = plain_interval g.T.Moment.rank c.member.result in
    OnErr-anyway c.from_residual.result
    (IsLeft-part (c.as_bytes.result.now ++ 32 ∷ interval_text g.T.Moment.canon right)
    (fronted_text front g.T.Moment.canon (stretch (c.loop-place.place + 1) c.args.zone.to (plain_intervals g.T.Moment.rank members))) c.loop-place.invariant
    (fronted-stretch front g.T.Moment.canon (plain_intervals g.T.Moment.rank members) c.loop-place.place right
    (slice_get-map_at (plain_interval g.T.Moment.rank) members c.loop-place.place c.member.result c.member.ensures.member) c.args.zone.to c.loop-place-test.true
    ∙ ap (λ text. (text ++ 32 ∷ interval_text g.T.Moment.canon right) ++ fronted_text front g.T.Moment.canon (stretch (c.loop-place.place + 1) c.args.zone.to (plain_intervals g.T.Moment.rank members))) (sym (c.as_bytes.ensures ∙ c.set_front.ensures)))
    c.in_err-write_fronted.ensures.part)

pub loop-place-preserved : goal.loop-place-preserved
loop-place-preserved g c =
    let members = members_at c.args.id.0 c.args.intervals.now in
    let front = front_text c.args.shown g.T.Moment.canon (plain_interval g.T.Moment.rank c.args.left.now) in
    let right = plain_interval g.T.Moment.rank c.member.result in
    IsLeft-next (c.as_bytes.result.now ++ 32 ∷ interval_text g.T.Moment.canon right)
    (fronted_text front g.T.Moment.canon (stretch (c.loop-place.place + 1) c.args.zone.to (plain_intervals g.T.Moment.rank members))) c.loop-place.invariant
    (fronted-stretch front g.T.Moment.canon (plain_intervals g.T.Moment.rank members) c.loop-place.place right
    (slice_get-map_at (plain_interval g.T.Moment.rank) members c.loop-place.place c.member.result c.member.ensures.member) c.args.zone.to c.loop-place-test.true
    ∙ ap (λ text. (text ++ 32 ∷ interval_text g.T.Moment.canon right) ++ fronted_text front g.T.Moment.canon (stretch (c.loop-place.place + 1) c.args.zone.to (plain_intervals g.T.Moment.rank members))) (sym (c.as_bytes.ensures ∙ c.set_front.ensures)))
    c.in_ok-write_fronted.ensures.written c.in_ok-write_fronted.ensures.quiet

pub returns-clause-written : goal.returns-clause-written
returns-clause-written g c =
    IsLeft-end c.loop-place.invariant
    (ap (fronted_text (front_text c.args.shown g.T.Moment.canon (plain_interval g.T.Moment.rank c.args.left.now)) g.T.Moment.canon)
    (stretch-end (plain_intervals g.T.Moment.rank (members_at c.args.id.0 c.args.intervals.now)) c.loop-place.place c.args.zone.to (omega (arith, c.loop-place-test.false))))
