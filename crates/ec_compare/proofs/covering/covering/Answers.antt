-- The first interval that does not end before the time covers it, if it begins before it.
use Rattle.std.proofs.Common.{sym, ◌∙◌, arith}
use Rattle.std.proofs.lemmas.List.{length-map}
use Rattle.ec_lists.proofs.Places.{slice_get-map_at}
use Rattle.ec_intervals.specs.Steps.{ends_before}
use Rattle.ec_intervals.specs.Table.{members_at, plain_interval, plain_intervals}
use Rattle.ec_compare.proofs.Coverings.{find-covers_end, find-covers_at, find-covers_none}
use Rattle.ec_compare.proofs.Zones.{few-filtered}
use Rattle.ec_compare.proofs.covering.covering.Goals as goal

pub returns-then-place-len-clause-covers : goal.returns-then-place-len-clause-covers
returns-then-place-len-clause-covers g c = λ row.
    let members = members_at c.args.id.0 c.args.intervals.now in
    sym (find-covers_end (g.T.Moment.rank c.args.at) (plain_intervals g.T.Moment.rank members) row c.ended_before-place.result c.ended_before-place.ensures
    (c.if-place-len.true ∙ c.len.ensures ∙ sym (length-map members (plain_interval g.T.Moment.rank))))

pub member-interval-requires : goal.member-interval-requires
member-interval-requires g c =
    let few = few-filtered (ends_before (g.T.Moment.rank c.args.at)) (plain_interval g.T.Moment.rank) (members_at c.args.id.0 c.args.intervals.now) c.ended_before-place.result c.ended_before-place.ensures in
    record { within = omega (arith, few, c.if-place-len.false, c.len.ensures) }

pub returns-then-is_after-clause-covers : goal.returns-then-is_after-clause-covers
returns-then-is_after-clause-covers g c = λ row.
    let members = members_at c.args.id.0 c.args.intervals.now in
    sym (find-covers_at (g.T.Moment.rank c.args.at) (plain_intervals g.T.Moment.rank members) row c.ended_before-place.result c.ended_before-place.ensures
    (plain_interval g.T.Moment.rank c.member-interval.result)
    (slice_get-map_at (plain_interval g.T.Moment.rank) members c.ended_before-place.result c.member-interval.result c.member-interval.ensures.member)
    (sym c.is_after.ensures ∙ c.if-is_after.true))

pub returns-else-is_after-clause-covers : goal.returns-else-is_after-clause-covers
returns-else-is_after-clause-covers g c = λ row.
    let members = members_at c.args.id.0 c.args.intervals.now in
    sym (find-covers_none (g.T.Moment.rank c.args.at) (plain_intervals g.T.Moment.rank members) row c.ended_before-place.result c.ended_before-place.ensures
    (plain_interval g.T.Moment.rank c.member-interval.result)
    (slice_get-map_at (plain_interval g.T.Moment.rank) members c.ended_before-place.result c.member-interval.result c.member-interval.ensures.member)
    (sym c.is_after.ensures ∙ c.if-is_after.false))
