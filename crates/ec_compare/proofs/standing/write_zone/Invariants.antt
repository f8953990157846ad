-- The intervals of the zone from the place on are left to write.
use Rattle.ec_compare.specs.Stretches.{front_text, fronted_text, stretch}
use Rattle.ec_intervals.specs.Table.{members_at, plain_interval, plain_intervals}
use Rattle.ec_query.proofs.WritingLemmas.{IsLeft}
use Rattle.ec_compare.proofs.standing.write_zone.Given as goal

abbrev pub invariant-loop-place : goal.invariant-loop-place
invariant-loop-place g l =
    IsLeft g.K.Sink.stands g.K.Sink.faults l.initial.out l.out
    (fronted_text (front_text l.fn.shown g.T.Moment.canon (plain_interval g.T.Moment.rank l.left)) g.T.Moment.canon (stretch l.fn.zone.from l.fn.zone.to (plain_intervals g.T.Moment.rank (members_at l.id.0 l.intervals))))
    (fronted_text (front_text l.fn.shown g.T.Moment.canon (plain_interval g.T.Moment.rank l.left)) g.T.Moment.canon (stretch l.place l.fn.zone.to (plain_intervals g.T.Moment.rank (members_at l.id.0 l.intervals))))
