-- What holds among the numbers from the place on is left to write.
use Rattle.std.proofs.Common.{drop}
use Rattle.ec_query.specs.Holding.{held_numbers, number_text}
use Rattle.ec_query.specs.Members.{members_text}
use Rattle.ec_query.proofs.WritingLemmas.{IsLeft}
use Rattle.ec_query.proofs.property_reply.write_run.Given as goal

abbrev pub invariant-loop-p : goal.invariant-loop-p
invariant-loop-p g l =
    IsLeft g.K.Sink.stands g.K.Sink.faults l.initial.out l.out
    (members_text (number_text l.held.props.now) (held_numbers g.T.Moment.rank l.held.intervals.now (g.T.Moment.rank l.at) l.run))
    (members_text (number_text l.held.props.now) (held_numbers g.T.Moment.rank l.held.intervals.now (g.T.Moment.rank l.at) (drop l.p-index l.run)))
