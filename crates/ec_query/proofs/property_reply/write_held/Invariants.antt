-- What holds among the numbers from the place on is left to write.
use Rattle.std.proofs.Common.{◌-◌, drop, length, map}
use Rattle.ec_store.specs.Table.{number_of}
use Rattle.ec_query.specs.Holding.{held_numbers, number_text}
use Rattle.ec_query.specs.Members.{members_text}
use Rattle.ec_query.proofs.WritingLemmas.{IsLeft}
use Rattle.ec_query.proofs.property_reply.write_held.Given as goal

abbrev pub invariant-loop-i : goal.invariant-loop-i
invariant-loop-i g l =
    IsLeft g.K.Sink.stands g.K.Sink.faults l.initial.out l.out
    (members_text (number_text l.held.props.now) (held_numbers g.T.Moment.rank l.held.intervals.now (g.T.Moment.rank l.at) (map number_of l.held.props.now)))
    (members_text (number_text l.held.props.now) (held_numbers g.T.Moment.rank l.held.intervals.now (g.T.Moment.rank l.at) (drop l.i (map number_of l.held.props.now))))

abbrev pub decreases-loop-i : goal.decreases-loop-i
decreases-loop-i g l = length l.held.props.now - l.i
