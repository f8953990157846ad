-- The numbers from the place on are left to write.
use Rattle.std.proofs.Common.{drop}
use Rattle.ec_query.specs.Holding.{number_text}
use Rattle.ec_query.specs.Members.{members_text}
use Rattle.ec_query.proofs.WritingLemmas.{IsLeft}
use Rattle.ec_query.proofs.property_reply.write_members.Given as goal

abbrev pub invariant-loop-p : goal.invariant-loop-p
invariant-loop-p g l =
    IsLeft g.K.Sink.stands g.K.Sink.faults l.initial.out l.out
    (members_text (number_text l.props) l.numbers) (members_text (number_text l.props) (drop l.p-index l.numbers))
