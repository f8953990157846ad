-- The spans from the place on are left to write.
use Rattle.std.proofs.Common.{drop}
use Rattle.ec_query.specs.Members.{members_text, span_text}
use Rattle.ec_query.proofs.WritingLemmas.{IsLeft}
use Rattle.ec_query.proofs.interval_reply.write_run.Given as goal

abbrev pub invariant-loop-span : goal.invariant-loop-span
invariant-loop-span g l =
    IsLeft g.K.Sink.stands g.K.Sink.faults l.initial.out l.out (members_text (span_text g.T.Moment.rank g.T.Moment.canon) l.run)
    (members_text (span_text g.T.Moment.rank g.T.Moment.canon) (drop l.span-index l.run))
