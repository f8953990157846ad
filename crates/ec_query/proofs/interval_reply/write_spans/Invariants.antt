-- The spans from the place on are left to write.
use Rattle.std.proofs.Common.{◌-◌, drop, length}
use Rattle.ec_query.specs.Members.{members_text, span_text}
use Rattle.ec_query.proofs.WritingLemmas.{IsLeft}
use Rattle.ec_query.proofs.interval_reply.write_spans.Given as goal

abbrev pub invariant-loop-i : goal.invariant-loop-i
invariant-loop-i g l =
    IsLeft g.K.Sink.stands g.K.Sink.faults l.initial.out l.out (members_text (span_text g.T.Moment.rank g.T.Moment.canon) (g.I.SpanRow.spans l.spans))
    (members_text (span_text g.T.Moment.rank g.T.Moment.canon) (drop l.i (g.I.SpanRow.spans l.spans)))

abbrev pub decreases-loop-i : goal.decreases-loop-i
decreases-loop-i g l = length (g.I.SpanRow.spans l.spans) - l.i
