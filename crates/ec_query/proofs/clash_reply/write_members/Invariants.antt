-- What is left behind the last clash is left to write.
use Rattle.std.proofs.Common.{◌≡◌, ℤ, List, length}
use Rattle.ec_query.specs.Marked.{AreClashTimes}
use Rattle.ec_query.specs.Members.{members_text}
use Rattle.ec_query.proofs.ClashSearch.{left_behind, mark_times}
use Rattle.ec_query.proofs.WritingLemmas.{IsLeft}
use Rattle.ec_query.proofs.clash_reply.write_members.Given as goal

abbrev pub invariant-loop-at : goal.invariant-loop-at
invariant-loop-at g l = record {
  left : (times : List ℤ) → AreClashTimes g.T.Moment.rank l.points times
      → IsLeft g.K.Sink.stands g.K.Sink.faults l.initial.out l.out (members_text g.T.Moment.canon times) (members_text g.T.Moment.canon (left_behind g.T.Moment.rank l.after times));
  quiet : g.K.Sink.faults l.out ≡ g.K.Sink.faults l.initial.out;
}

abbrev pub decreases-loop-at : goal.decreases-loop-at
decreases-loop-at g l = length (left_behind g.T.Moment.rank l.after (mark_times g.T.Moment.rank l.points))
