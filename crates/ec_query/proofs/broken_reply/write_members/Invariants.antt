-- What is left behind the last begin is left to write.
use Rattle.std.proofs.Common.{length, option_map}
use Rattle.ec_axioms.specs.Marks.{broken_spans_of}
use Rattle.ec_commands.specs.QueryTexts.{broken_text}
use Rattle.ec_rows.specs.PlainMarks.{plain_marks}
use Rattle.ec_intervals.specs.Table.{plain_begin}
use Rattle.ec_query.specs.Members.{members_text}
use Rattle.ec_query.proofs.BrokenLemmas.{left_behind}
use Rattle.ec_query.proofs.WritingLemmas.{IsLeft}
use Rattle.ec_query.proofs.broken_reply.write_members.Given as goal

abbrev pub invariant-loop-found : goal.invariant-loop-found
invariant-loop-found g l =
    IsLeft g.K.Sink.stands g.K.Sink.faults l.initial.out l.out
    (members_text (broken_text g.T.Moment.canon) (broken_spans_of (plain_marks g.T.Moment.rank (g.M.MarkRow.marks l.row)) l.strong l.is_initial))
    (members_text (broken_text g.T.Moment.canon) (left_behind (option_map (plain_begin g.T.Moment.rank) l.after) (broken_spans_of (plain_marks g.T.Moment.rank (g.M.MarkRow.marks l.row)) l.strong l.is_initial)))

abbrev pub decreases-loop-found : goal.decreases-loop-found
decreases-loop-found g l = length (left_behind (option_map (plain_begin g.T.Moment.rank) l.after) (broken_spans_of (plain_marks g.T.Moment.rank (g.M.MarkRow.marks l.row)) l.strong l.is_initial))
