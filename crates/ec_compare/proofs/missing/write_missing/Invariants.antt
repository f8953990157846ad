-- The missing intervals from the place on are left to write.
use Rattle.std.proofs.Common.{◌≡◌}
use Rattle.ec_commands.specs.QueryTexts.{interval_text}
use Rattle.ec_compare.specs.Lists.{missing_behind}
use Rattle.ec_intervals.specs.Steps.{IsIntervalRow}
use Rattle.ec_intervals.specs.Table.{plain_intervals}
use Rattle.ec_query.specs.Members.{members_text}
use Rattle.ec_query.proofs.WritingLemmas.{IsLeft}
use Rattle.ec_compare.proofs.missing.write_missing.Given as goal

abbrev pub invariant-loop-place : goal.invariant-loop-place
invariant-loop-place g l = record {
  left : IsIntervalRow (plain_intervals g.T.Moment.rank (g.B.Listed.members l.those)) →
      IsLeft g.K.Sink.stands g.K.Sink.faults l.initial.out l.out
      (members_text (interval_text g.T.Moment.canon) (missing_behind l.fn.from (plain_intervals g.T.Moment.rank (g.B.Listed.members l.those)) (plain_intervals g.T.Moment.rank (g.A.Listed.members l.these))))
      (members_text (interval_text g.T.Moment.canon) (missing_behind l.place (plain_intervals g.T.Moment.rank (g.B.Listed.members l.those)) (plain_intervals g.T.Moment.rank (g.A.Listed.members l.these))));
  quiet : g.K.Sink.faults l.out ≡ g.K.Sink.faults l.initial.out;
}
