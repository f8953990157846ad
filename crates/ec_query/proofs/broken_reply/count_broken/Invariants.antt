-- All but what is left behind the last begin was counted.
use Rattle.std.proofs.Common.{◌≡◌, ◌-◌, ◌≤◌, length, option_map}
use Rattle.std.specs.Prelude.{◌^◌, min}
use Rattle.ec_axioms.specs.Marks.{broken_spans_of}
use Rattle.ec_rows.specs.PlainMarks.{plain_marks}
use Rattle.ec_intervals.specs.Table.{plain_begin}
use Rattle.ec_query.proofs.BrokenLemmas.{left_behind}
use Rattle.ec_query.proofs.broken_reply.count_broken.Given as goal

abbrev pub invariant-loop-found : goal.invariant-loop-found
invariant-loop-found g l = record {
  counted : l.count ≡ min (length (broken_spans_of (plain_marks g.T.Moment.rank (g.M.MarkRow.marks l.row)) l.strong l.is_initial)
      - length (left_behind (option_map (plain_begin g.T.Moment.rank) l.after) (broken_spans_of (plain_marks g.T.Moment.rank (g.M.MarkRow.marks l.row)) l.strong l.is_initial))) (2 ^ 64 - 1);
  within : length (left_behind (option_map (plain_begin g.T.Moment.rank) l.after) (broken_spans_of (plain_marks g.T.Moment.rank (g.M.MarkRow.marks l.row)) l.strong l.is_initial))
      ≤ length (broken_spans_of (plain_marks g.T.Moment.rank (g.M.MarkRow.marks l.row)) l.strong l.is_initial);
}

abbrev pub decreases-loop-found : goal.decreases-loop-found
decreases-loop-found g l = length (left_behind (option_map (plain_begin g.T.Moment.rank) l.after) (broken_spans_of (plain_marks g.T.Moment.rank (g.M.MarkRow.marks l.row)) l.strong l.is_initial))
