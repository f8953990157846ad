-- The old intervals are those of the row without the mark, which agrees with the new one before and behind it.
use Rattle.std.proofs.Common.{sym, ap, ◌∙◌, arith}
use Rattle.ec_rows.specs.Marks.{marks_before, marks_after}
use Rattle.ec_intervals.specs.Table.{plain_intervals}
use Rattle.ec_intervals.proofs.KeptRows.{members_in-grown}
use Rattle.ec_intervals.proofs.OneMark.{before-with_mark, behind-with_mark}
use Rattle.ec_intervals.proofs.Written.{length-spans_of}
use Rattle.ec_layers.proofs.intervals.mend.Goals as goal

pub splice_from-requires-clause-old : goal.splice_from-requires-clause-old
splice_from-requires-clause-old g c =
    let rank = g.T.Moment.rank in
    let old = g.M.MarkRow.marks c.args.row.now in
    let new = c.put.ensures in
    record {
      old = old;
      row = c.requires.row;
      before = sym (ap (marks_before rank (rank c.args.mark.at)) new ∙ before-with_mark rank c.args.mark old);
      behind = sym (ap (marks_after rank (rank c.args.mark.at)) new ∙ behind-with_mark rank c.args.mark old);
      spelt = ap (plain_intervals rank) (members_in-grown _ _ c.prepare.ensures.grown) ∙ c.requires.spelt;
    }

pub splice_from-requires-clause-room : goal.splice_from-requires-clause-room
splice_from-requires-clause-room g c =
    let most = length-spans_of g.T.Moment.rank (g.M.MarkRow.marks c.put.new.row) c.args.strong c.args.initial c.prepare.ensures.row in
    omega (arith, most, c.prepare.ensures.room)
