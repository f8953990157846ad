-- The marks behind a begin stand at the end of the row.
use Rattle.std.proofs.Common.{option_map, ap, ◌∙◌}
use Rattle.ec_axioms.specs.Marks.{mark_breaks}
use Rattle.ec_rows.specs.PlainMarks.{plain_mark}
use Rattle.ec_query.proofs.BreakSearch.{behind-initial, behind-none, behind-place}
use Rattle.ec_query.proofs.next_breaks.break_after.Goals as goal

pub returns-in_err-next_after-in-At : goal.returns-in_err-next_after-in-At
returns-in_err-next_after-in-At g c =
    ap (option_map (plain_mark g.T.Moment.rank)) c.from_residual.ensures
    ∙ behind-none g.T.Moment.rank (mark_breaks c.args.strong) (g.M.MarkRow.marks c.args.row.now) c.args.begin c.in-At.at c.in-At.is c.in_err-next_after-in-At.ensures.none

pub returns-in-Initial : goal.returns-in-Initial
returns-in-Initial g c =
    c.break_from.ensures ∙ behind-initial g.T.Moment.rank (mark_breaks c.args.strong) (g.M.MarkRow.marks c.args.row.now) c.args.begin c.in-Initial.is

pub returns-in_ok-next_after-in-At : goal.returns-in_ok-next_after-in-At
returns-in_ok-next_after-in-At g c =
    c.break_from-in-At.ensures
    ∙ behind-place g.T.Moment.rank (mark_breaks c.args.strong) (g.M.MarkRow.marks c.args.row.now) c.args.begin c.in-At.at c.in-At.is c.in_ok-next_after-in-At.field-0 c.in_ok-next_after-in-At.ensures.next
