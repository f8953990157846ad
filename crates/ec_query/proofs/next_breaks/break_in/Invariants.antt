-- No mark before this one breaks.
use Rattle.std.proofs.Common.{◌≡◌, false, take}
use Rattle.std.specs.List.{list_any}
use Rattle.ec_axioms.specs.Marks.{mark_breaks}
use Rattle.ec_rows.specs.PlainMarks.{plain_mark}
use Rattle.ec_query.proofs.next_breaks.break_in.Given as goal

abbrev pub invariant-loop-mark : goal.invariant-loop-mark
invariant-loop-mark g l = list_any (λ mark. mark_breaks l.strong (plain_mark g.T.Moment.rank mark)) (take l.mark-index l.run) ≡ false
