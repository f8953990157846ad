-- The empty row is in order.
use Rattle.ec_rows.proofs.MarkLemmas.{IsMarkRow-nil}
use Rattle.ec_block_rows.proofs.block_marks.BlockMarksMarkRow.new.Goals as goal

pub invariant_of-result : goal.invariant_of-result
invariant_of-result g c = IsMarkRow-nil g.T.Moment.rank c.new.result.items c.new.ensures
