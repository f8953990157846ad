-- A row without one of its marks is in order.
use Rattle.ec_rows.proofs.MarkLemmas.{IsMarkRow-remove}
use Rattle.ec_block_rows.proofs.block_marks.take_out_mark.Goals as goal

pub returns-clause-row : goal.returns-clause-row
returns-clause-row g c = IsMarkRow-remove g.T.Moment.rank c.args.marks.now.items _ c.args.i c.requires.row c.remove.ensures.items
