-- The empty row is in order.
use Rattle.ec_rows.proofs.TimeLemmas.{IsTimeRow-nil}
use Rattle.ec_block_rows.proofs.block_times.BlockTimesTimeRow.new.Goals as goal

pub invariant_of-result : goal.invariant_of-result
invariant_of-result g c = IsTimeRow-nil g.T.Moment.rank c.new.result.items c.new.ensures
