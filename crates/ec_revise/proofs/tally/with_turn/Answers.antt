-- A turn is counted on its side alone.
use Rattle.std.proofs.Common.{rules}
use Rattle.ec_revise.proofs.tally.with_turn.Goals as goal

pub with_one_more-requires : goal.with_one_more-requires
with_one_more-requires c = search rules

pub with_one_more-requires-else-up : goal.with_one_more-requires-else-up
with_one_more-requires-else-up c = search rules

pub returns-else-up : goal.returns-else-up
returns-else-up c = search rules
