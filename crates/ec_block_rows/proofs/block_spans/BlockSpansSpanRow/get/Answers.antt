-- What follows from the calls and the tests before it.
use Rattle.std.proofs.Common.{arith}
use Rattle.std.proofs.lemmas.Grind.{common_steps}
use Rattle.ec_block_rows.proofs.block_spans.BlockSpansSpanRow.get.Goals as goal

pub returns-clause-span : goal.returns-clause-span
returns-clause-span c = grind (arith, common_steps)
